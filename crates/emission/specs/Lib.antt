pub mod Tape
pub mod Macros
pub mod OnTape
