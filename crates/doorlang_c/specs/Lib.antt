pub mod Told
pub mod Checking
pub mod Interpretation
pub mod Compilation
pub mod Emulation
