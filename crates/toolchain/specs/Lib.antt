pub mod Refusals
pub mod Emulation
pub mod Checking
pub mod Interpretation
pub mod Compilation
pub mod EndToEnd
pub mod Accepting
