pub mod Asked
pub mod Held
pub mod OneRun
pub mod Blocks
pub mod EndToEnd
pub mod Answering
pub mod Running
pub mod Compiling
