pub mod Operate
pub mod Moving
pub mod Changing
pub mod Running
pub mod Whole
