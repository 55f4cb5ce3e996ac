pub mod Symbolic
pub mod Real
pub mod Fine
pub mod Examples
