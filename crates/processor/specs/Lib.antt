pub mod Machine
pub mod Formats
pub mod Instructions
pub mod Execute
pub mod Run
pub mod Image
pub mod Examples
pub mod Edges
