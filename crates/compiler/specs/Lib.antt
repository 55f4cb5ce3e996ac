pub mod Code
pub mod Lies
pub mod Standing
pub mod Post
pub mod Blocks
pub mod Functions
pub mod Programs
