pub mod Bounds
pub mod Tables
pub mod Named
pub mod Scan
pub mod Values
pub mod Post
pub mod Statements
