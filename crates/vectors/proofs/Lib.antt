pub mod Endless
pub mod Judge
pub mod Vectors
