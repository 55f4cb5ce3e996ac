pub mod Does
pub mod Vectors
