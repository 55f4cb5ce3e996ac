pub mod Places
pub mod Operators
pub mod Expressions
pub mod Statements
pub mod Image
pub mod Owed
pub mod Vectors
pub mod Costs
