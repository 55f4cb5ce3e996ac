pub mod Choice
pub mod Word
pub mod Bytes
pub mod Integers
pub mod Examples
