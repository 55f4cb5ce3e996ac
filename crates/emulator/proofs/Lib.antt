pub mod Stores
pub mod Log
pub mod Turns
