pub mod Comparing
pub mod Stops
pub mod Decides
pub mod Growing
pub mod Spent
pub mod Always
