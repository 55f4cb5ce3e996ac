pub mod Kinds
pub mod Seen
pub mod Told
pub mod Numbers
