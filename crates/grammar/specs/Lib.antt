pub mod Parse
pub mod Flat
pub mod Told
pub mod Answers
pub mod Numbers
pub mod Operator
pub mod Types
