pub mod Arguments
pub mod Numbers
pub mod Places
pub mod Shown
pub mod Table
