pub mod Items
pub mod Statements
pub mod Words
pub mod Fits
pub mod Numbers
