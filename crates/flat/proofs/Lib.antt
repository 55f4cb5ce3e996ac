pub mod Bind
pub mod Scan
pub mod Same
pub mod Decode
pub mod Writing
pub mod Run
pub mod Examples
pub mod Tables
