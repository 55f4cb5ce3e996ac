pub mod Settled
pub mod Results
pub mod Otherwise
