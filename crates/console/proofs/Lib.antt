pub mod Arms
pub mod Compared
pub mod Folds
pub mod Phases
pub mod Showing
pub mod Tied
