pub mod Theorems
pub mod Histories
pub mod Counts
pub mod Standing
pub mod Rows
pub mod Kept
