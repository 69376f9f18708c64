pub mod Segment
pub mod Theorems
pub mod Examples
