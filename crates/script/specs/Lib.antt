pub mod Kinds
pub mod Segment
pub mod Checks
pub mod Record
pub mod Lines
pub mod Script
pub mod Progress
