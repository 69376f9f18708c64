pub mod Message
pub mod Judging
