pub mod Messages
pub mod Passing
pub mod Accepted
