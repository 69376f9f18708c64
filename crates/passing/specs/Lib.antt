pub mod Passing
pub mod Elapsed
