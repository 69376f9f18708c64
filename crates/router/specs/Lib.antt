pub mod Clock
pub mod Accept
pub mod Timed
