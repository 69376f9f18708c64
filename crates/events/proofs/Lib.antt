pub mod Matching
pub mod Listed
pub mod Acted
pub mod Sought
pub mod Ticking
pub mod Answers
