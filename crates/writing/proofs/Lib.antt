pub mod Checksums
pub mod Pasting
pub mod Writes
