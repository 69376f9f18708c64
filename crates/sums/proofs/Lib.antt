pub mod Bytes
pub mod Folding
pub mod Laws
pub mod Checksum
pub mod Theorems
pub mod Numbers
