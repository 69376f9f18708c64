pub mod Leading
pub mod Onward
pub mod Lives
pub mod Calls
pub mod Theorems
