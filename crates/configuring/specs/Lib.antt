pub mod Configuring
