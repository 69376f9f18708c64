mod Named
mod Stored
