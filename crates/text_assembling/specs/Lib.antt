pub mod Assembling
pub mod Steps
