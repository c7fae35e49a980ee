pub mod Terminators
pub mod Within
