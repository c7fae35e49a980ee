pub mod Example
pub mod Language
pub mod Readings
