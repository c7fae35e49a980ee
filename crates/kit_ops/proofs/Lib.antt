pub mod Widths
pub mod Operators
