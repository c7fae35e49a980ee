pub mod Ranges
pub mod Rows
pub mod Rules
pub mod Interfaces
