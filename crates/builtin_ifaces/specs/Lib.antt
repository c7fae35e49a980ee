pub mod Attributes
pub mod Segments
pub mod Branches
pub mod Calls
pub mod Symbols
pub mod Types
pub mod Interfaces
