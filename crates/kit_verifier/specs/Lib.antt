pub mod Sets
pub mod Reading
pub mod Repeats
pub mod Callees
pub mod Scopes
pub mod Tables
pub mod Names
pub mod Rows
