pub mod Scopes
pub mod Depth
pub mod Naming
pub mod Orders
