pub mod KnownNames
pub mod Visited
