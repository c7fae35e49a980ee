pub mod Integers
pub mod Dicts
pub mod Lends
