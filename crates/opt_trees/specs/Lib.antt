pub mod Occurrences
pub mod Dialect
pub mod Facts
pub mod Sccp
pub mod Dce
pub mod Simplify
pub mod Laws
