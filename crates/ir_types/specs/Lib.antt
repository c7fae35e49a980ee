pub mod Views
pub mod Interned
pub mod Lends
