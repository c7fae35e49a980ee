pub mod Arithmetic
pub mod Keys
pub mod Kinds
pub mod Named
pub mod Table
