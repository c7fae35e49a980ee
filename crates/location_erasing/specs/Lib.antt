pub mod Chosen
pub mod Located
