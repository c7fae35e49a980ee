pub mod Fronts
pub mod Names
pub mod Optional
pub mod Said
pub mod Whole
