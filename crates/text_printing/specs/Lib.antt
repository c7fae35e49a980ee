pub mod Printing
pub mod Added
pub mod PartPrinted
pub mod Again
