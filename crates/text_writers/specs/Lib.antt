pub mod Appending
pub mod Printers
pub mod Regions
pub mod Separators
pub mod States
