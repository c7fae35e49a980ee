pub mod Items
pub mod Tally
