pub mod Slots
pub mod Vacant
