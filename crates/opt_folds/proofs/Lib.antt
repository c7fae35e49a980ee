pub mod Picked
pub mod Constants
pub mod Wanted
