pub mod Outcomes
pub mod Tested
pub mod Lawful
