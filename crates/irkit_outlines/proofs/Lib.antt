pub mod Answered
pub mod Fronts
pub mod Passed
pub mod Refused
