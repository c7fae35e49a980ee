pub mod Early
pub mod Passed
pub mod Flaws
pub mod Asked
pub mod Answered
