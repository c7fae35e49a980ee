pub mod Phases
pub mod Removed
pub mod Refusals
