pub mod Changes
pub mod Ways
pub mod Passes
pub mod Ends
