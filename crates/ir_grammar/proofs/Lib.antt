pub mod Derivations
pub mod Closing
pub mod Steps
pub mod Ends
pub mod Checks
pub mod Changes
pub mod Depths
pub mod Lookups
