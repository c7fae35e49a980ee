pub mod Phase
pub mod Planned
pub mod Replaced
