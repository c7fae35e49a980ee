pub mod Computed
pub mod Follows
mod NextTokens
mod OneReading
