pub mod Booleans
pub mod Exact
mod FormatLoops
mod NextValues
pub mod SharedTokens
mod Words
