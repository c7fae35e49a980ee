pub mod Mentions
pub mod Names
