pub mod Tokens
pub mod Faults
pub mod Numbers
