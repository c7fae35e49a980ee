pub mod Accepted
pub mod Decided
pub mod Test
pub mod Tokens
pub mod Values
