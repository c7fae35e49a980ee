pub mod Names
pub mod Places
pub mod Texts
pub mod Values
