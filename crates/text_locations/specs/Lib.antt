pub mod Faults
pub mod Firsts
pub mod Locations
pub mod Places
pub mod Texts
pub mod Tokens
