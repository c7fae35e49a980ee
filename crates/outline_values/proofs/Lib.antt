pub mod Ids
pub mod Listed
pub mod Places
