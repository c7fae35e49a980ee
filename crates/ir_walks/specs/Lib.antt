pub mod Levels
pub mod Walks
pub mod Places
pub mod Calls
pub mod Turns
pub mod Laws
