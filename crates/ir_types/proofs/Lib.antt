pub mod Places
pub mod Kept
pub mod Handles
pub mod Bodies
