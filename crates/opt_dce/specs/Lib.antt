pub mod Steps
pub mod Thins
pub mod liveness
