pub mod Waiting
pub mod Opened
pub mod Frames
pub mod Worlds
pub mod Raised
pub mod Makes
pub mod Linking
pub mod building
