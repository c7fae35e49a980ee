pub mod Cached
pub mod Fresh
pub mod Filled
pub mod Reading
pub mod Settings
