pub mod Sound
pub mod Nested
pub mod Outside
