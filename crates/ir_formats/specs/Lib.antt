pub mod Rules
pub mod Making
pub mod Predicting
pub mod Given
pub mod Words
pub mod Spelling
pub mod Ordered
