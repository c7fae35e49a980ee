pub mod Places
pub mod Pieces
pub mod OneToken
pub mod Columns
pub mod Inside
pub mod Readings
pub mod Formats
pub mod Taking
