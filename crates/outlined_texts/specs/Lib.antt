pub mod Sections
pub mod Searching
pub mod Splits
pub mod Appended
