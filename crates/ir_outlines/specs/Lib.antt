pub mod Marks
pub mod Section
