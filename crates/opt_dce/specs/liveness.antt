pub mod Plans
pub mod Problems
pub mod Taken
