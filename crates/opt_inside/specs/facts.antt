pub mod ByNumber
pub mod Problem
pub mod Folds
pub mod Solved
