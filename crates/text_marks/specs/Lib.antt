pub mod Marks
pub mod MarkOrs
