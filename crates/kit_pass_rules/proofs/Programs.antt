-- What trees of a program are.
pub mod ProgramDefiners
