pub mod Branches
pub mod Results
