pub mod Meaning
pub mod Lawful
pub mod Sparse
pub mod Lone
