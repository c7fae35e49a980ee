pub mod lists
pub mod defined
pub mod used
pub mod rows
pub mod made
pub mod erased
