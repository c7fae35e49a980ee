pub mod Keys
pub mod Built
pub mod Made
pub mod Names
pub mod Asked
