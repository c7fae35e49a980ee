pub mod Keys
pub mod Listed
