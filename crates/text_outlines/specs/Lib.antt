pub mod Signs
pub mod Names
pub mod Members
pub mod Entries
pub mod Sections
