pub mod Delimited
pub mod Lists
pub mod Members
pub mod Repeated
pub mod Signs
