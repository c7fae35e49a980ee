pub mod Asked
pub mod Lists
pub mod Named
pub mod Running
pub mod Makings
pub mod Listing
pub mod Kept
pub mod Refused
