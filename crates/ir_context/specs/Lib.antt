pub mod Views
pub mod Known
pub mod Holders
pub mod Kept
pub mod Refusals
pub mod Lends
pub mod Chosen
pub mod Regions
