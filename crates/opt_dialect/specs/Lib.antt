pub mod Masks
pub mod Removable
pub mod Statuses
