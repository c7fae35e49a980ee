pub mod Machine
pub mod View
pub mod Sound
pub mod Shows
pub mod Forms
pub mod Renames
pub mod Formed
