pub mod Seen
pub mod Standing
pub mod Printed
pub mod Making
pub mod Ids
pub mod formats
