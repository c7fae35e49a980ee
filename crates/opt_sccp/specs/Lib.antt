pub mod Puts
pub mod Made
pub mod Placed
pub mod Wanted
pub mod Sccp
