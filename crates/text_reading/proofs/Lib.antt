pub mod Judged
pub mod Places
pub mod Renamed
pub mod TextFaults
pub mod Understood
