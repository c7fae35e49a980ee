pub mod Binds
pub mod Places
pub mod Steps
pub mod Runs
pub mod Renamed
pub mod Natural
pub mod Fitting
