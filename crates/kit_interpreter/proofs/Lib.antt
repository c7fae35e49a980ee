pub mod Places
pub mod ValueTests
pub mod Sets
pub mod Tables
pub mod Lowered
pub mod Bodies
pub mod Fitting
pub mod Chosen
