pub mod Forwarded
pub mod Tables
