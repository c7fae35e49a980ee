pub mod CommandLine
pub mod Lines
pub mod Requests
pub mod Parses
