pub mod SegmentFaults
pub mod Symbols
pub mod Users
pub mod Tables
