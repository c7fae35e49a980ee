pub mod Locations
pub mod Numbers
pub mod Positions
pub mod Quotes
pub mod Reading
pub mod Spaces
pub mod Streams
