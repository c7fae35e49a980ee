pub mod Dialect
pub mod Endings
pub mod Tests
pub mod Verified
