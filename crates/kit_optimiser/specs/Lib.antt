pub mod Passed
pub mod Outside
pub mod Functions
pub mod Programs
pub mod Laws
