pub mod Printed
pub mod Inverse
pub mod Places
