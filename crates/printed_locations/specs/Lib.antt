pub mod Printed
pub mod Tokens
