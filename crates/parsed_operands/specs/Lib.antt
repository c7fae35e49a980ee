pub mod Definitions
pub mod Operands
