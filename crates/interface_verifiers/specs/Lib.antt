pub mod Summary
pub mod BuiltinRules
pub mod Wanted
pub mod Faults
pub mod Conditions
