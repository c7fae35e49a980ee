pub mod SearchSteps
pub mod Fronts
pub mod KeptTokens
pub mod Lines
pub mod AppendedSections
pub mod SectionWord
pub mod Places
