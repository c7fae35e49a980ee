pub mod TestedTexts
pub mod Indices
pub mod SaidTypes
pub mod ShownOnce
pub mod PairedNumbers
pub mod NumberedTypes
pub mod ClosedTypes
pub mod TextTypes
