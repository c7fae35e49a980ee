pub mod Rows
pub mod Lists
pub mod OperationLists
pub mod FactsTaking
pub mod FactsFalling
pub mod FactsEntering
pub mod Linking
pub mod DeadCandidates
