pub mod DeadLeft
pub mod ConstantsLeft
pub mod SomeDecided
pub mod FlowLeft
pub mod Outcomes
