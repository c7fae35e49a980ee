pub mod FactsTables
pub mod FactsLaw
pub mod FactsSeen
pub mod FactsSolving
pub mod ChainsFollowed
pub mod DeadRows
pub mod DeadUses
pub mod DeadItems
