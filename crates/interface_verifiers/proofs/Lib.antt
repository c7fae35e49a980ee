pub mod Accepted
pub mod FaultLemmas
pub mod ListLemmas
