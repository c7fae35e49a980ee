-- Handles stay apart where chains are joined.
pub mod OccurrenceLemmas
pub mod JoinedLaw
