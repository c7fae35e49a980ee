pub mod PrintingLemmas
pub mod QuoteLemmas
pub mod ReadAgain
