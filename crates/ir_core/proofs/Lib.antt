pub mod EditsLemmas
pub mod VerificationLemmas
