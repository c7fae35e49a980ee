pub mod WordLemmas
pub mod ParseLemmas
