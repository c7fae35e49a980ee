pub mod ReadModules
pub mod ReadLemmas
pub mod HoldingLemmas
pub mod WrittenLemmas
pub mod PassLemmas
pub mod EndLemmas
