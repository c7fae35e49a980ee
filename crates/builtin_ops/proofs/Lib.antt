pub mod BuildingLemmas
pub mod FunctionLemmas
pub mod NameLemmas
