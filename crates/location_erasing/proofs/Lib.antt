pub mod ChosenLemmas
pub mod Turning
pub mod Locating
