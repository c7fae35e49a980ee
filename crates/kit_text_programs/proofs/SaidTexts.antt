pub mod AttributeMaps
pub mod SameLists
pub mod SaidMeanings
pub mod SaidAttributes
pub mod MeantHeads
pub mod MeantTrees
pub mod SameTexts
