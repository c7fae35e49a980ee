pub mod PrunedTrees
pub mod PrunedSites
pub mod PrunedScopes
pub mod PrunedKinds
pub mod PlacementRules
pub mod EdgeRules
pub mod LocalRules
pub mod AllRules
