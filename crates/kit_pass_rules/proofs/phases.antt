pub mod CarriedTrees
pub mod RenamedTrees
pub mod DecidedTrees
pub mod CutTrees
