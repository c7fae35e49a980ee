pub mod BuiltSteps
pub mod BuiltTrees
pub mod BuiltEnds
pub mod BuiltRefusals
pub mod PiecesBehind
