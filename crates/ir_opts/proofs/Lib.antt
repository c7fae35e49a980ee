mod ThreePhases
mod Involutions
mod SimplifiedNames
mod SimplifiedTrees
mod WholeTrees
pub mod JoiningLemmas
pub mod RewritingLemmas
