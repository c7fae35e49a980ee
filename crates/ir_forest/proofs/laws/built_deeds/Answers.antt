use Rattle.ir_forest.proofs.BuiltTrees.{built_deeds, built_forest}
use Rattle.ir_forest.proofs.laws.built_deeds.Goals as goal

pub returns : goal.returns
returns c = record { deeds = built_deeds; forest = built_forest }
