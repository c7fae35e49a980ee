use Rattle.ir_forest.proofs.BuiltSteps.{built_by_deeds}
use Rattle.ir_forest.proofs.BuiltTrees.{run_tree, forest_is_built}
use Rattle.ir_forest.proofs.laws.built_tree.Goals as goal

pub returns : goal.returns
returns c = record { runs = built_by_deeds; tree = run_tree; forest = forest_is_built }
