-- How many operations a module has.
use Rattle.std.specs.Prelude.{ℕ, length}
use Rattle.ir_trees.specs.Names.{Names}
use Rattle.ir_trees.specs.Trees.{Root}
use Rattle.opt_trees.specs.Occurrences.{occurrences_of}
use Rattle.kit_views.specs.Reading.{kit_contents}

-- how many operations a tree has below its root, at any depth
abbrev pub operations_below : {N : Names} → Root N kit_contents → ℕ
operations_below t = length (occurrences_of t)
