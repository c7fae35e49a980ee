use Rattle.std.proofs.Common.{◌⊎◌}
use Rattle.ir_program.specs.Rows.{operands_at}
use Rattle.ir_trees.specs.Searched.{Lists}
use Rattle.opt_inside.specs.Numbered.{numbers_of}
use Rattle.opt_dce.specs.liveness.Problems.{IsPinned, ListsDefiners}
use Rattle.opt_dce.proofs.LivenessLemmas.Kept.{ValuesBelow}
use Rattle.opt_dce.proofs.liveness.keeping.kept_definers.Given as goal

abbrev pub invariant-loop-value : goal.invariant-loop-value
invariant-loop-value g l = ListsDefiners (numbers_of l.inside) (λ v. Lists (operands_at l.program l.op) v ⊎ ValuesBelow l.inside.values.keys (IsPinned l.program l.op) l.value-index v) l.kept.items
