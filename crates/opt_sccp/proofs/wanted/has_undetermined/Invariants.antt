-- No operand before the index is undetermined.
use Rattle.ir_program.specs.Rows.{operands_at}
use Rattle.ir_trees.specs.Stands.{by_handle}
use Rattle.opt_inside.specs.facts.ByNumber.{AreFactsBy}
use Rattle.opt_inside.specs.Numbered.{numbers_of}
use Rattle.opt_trees.specs.Facts.{Facts}
use Rattle.opt_sccp.proofs.WantedAt.{NoneBefore}
use Rattle.opt_sccp.proofs.wanted.has_undetermined.Given as goal

abbrev pub invariant-loop-i : goal.invariant-loop-i
invariant-loop-i g l = (k : Facts by_handle g.row.A.Denot) → AreFactsBy (numbers_of l.inside) l.facts.runs.items l.facts.known.items k → NoneBefore k (operands_at l.program l.op) l.i
