-- No operation before the index lacks an operand.
use Rattle.ir_trees.specs.Stands.{by_handle}
use Rattle.opt_inside.specs.facts.ByNumber.{AreFactsBy}
use Rattle.opt_inside.specs.Numbered.{numbers_of}
use Rattle.opt_trees.specs.Facts.{Facts}
use Rattle.opt_sccp.proofs.WantedAt.{NoneLacks}
use Rattle.opt_sccp.proofs.wanted.is_lacking.Given as goal

abbrev pub invariant-loop-op : goal.invariant-loop-op
invariant-loop-op g l = (k : Facts by_handle g.row.D-Constant.Denot) → AreFactsBy (numbers_of l.inside) l.facts.runs.items l.facts.known.items k → NoneLacks g.D.Meanings.meaning l.program k l.inside.operations.keys l.op-index
