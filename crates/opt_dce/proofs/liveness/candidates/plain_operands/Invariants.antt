use Rattle.std.proofs.Common.{◌≡◌, length}
use Rattle.opt_inside.specs.Numbered.{numbers_of}
use Rattle.opt_dce.specs.liveness.Problems.{AreOperandsOf}
use Rattle.opt_dce.proofs.liveness.candidates.plain_operands.Given as goal

abbrev pub invariant-loop-index : goal.invariant-loop-index
invariant-loop-index g l = record {
  len : length l.operands.items ≡ l.index;
  operands : AreOperandsOf g.D.Meanings.meaning l.program (numbers_of l.inside) l.op l.operands.items;
}
