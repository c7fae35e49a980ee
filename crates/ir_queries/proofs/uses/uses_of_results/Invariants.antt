use Rattle.ir_queries.specs.Results.{AreUsesWhere}
use Rattle.ir_queries.proofs.ResultUses.{IsResultBelow}
use Rattle.ir_queries.proofs.uses.uses_of_results.Given as goal

abbrev pub invariant-loop-i : goal.invariant-loop-i
invariant-loop-i g l = AreUsesWhere l.program (IsResultBelow l.program l.op l.i) l.uses.items
