use Rattle.ir_queries.proofs.ResultUses.{IsCountBelow}
use Rattle.ir_queries.proofs.uses.count_of_result_uses.Given as goal

abbrev pub invariant-loop-i : goal.invariant-loop-i
invariant-loop-i g l = IsCountBelow l.program l.op l.i l.count
