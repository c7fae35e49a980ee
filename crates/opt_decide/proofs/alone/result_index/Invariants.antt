use Rattle.ir_program.specs.Program.{results_at}
use Rattle.opt_decide.proofs.Found.{NotAmong}
use Rattle.opt_decide.proofs.alone.result_index.Given as goal

-- it is none of the first results
abbrev pub invariant-loop-i : goal.invariant-loop-i
invariant-loop-i g l = NotAmong (results_at l.program l.op) l.value l.i
