use Rattle.ir_program.specs.Program.{results_at}
use Rattle.text_rereading.proofs.SmallNumbers.{DefinesSmallUpTo}
use Rattle.text_rereading.proofs.names.know_results.Given as goal

abbrev pub invariant-loop-index : goal.invariant-loop-index
invariant-loop-index g l = DefinesSmallUpTo (results_at l.program l.op) l.index
