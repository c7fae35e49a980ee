use Rattle.ir_program.specs.Program.{arguments_at}
use Rattle.text_rereading.proofs.SmallNumbers.{DefinesSmallUpTo}
use Rattle.text_rereading.proofs.names.know_arguments.Given as goal

abbrev pub invariant-loop-index : goal.invariant-loop-index
invariant-loop-index g l = DefinesSmallUpTo (arguments_at l.program l.block) l.index
