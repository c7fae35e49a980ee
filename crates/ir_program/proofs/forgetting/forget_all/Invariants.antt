use Rattle.ir_program.proofs.erased.ForgetSteps.{ForgetsTo}
use Rattle.ir_program.proofs.forgetting.forget_all.Given as goal

abbrev pub invariant-loop-definition : goal.invariant-loop-definition
invariant-loop-definition l = ForgetsTo l.fn.values l.values l.definitions l.definition-index
