use Rattle.ir_program.specs.Program.{arguments_at}
use Rattle.ir_core.specs.verification.Tests.{tests_of_types}
use Rattle.ir_core.proofs.VerificationLemmas.Asked.{AcceptBelow}
use Rattle.ir_core.proofs.verification.asking.ask_arguments.Given as goal

abbrev pub invariant-loop-i : goal.invariant-loop-i
invariant-loop-i g l = AcceptBelow (g.V.Verifiers.accepts l.verifiers l.ctx) (tests_of_types (arguments_at l.ctx.program l.block)) l.i
