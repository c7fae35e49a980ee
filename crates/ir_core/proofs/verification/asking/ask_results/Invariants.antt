use Rattle.ir_program.specs.Program.{results_at}
use Rattle.ir_core.specs.verification.Tests.{tests_of_types}
use Rattle.ir_core.proofs.VerificationLemmas.Asked.{AcceptBelow}
use Rattle.ir_core.proofs.verification.asking.ask_results.Given as goal

abbrev pub invariant-loop-i : goal.invariant-loop-i
invariant-loop-i g l = AcceptBelow (g.V.Verifiers.accepts l.verifiers l.ctx) (tests_of_types (results_at l.ctx.program l.op)) l.i
