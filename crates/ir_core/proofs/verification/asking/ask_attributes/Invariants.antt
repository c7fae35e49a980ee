use Rattle.ir_core.specs.verification.Tests.{tests_of_attributes}
use Rattle.ir_core.proofs.VerificationLemmas.Passed.{HasPassed}
use Rattle.ir_core.proofs.verification.asking.ask_attributes.Given as goal

abbrev pub invariant-loop-name : goal.invariant-loop-name
invariant-loop-name g l = HasPassed (g.V.Verifiers.accepts l.verifiers l.ctx) (tests_of_attributes l.fn.attributes) (tests_of_attributes l._name-iterator)
