use Rattle.ir_program.specs.Preorder.{nodes_inside}
use Rattle.ir_core.specs.verification.Tests.{operation_tests_of}
use Rattle.ir_core.proofs.VerificationLemmas.Passed.{HasPassed, AcceptsAll}
use Rattle.ir_core.proofs.verification.asking.ask_operations_inside.Given as goal

abbrev pub invariant-loop-node : goal.invariant-loop-node
invariant-loop-node g l = HasPassed (AcceptsAll (g.V.Verifiers.accepts l.verifiers l.ctx) (g.V.Verifiers.answers l.verifiers l.ctx) (operation_tests_of l.ctx.program)) (nodes_inside l.ctx.program l.fn.outer) l.node-iterator
