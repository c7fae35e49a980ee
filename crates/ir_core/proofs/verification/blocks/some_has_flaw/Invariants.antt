use Rattle.ir_program.specs.Preorder.{nodes_inside}
use Rattle.ir_core.specs.verification.Endings.{IsFlawed}
use Rattle.ir_core.proofs.VerificationLemmas.Passed.{HasPassed}
use Rattle.ir_core.proofs.verification.blocks.some_has_flaw.Given as goal

abbrev pub invariant-loop-node : goal.invariant-loop-node
invariant-loop-node g l = HasPassed (λ node. IsFlawed g.D.DialectTables.op_has l.ctx.program l.flaw node → ⊥) (nodes_inside l.ctx.program l.fn.outer) l.node-iterator
