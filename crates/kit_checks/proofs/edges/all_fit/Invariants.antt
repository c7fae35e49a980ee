use Rattle.std.proofs.Common.{ℕ}
use Rattle.ir_program.specs.Rows.{operands_at, successors_at}
use Rattle.ir_program.specs.declared.handles.Ptr.{Ptr}
use Rattle.ir_program.specs.declared.handles.BasicBlock.{BasicBlock}
use Rattle.kit_checks.specs.Handing.{FitBlockArguments}
use Rattle.kit_checks.specs.World.{world_of}
use Rattle.kit_checks.proofs.Rows.{EachBelow}
use Rattle.kit_checks.proofs.edges.all_fit.Given as goal

-- the operands fit the blocks that were seen
abbrev pub invariant-loop-index : goal.invariant-loop-index
invariant-loop-index l = EachBelow (λ (edge : ℕ) (b : Ptr BasicBlock). FitBlockArguments (world_of l.ctx) l.ctx.program (operands_at l.ctx.program l.op) b) (successors_at l.ctx.program l.op) l.index
