use Rattle.std.proofs.Common.{ℕ}
use Rattle.ir_program.specs.Rows.{operands_at, successors_at}
use Rattle.ir_program.specs.declared.handles.Ptr.{Ptr}
use Rattle.ir_program.specs.declared.handles.BasicBlock.{BasicBlock}
use Rattle.kit_checks.specs.Handing.{FitBlockArguments, segment_of}
use Rattle.kit_checks.specs.World.{world_of}
use Rattle.kit_checks.proofs.Handed.{IsBehind}
use Rattle.kit_checks.proofs.Rows.{EachBelow}
use Rattle.kit_checks.proofs.edges.segments_fit.Given as goal

-- their segments fit the blocks that were seen, and this is where the next one begins
abbrev pub invariant-loop-index : goal.invariant-loop-index
invariant-loop-index l = record {
  fit : EachBelow (λ (edge : ℕ) (b : Ptr BasicBlock). FitBlockArguments (world_of l.ctx) l.ctx.program (segment_of (operands_at l.ctx.program l.op) l.sizes edge) b) (successors_at l.ctx.program l.op) l.index;
  next : IsBehind (operands_at l.ctx.program l.op) l.sizes l.index l.first;
}
