use Rattle.std.proofs.Common.{◌≡◌, ℕ, ◌<◌, Some, slice_get}
use Rattle.ir_program.specs.Rows.{successors_at}
use Rattle.ir_program.specs.declared.handles.Ptr.{Ptr}
use Rattle.ir_program.specs.declared.handles.BasicBlock.{BasicBlock}
use Rattle.builtin_ifaces.specs.Branches.{SuccessorFits}
use Rattle.builtin_ifaces.proofs.branches.expect_edges.Given as goal

-- the edges that were seen fit
abbrev pub invariant-loop-s : goal.invariant-loop-s
invariant-loop-s g l = (k : ℕ) (block : Ptr BasicBlock) → k < l.s → slice_get (successors_at l.ctx.program l.op) k ≡ Some block → SuccessorFits g.D.BuiltinDialect.held_sizes g.D.BuiltinDialect.segment_count l.ctx.program l.op l.layout k block
