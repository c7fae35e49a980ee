use Rattle.std.proofs.Common.{◌≡◌, ◌<◌, ℕ, Some, slice_get}
use Rattle.ir_program.specs.Rows.{successors_at}
use Rattle.ir_program.specs.declared.handles.Ptr.{Ptr}
use Rattle.ir_program.specs.declared.handles.BasicBlock.{BasicBlock}
use Rattle.opt_inside.specs.forwarding.Local.{IsLocalEdge}
use Rattle.opt_inside.proofs.forwarding.local.leads_locally.Given as goal

abbrev pub invariant-loop-index : goal.invariant-loop-index
invariant-loop-index g l = (k : ℕ) → k < l.index → (s : Ptr BasicBlock) → slice_get (successors_at l.program l.op) k ≡ Some s → IsLocalEdge g.D.Meanings.meaning.is_terminator l.program l.op s
