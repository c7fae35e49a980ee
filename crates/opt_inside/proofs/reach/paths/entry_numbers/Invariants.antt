use Rattle.std.proofs.Common.{◌≡◌, ℕ, Some, slice_get}
use Rattle.ir_program.specs.declared.handles.Ptr.{Ptr}
use Rattle.ir_program.specs.declared.handles.BasicBlock.{BasicBlock}
use Rattle.opt_inside.specs.reach.Paths.{IsEntry}
use Rattle.opt_inside.proofs.ReachLemmas.Marks.{Gathers}
use Rattle.opt_inside.proofs.reach.paths.entry_numbers.Given as goal

-- the numbers of the entries among the first ones
abbrev pub invariant-loop-number : goal.invariant-loop-number
invariant-loop-number g l = Gathers (λ (k n : ℕ). (k ≡ n) × (b : Ptr BasicBlock) × (slice_get l.blocks k ≡ Some b) × IsEntry l.program b) l.row.items l.number
