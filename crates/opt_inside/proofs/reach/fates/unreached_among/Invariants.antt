use Rattle.std.proofs.Common.{◌≡◌, ℕ, Some, slice_get}
use Rattle.ir_program.specs.declared.handles.Ptr.{Ptr}
use Rattle.ir_program.specs.declared.handles.BasicBlock.{BasicBlock}
use Rattle.ir_trees.specs.Searched.{AreDistinct}
use Rattle.opt_inside.specs.declared.reach.fates.Fate.TheVariants.{Unreached}
use Rattle.opt_inside.proofs.ReachLemmas.Marks.{Gathers}
use Rattle.opt_inside.proofs.reach.fates.unreached_among.Given as goal

-- those of the first blocks that become unreached
abbrev pub invariant-loop-number : goal.invariant-loop-number
invariant-loop-number l = record {
  listed : Gathers (λ (k : ℕ) (b : Ptr BasicBlock). (slice_get l.blocks k ≡ Some b) × (slice_get l.fates k ≡ Some Unreached)) l.unreached.items l.number;
  once : AreDistinct l.unreached.items;
}
