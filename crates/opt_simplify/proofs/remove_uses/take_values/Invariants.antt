use Rattle.std.proofs.Common.{◌≡◌, ℕ, ◌<◌, Some, slice_get}
use Rattle.ir_program.specs.Erased.{definer_node}
use Rattle.ir_program.specs.declared.handles.Value.{Value}
use Rattle.ir_trees.specs.Searched.{Lists}
use Rattle.opt_simplify.specs.Removed.{IsTakenBy}
use Rattle.opt_simplify.proofs.remove_uses.take_values.Given as goal

-- none up to here is so taken
abbrev pub invariant-loop-value : goal.invariant-loop-value
invariant-loop-value g l = (k : ℕ) (v : Value) → k < l.value-index → slice_get l.values k ≡ Some v → Lists l.nodes.keys (definer_node v.definer) → IsTakenBy l.program l.nodes.keys v → ⊥
