use Rattle.std.proofs.Common.{ℕ, ◌≡◌, Some, slice_get, length}
use Rattle.kit_flat.specs.declared.flat.FlatBlock.{FlatBlock}
use Rattle.kit_places.specs.Numbers.{block_with}
use Rattle.kit_interpreter.specs.Lowering.{LowersBlock}
use Rattle.kit_interpreter.proofs.lowering.lower_blocks.Given as goal

abbrev pub invariant-loop-i : goal.invariant-loop-i
invariant-loop-i l = record {
  len : length l.lowered.items ≡ l.i;
  each : (i : ℕ) (x : FlatBlock) → slice_get l.lowered.items i ≡ Some x
      → LowersBlock l.ctx l.functions.outer l.values.keys l.blocks.keys l.functions.handles.keys
      (block_with l.blocks.keys i) x;
}
