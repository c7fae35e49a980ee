use Rattle.std.proofs.Common.{ℕ, ◌≡◌, Some, slice_get, length}
use Rattle.kit_flat.specs.declared.flat.FlatFunction.{FlatFunction}
use Rattle.kit_places.specs.Numbers.{operation_with}
use Rattle.kit_interpreter.specs.Lowering.{LowersFunction}
use Rattle.kit_interpreter.proofs.lowering.lower_module.Given as goal

abbrev pub invariant-loop-i : goal.invariant-loop-i
invariant-loop-i l = record {
  len : length l.lowered.items ≡ l.i;
  each : (i : ℕ) (x : FlatFunction) → slice_get l.lowered.items i ≡ Some x
      → LowersFunction l.ctx l.functions.outer l.functions.handles.keys (operation_with l.functions.handles.keys i) x;
}
