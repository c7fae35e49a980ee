use Rattle.std.proofs.Common.{ℕ, ◌≡◌, ◌<◌, slice_get, Some, length}
use Rattle.kit_flat.specs.declared.flat.FlatFunction.{FlatFunction}
use Rattle.kit_flat.specs.Sound.{FunctionFits}
use Rattle.kit_flat.proofs.checking.is_sound.Given as goal

abbrev pub invariant-loop-function : goal.invariant-loop-function
invariant-loop-function l = (i : ℕ) (f : FlatFunction) → i < l.function-index
    → slice_get l.code.functions.items i ≡ Some f → FunctionFits (length l.code.functions.items) f
