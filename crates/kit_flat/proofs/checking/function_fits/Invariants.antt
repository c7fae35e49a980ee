use Rattle.std.proofs.Common.{ℕ, ◌≡◌, ◌<◌, slice_get, Some}
use Rattle.kit_flat.specs.declared.flat.FlatBlock.{FlatBlock}
use Rattle.kit_flat.specs.Sound.{BlockFits}
use Rattle.kit_flat.proofs.checking.function_fits.Given as goal

abbrev pub invariant-loop-block : goal.invariant-loop-block
invariant-loop-block l = (i : ℕ) (b : FlatBlock) → i < l.block-index
    → slice_get l.function.blocks.items i ≡ Some b → BlockFits l.functions l.function.values b
