use Rattle.std.proofs.Common.{ℕ, ◌≡◌, ◌<◌, slice_get, Some}
use Rattle.kit_flat.specs.declared.flat.Instruction.{Instruction}
use Rattle.kit_flat.specs.Sound.{InstructionFits}
use Rattle.kit_flat.proofs.checking.block_fits.Given as goal

abbrev pub invariant-loop-instruction : goal.invariant-loop-instruction
invariant-loop-instruction l = (i : ℕ) (o : Instruction) → i < l.instruction-index
    → slice_get l.block.instructions.items i ≡ Some o → InstructionFits l.functions l.values o
