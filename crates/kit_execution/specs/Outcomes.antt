-- When two runs have come to the same: of a function of a context, and of a program.
use Rattle.std.specs.Prelude.{◌≡◌}
use Rattle.kit_behaviour.specs.Machine as program
use Rattle.kit_flat.specs.Machine as context

-- both go on, or have ended with the same values, or have trapped; what was emitted is the same
abbrev pub SameOutcome : {V B F W : Type 0} → context.MachineState V B F → program.State W → Type 0
SameOutcome (context.Going fs out) (program.Going gs emissions) = out ≡ emissions
SameOutcome (context.Ended xs out) (program.Ended ys emissions) = (xs ≡ ys) × (out ≡ emissions)
SameOutcome (context.Trapped out) (program.Trapped emissions) = out ≡ emissions
SameOutcome _ _ = ⊥
