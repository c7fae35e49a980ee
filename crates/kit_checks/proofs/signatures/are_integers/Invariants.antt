use Rattle.kit_checks.specs.Words.{IsInteger}
use Rattle.kit_checks.specs.World.{world_of}
use Rattle.kit_checks.proofs.Everys.{EveryBelow}
use Rattle.kit_checks.proofs.signatures.are_integers.Given as goal

-- those that were seen are integer types
abbrev pub invariant-loop-ty : goal.invariant-loop-ty
invariant-loop-ty l = EveryBelow (IsInteger (world_of l.ctx)) l.types l.ty-index
