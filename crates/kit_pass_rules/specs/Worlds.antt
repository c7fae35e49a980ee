-- Trees of operations of `kit` in a world: what their values are, what their handles are, and when they keep the rules.
use Rattle.std.specs.Prelude.{◌≡◌}
use Rattle.kit.specs.Context.{KitTree}
use Rattle.opt_trees.specs.Occurrences.{OperationsApart, BlocksApart}
use Rattle.opt_trees.specs.Simplify.{ArgumentsApart}
use Rattle.kit.specs.Meaning.{KitOperation, KitBlock}
use Rattle.kit_checks.specs.Faults.{KeptEverywhere}
use Rattle.kit_checks.specs.World.{World}
use Rattle.kit_checks.specs.declared.rule.Rule.{Rule}

-- operations, blocks and arguments below the root have handles of their own
pub record HandlesAreApart (t : KitTree) : Type 0 where
  pub operations : OperationsApart t
  pub blocks : BlocksApart t
  pub arguments : ArgumentsApart t

-- each operation of the tree keeps each of the fourteen rules
abbrev pub ObeysIn : World KitOperation KitBlock → KitTree → Type 0
ObeysIn w t = (r : Rule) → KeptEverywhere w t r
