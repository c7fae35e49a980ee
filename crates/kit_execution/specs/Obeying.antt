-- When a module keeps the rules of `kit`.
use Rattle.ir_program.specs.declared.handles.Ptr.{Ptr}
use Rattle.ir_program.specs.declared.handles.Operation.{Operation}
use Rattle.ir_trees.specs.Stands.{StandsFor}
use Rattle.kit.specs.Context.{KitContext, KitTree}
use Rattle.kit_checks.specs.declared.rule.Rule.{Rule}
use Rattle.kit_checks.specs.Faults.{KeptEverywhere}
use Rattle.kit_checks.specs.World.{world_of}

-- each operation inside the root keeps each of the fourteen rules, where it is
abbrev pub ObeysRules : KitContext → Ptr Operation → Type 0
ObeysRules s root = (t : KitTree) → StandsFor s.program root t → (r : Rule) → KeptEverywhere (world_of s) t r
