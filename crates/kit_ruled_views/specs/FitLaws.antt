-- The statements of the laws.
use Rattle.std.specs.Prelude.{ℕ, Bool, List, Option}
use Rattle.ir_base.specs.declared.types.TypeHandle.{TypeHandle}
use Rattle.ir_program.specs.declared.handles.Value.{Value}
use Rattle.ir_trees.specs.Stands.{by_handle}
use Rattle.kit.specs.Context.{KitTree}
use Rattle.kit_checks.specs.KitWorld.{HasDeclaredTypes, kit_world}
use Rattle.kit_ops.specs.declared.types.KitType.{KitType}
use Rattle.kit_checks.specs.declared.rule.Rule.{Rule}
use Rattle.kit_checks.specs.Faults.{KeptEverywhere}
use Rattle.kit_behaviour.specs.Machine.{FunctionsByPath}
use Rattle.kit_behaviour.specs.PassLists.{Fit}
use Rattle.kit_behaviour.specs.Places.{Place}
use Rattle.kit_behaviour.specs.Rules.{OperationsWithin}
use Rattle.kit_views.specs.FlatView.{IsSameness}
use Rattle.kit_ruled_views.specs.Ruled.{HasOwnNames}
use Rattle.kit_ruled_views.specs.Programs.{IsProgramOf}
use Rattle.kit_ruled_views.specs.Operations.{operations_below}

-- the program of a module that keeps the rules, under names that are distinct, keeps the flat rules, and there are
-- bounds for its functions
abbrev pub RulesMakeFit : Type 0
RulesMakeFit = (leads : TypeHandle → Option KitType) (typed : Value → Option TypeHandle) (numbered : List ℕ → ℕ)
    (same : Value → Value → Bool) (t : KitTree) (p : FunctionsByPath Place) → IsSameness same →
    ((r : Rule) → KeptEverywhere (kit_world leads typed) t r) → HasOwnNames t → HasDeclaredTypes typed t →
    IsProgramOf {N = by_handle} same leads numbered t p → Fit p

-- no function of the program of a module has more operations than the module
abbrev pub ModulesBoundFunctions : Type 0
ModulesBoundFunctions = (leads : TypeHandle → Option KitType) (numbered : List ℕ → ℕ) (same : Value → Value → Bool)
    (t : KitTree) (p : FunctionsByPath Place) → IsProgramOf {N = by_handle} same leads numbered t p →
    OperationsWithin (operations_below t) p
