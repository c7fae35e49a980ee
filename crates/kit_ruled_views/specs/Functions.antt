-- What holds of the functions of a context in which a module keeps the rules.
use Rattle.std.specs.Prelude.{◌≡◌, ℕ, List}
use Rattle.ir_types.specs.Interned.{key_at}
use Rattle.ir_program.specs.Program.{type_at}
use Rattle.ir_program.specs.declared.handles.Operation.{Operation}
use Rattle.ir_program.specs.declared.handles.Ptr.{Ptr}
use Rattle.ir_program.specs.declared.handles.Value.{Value}
use Rattle.ir_trees.specs.Stands.{by_handle, StandsFor}
use Rattle.kit.specs.Context.{KitContext, KitTree}
use Rattle.opt_trees.specs.Dce.{TreeSurroundings}
use Rattle.opt_inside.specs.Around.{IsTakenOutside, SaysAround}
use Rattle.opt_inside.specs.Occurring.{IsDefinedBelow}
use Rattle.kit.specs.Meaning.{kit}
use Rattle.kit_ops.specs.declared.attributes.IntegerAttr.{IntegerAttr}
use Rattle.kit_ops.specs.declared.kinds.KitOp.TheVariants as ops
use Rattle.kit_behaviour.specs.Machine.{Fun}
use Rattle.kit_checks.specs.declared.rule.Rule.{Rule}
use Rattle.kit_checks.specs.Faults.{KeptEverywhere}
use Rattle.kit_checks.specs.World.{world_of}
use Rattle.kit_views.specs.FlatBranches.{KnowsConstants}
use Rattle.kit_views.specs.FlatView.{FlattensTo}
use Rattle.kit_views.specs.Laws.{NothingPinned}
use Rattle.kit_views.specs.Reading.{kit_reading}
use Rattle.kit_views.specs.Typed.{IsTyped}
use Rattle.kit_ruled_views.specs.Ruled.{type_or_first}

-- each operation inside the root keeps each of the fourteen rules, where it is
abbrev pub KeepsRules : KitContext → Ptr Operation → Type 0
KeepsRules s root = (t : KitTree) → StandsFor s.program root t → (r : Rule) → KeptEverywhere (world_of s) t r

-- the tree is that of the operation, which is a function
pub record IsTreeOf (s : KitContext) (function : Ptr Operation) (u : KitTree) : Type 0 where
  pub tree : StandsFor s.program function u
  pub kind : u.head.content.kind ≡ ops.Func

-- it has a flat view, whatever numbers the names of functions have
abbrev pub HasFlatView : KitContext → Ptr Operation → Type 0
HasFlatView s function = (u : KitTree) → IsTreeOf s function u → (numbered : List ℕ → ℕ) →
    (f : Fun Value) × FlattensTo (kit_reading (key_at s.types) numbered) u f

-- it is typed, by the types of the context
abbrev pub HasTypes : KitContext → Ptr Operation → Type 0
HasTypes s function = (u : KitTree) → IsTreeOf s function u →
    IsTyped (key_at s.types) {N = by_handle} (type_or_first (type_at s.program)) u

-- no operation outside the root takes a value that is defined inside it
abbrev pub IsSelfContained : KitContext → Ptr Operation → Type 0
IsSelfContained s root = (v : Value) → IsDefinedBelow s.program root v → IsTakenOutside s.program root v → ⊥

-- it holds of the function's tree and of what the context says beside it
abbrev pub OfSurroundings : KitContext → Ptr Operation → (TreeSurroundings by_handle IntegerAttr → KitTree → Type 0) → Type 0
OfSurroundings s function P = (w : TreeSurroundings by_handle IntegerAttr) → SaysAround kit s.program function w →
    (u : KitTree) → IsTreeOf s function u → P w u

-- no value of the function is named from outside it
abbrev pub HasNothingPinned : KitContext → Ptr Operation → Type 0
HasNothingPinned s function = OfSurroundings s function (λ w u. NothingPinned w u)

-- of the values of the function exactly the results of constants are known alone
abbrev pub HasKnownConstants : KitContext → Ptr Operation → Type 0
HasKnownConstants s function = OfSurroundings s function (λ w u. KnowsConstants w u)
