-- The statements of the laws.
use Rattle.std.specs.Prelude.{◌≡◌, ℕ, Bool, List, Option, Some}
use Rattle.ir_base.specs.declared.types.TypeHandle.{TypeHandle}
use Rattle.ir_program.specs.declared.handles.Value.{Value}
use Rattle.ir_trees.specs.Names.{Names, Contents}
use Rattle.ir_trees.specs.Renames.{Maps, IsOneToOne, rename_root, values_of}
use Rattle.ir_trees.specs.Searched.{AreDistinct, Lists, block_names}
use Rattle.ir_trees.specs.Stands.{by_handle}
use Rattle.ir_trees.specs.Trees.{Root}
use Rattle.kit.specs.Context.{KitTree}
use Rattle.kit_checks.specs.KitWorld.{HasDeclaredTypes}
use Rattle.opt_trees.specs.Dce.{TreeSurroundings, IsDce}
use Rattle.opt_trees.specs.Occurrences.{defined_in}
use Rattle.opt_trees.specs.Simplify.{StartingRegions, IsCut, LosesUse, decided}
use Rattle.opt_trees.specs.Sccp.{Name, Old, New, fresh, IsSccp}
use Rattle.kit_ops.specs.declared.attributes.IntegerAttr.{IntegerAttr}
use Rattle.kit_ops.specs.declared.types.KitType.{KitType}
use Rattle.kit.specs.Meaning.{kit}
use Rattle.kit_behaviour.specs.Machine.{Fun}
use Rattle.kit_behaviour.specs.Renaming.{rename_fun}
use Rattle.kit_views.specs.FlatView.{IsSameness, IsView, FlattensTo, names_in}
use Rattle.kit_views.specs.Reading.{Reading, kit_contents, kit_reading}
use Rattle.kit_views.specs.Typed.{IsTyped}
use Rattle.kit_ruled_views.specs.Ruled.{IsRuledFunction, HasOwnNames, type_or_first}

-- a function of a module that keeps the rules has a flat view
abbrev pub RuledFunctionsAreFlat : Type 0
RuledFunctionsAreFlat = (leads : TypeHandle → Option KitType) (typed : Value → Option TypeHandle) (numbered : List ℕ → ℕ)
    (u : KitTree) → IsRuledFunction leads typed u → HasOwnNames u →
    (f : Fun Value) × FlattensTo (kit_reading leads numbered) u f

-- it is typed, by the types that the rules read
abbrev pub FunctionsAreTyped : Type 0
FunctionsAreTyped = (leads : TypeHandle → Option KitType) (typed : Value → Option TypeHandle) (u : KitTree) →
    IsRuledFunction leads typed u → AreDistinct (block_names u) → HasDeclaredTypes typed u →
    IsTyped leads {N = by_handle} (type_or_first typed) u

-- a tree whose blocks have distinct names has one flat view at most
abbrev pub ViewsAreOne : Names → Contents → Type 0
ViewsAreOne N S = (r : Reading S) (t : Root N S) (f g : Fun N.value) → (view : IsView r t f) → IsView r t g →
    AreDistinct (names_in view.blocks) → f ≡ g

-- a tree under names that are kept apart has its flat view under these names
abbrev pub FlatUnderNames : Names → Names → Contents → Type 0
FlatUnderNames N M S = (r : Reading S) (m : Maps N M) (t : Root N S) (f : Fun N.value) → IsOneToOne m t → FlattensTo r t f →
    (g : Fun M.value) × (rename_fun m.value (Some f) ≡ Some g) × FlattensTo r (rename_root m t) g

-- a typed function is typed under names that are kept apart, by types that agree
abbrev pub TypedUnderNames : Names → Names → Type 0
TypedUnderNames N M = (leads : TypeHandle → Option KitType) (m : Maps N M) (t : Root N kit_contents)
    (type_at : N.value → TypeHandle) (type_under : M.value → TypeHandle) → IsOneToOne m t →
    ((v : N.value) → Lists (values_of t) v → type_under (m.value v) ≡ type_at v) →
    IsTyped leads {N = N} type_at t → IsTyped leads {N = M} type_under (rename_root m t)

-- types while constants are put in: a constant has the type of the value that it is put in for
abbrev pub type_after : {V : Type 0} → (V → TypeHandle) → Name V V → TypeHandle
type_after type_at (Old v) = type_at v
type_after type_at (New v) = type_at v

-- the tree of a typed function with constants is typed again
abbrev pub TypedAfterSccp : Names → Type 0
TypedAfterSccp N = (same : N.value → N.value → Bool) (same_block : N.block → N.block → Bool)
    (leads : TypeHandle → Option KitType) (numbered : List ℕ → ℕ) (type_at : N.value → TypeHandle)
    (w : TreeSurroundings N IntegerAttr) (t : Root N kit_contents) (after : Root (fresh N) kit_contents) (f : Fun N.value) →
    IsSameness same → IsSameness same_block → FlattensTo (kit_reading leads numbered) t f →
    IsTyped leads {N = N} type_at t → IsSccp kit w t after → IsTyped leads {N = fresh N} (type_after type_at) after

-- what is left of the tree of a typed function, without what is dead, is typed
abbrev pub TypedAfterDce : Names → Type 0
TypedAfterDce N = (leads : TypeHandle → Option KitType) (numbered : List ℕ → ℕ) (type_at : N.value → TypeHandle)
    (w : TreeSurroundings N IntegerAttr) (t after : Root N kit_contents) (f : Fun N.value) →
    FlattensTo (kit_reading leads numbered) t f → IsTyped leads {N = N} type_at t → IsDce kit w t after →
    IsTyped leads {N = N} type_at after

-- a typed function whose branches are decided is typed
abbrev pub TypedAfterDecided : Names → Type 0
TypedAfterDecided N = (leads : TypeHandle → Option KitType) (type_at : N.value → TypeHandle) (w : TreeSurroundings N IntegerAttr)
    (t : Root N kit_contents) → IsTyped leads {N = N} type_at t → IsTyped leads {N = N} type_at (decided kit w t)

-- a typed function without the blocks that nothing reaches is typed, where what is left loses no value that it uses
abbrev pub TypedAfterCut : Names → Type 0
TypedAfterCut N = (leads : TypeHandle → Option KitType) (type_at : N.value → TypeHandle) (w : TreeSurroundings N IntegerAttr)
    (p : StartingRegions N) (t after : Root N kit_contents) → AreDistinct (defined_in t.regions) →
    IsTyped leads {N = N} type_at t → IsCut kit p t after → (LosesUse w t after → ⊥) →
    IsTyped leads {N = N} type_at after
