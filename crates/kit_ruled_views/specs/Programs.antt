-- The program of the tree of a module: its functions as flat functions, values named by their places.
use Rattle.std.specs.Prelude.{◌≡◌, ℕ, Bool, List, reverse, Option, Some, None}
use Rattle.ir_base.specs.declared.types.TypeHandle.{TypeHandle}
use Rattle.ir_trees.specs.Names.{Names}
use Rattle.ir_trees.specs.Trees.{Root}
use Rattle.kit_ops.specs.declared.types.KitType.{KitType}
use Rattle.kit_behaviour.specs.Machine.{Fun, FunctionsByPath}
use Rattle.kit_behaviour.specs.Numbering.{place_fun}
use Rattle.kit_behaviour.specs.Places.{Place}
use Rattle.kit_views.specs.FlatView.{FlattensTo}
use Rattle.kit_views.specs.Reading.{kit_contents, kit_reading}
use Rattle.kit_ruled_views.specs.Paths.{locate}

module _ {N : Names} (same : N.value → N.value → Bool) (leads : TypeHandle → Option KitType) (numbered : List ℕ → ℕ)
  where
    -- the function that stands there, by its flat view, or none where nothing stands there
    abbrev pub HasFunctionView : Option (Root N kit_contents) → Option (Fun Place) → Type 0
    HasFunctionView None q = q ≡ None
    HasFunctionView (Some u) q = (f : Fun N.value) × FlattensTo (kit_reading leads numbered) u f × (q ≡ place_fun same (Some
        f))

    -- under each path the function with that path. A path of a program has the innermost name first
    abbrev pub IsProgramOf : Root N kit_contents → FunctionsByPath Place → Type 0
    IsProgramOf t p = (path : List ℕ) → HasFunctionView (locate numbered (reverse path) t) (p path)

module _ {N : Names} (leads : TypeHandle → Option KitType) (numbered : List ℕ → ℕ) where
  -- each function that a path leads to has a flat view
  abbrev pub FunctionsAreFlat : Root N kit_contents → Type 0
  FunctionsAreFlat t = (path : List ℕ) (u : Root N kit_contents) → locate numbered path t ≡ Some u →
      (f : Fun N.value) × FlattensTo (kit_reading leads numbered) u f
