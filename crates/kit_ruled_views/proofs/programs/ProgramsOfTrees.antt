-- A tree of a module whose functions have flat views has one program.
use Rattle.std.proofs.Common.{◌≡◌, ℕ, Bool, List, Option, Some, None, refl, sym, ap, ◌∙◌}
use Rattle.std.specs.Prelude.{reverse}
use Rattle.ir_base.specs.declared.types.TypeHandle.{TypeHandle}
use Rattle.ir_trees.specs.Names.{Names}
use Rattle.ir_trees.specs.Trees.{Root}
use Rattle.kit_ops.specs.declared.types.KitType.{KitType}
use Rattle.kit_behaviour.specs.Machine.{Fun, FunctionsByPath}
use Rattle.kit_behaviour.specs.Numbering.{place_fun}
use Rattle.kit_behaviour.specs.Places.{Place}
use Rattle.kit_views.specs.FlatView.{FlattensTo}
use Rattle.kit_views.specs.Reading.{kit_contents, kit_reading}
use Rattle.kit_ruled_views.proofs.OneView.{one_view}
use Rattle.kit_ruled_views.specs.Paths.{locate}
use Rattle.kit_ruled_views.specs.Programs.{HasFunctionView, IsProgramOf, FunctionsAreFlat}

module _ {N : Names} (same : N.value → N.value → Bool) (leads : TypeHandle → Option KitType) (numbered : List ℕ → ℕ)
  where
    function_exists : (o : Option (Root N kit_contents))
        → ((u : Root N kit_contents) → o ≡ Some u → (f : Fun N.value) × FlattensTo (kit_reading leads numbered) u f)
        → (q : Option (Fun Place)) × HasFunctionView {N = N} same leads numbered o q
    function_exists None h = (None, refl)
    function_exists (Some u) h = let x = h u refl in (place_fun same (Some x.0), (x.0, x.1, refl))

    pub program_exists : (t : Root N kit_contents) → FunctionsAreFlat {N = N} leads numbered t
        → (p : FunctionsByPath Place) × IsProgramOf {N = N} same leads numbered t p
    program_exists t h = (
      λ path. (function_exists (locate numbered (reverse path) t) (h (reverse path))).0,
      λ path. (function_exists (locate numbered (reverse path) t) (h (reverse path))).1,
    )

    pub one_function : (o : Option (Root N kit_contents)) (p q : Option (Fun Place))
        → HasFunctionView {N = N} same leads numbered o p → HasFunctionView {N = N} same leads numbered o q → p ≡ q
    one_function None p q a b = a ∙ sym b
    one_function (Some u) p q a b =
        a.2
        ∙ ap (λ f. place_fun same (Some f))
        (one_view (kit_reading leads numbered) u a.0 b.0 a.1.view b.1.view a.1.blocks)
        ∙ sym b.2

    pub one_program : (t : Root N kit_contents) (p q : FunctionsByPath Place) → IsProgramOf {N = N} same leads numbered t p
        → IsProgramOf {N = N} same leads numbered t q → p ≡ q
    one_program t p q a b =
        λ i path. one_function (locate numbered (reverse path) t) (p path) (q path) (a path) (b path) i
