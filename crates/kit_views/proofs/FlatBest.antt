-- The most precise facts of a function of the dialect, by its tree and by its flat view.
use Rattle.std.proofs.Common.{◌≡◌, ℕ, Bool, List, Option, Some, sym, subst}
use Rattle.ir_base.specs.declared.types.TypeHandle.{TypeHandle}
use Rattle.ir_trees.specs.Names.{Names}
use Rattle.ir_trees.specs.Trees.{Blocks, Tree, Root}
use Rattle.opt_trees.specs.Facts as trees
use Rattle.kit_behaviour.specs.Facts as flat
use Rattle.kit_behaviour.specs.Machine.{Fun}
use Rattle.kit_ops.specs.declared.attributes.IntegerAttr.{IntegerAttr}
use Rattle.kit_ops.specs.declared.types.KitType.{KitType}
use Rattle.kit.specs.Meaning.{kit}
use Rattle.kit_views.specs.Reading.{kit_contents, kit_reading}
use Rattle.kit_views.specs.FlatView.{IsSameness, FlattensTo, names_in}
use Rattle.kit_views.specs.FlatFacts.{AreFlatly}
use Rattle.kit_views.specs.Typed.{IsTyped}
use Rattle.kit_views.proofs.Standing.{whole, Given}
use Rattle.kit_views.proofs.BestBoth.{lower, best_flatly, lower_agrees}
use Rattle.kit_views.proofs.FlatRemoval.{given_of}

module _ {N : Names} (leads : TypeHandle → Option KitType) (numbered : List ℕ → ℕ) (same : N.value → N.value → Bool) (sameness : IsSameness same) (same_block : N.block → N.block → Bool) (block_law : IsSameness same_block) (type_at : N.value → TypeHandle) where
  pub flat_best : (t : Root N kit_contents) (f : Fun N.value) (k : trees.Facts N IntegerAttr) (is_flat : FlattensTo (kit_reading leads numbered) t f) → IsTyped leads {N = N} type_at t → trees.IsMostPrecise kit t k →
      (l : flat.FunctionFacts N.value) × flat.AreMostPreciseFacts (Some f) l × AreFlatly leads {N = N} type_at t (names_in is_flat.view.blocks) k l
  flat_best t f k is_flat typed best =
      let bs : Tree N kit_contents Blocks = is_flat.view.blocks in
      let given : Given (kit_reading leads numbered) t.head bs f = given_of (kit_reading leads numbered) t f is_flat in
      let e : t ≡ whole (kit_reading leads numbered) t.head bs f = λ i. record { head = t.head; regions = is_flat.view.region i } in
      let types = subst (IsTyped leads {N = N} type_at) e typed in
      let most = subst (λ z. trees.IsMostPrecise kit z k) e best in (
        lower leads numbered same sameness same_block block_law t.head bs f given type_at types k,
        best_flatly leads numbered same sameness same_block block_law t.head bs f given type_at types k most,
        subst (λ z. AreFlatly leads {N = N} type_at z (names_in bs) k (lower leads numbered same sameness same_block block_law t.head bs f given type_at types k)) (sym e) (lower_agrees leads numbered same sameness same_block block_law t.head bs f given type_at types k most),
      )
