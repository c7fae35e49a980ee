-- Where a value is defined that can be written, at least one type may be.
use Rattle.std.proofs.Common.{◌≡◌, ℕ, zero, suc, List, [], ◌∷◌, refl, sym, ◌∙◌, subst}
use Rattle.ir_base.specs.declared.types.TypeHandle.{TypeHandle}
use Rattle.ir_names.specs.Tree.{node, no_tree, a_tree}
use Rattle.ir_print.specs.Layout.{Deeper, IsFlat, AreFlat}
use Rattle.ir_print.specs.Pieces.{value_of_kind, list, item, operands, successor, region, leaf, width, ValueTree, Pieces, chosen}
use Rattle.ir_print.specs.Shown.{Pairs, ShowsType}
use Rattle.kit_ops.specs.declared.types.KitType.{KitType}
use Rattle.kit_ops.specs.declared.kinds.KitOp.{KitOp}
use Rattle.kit_ops.specs.declared.kinds.KitOp.TheVariants as ops
use Rattle.kit.specs.Forms.{form_of}
use Rattle.kit.specs.Says.{says, integer_types, constant_types, pair_types, types_returned, call_types}
use Rattle.ir_print.specs.declared.format.ValueSort.TheVariants as sorts
use Rattle.kit.specs.Says.{result_types_by}

-- it is one more than this
abbrev pub IsAbove : ℕ → Type 0
IsAbove d = (e : ℕ) × (d ≡ suc e)

pub above : (d : ℕ) (P : ℕ → Type 0) → Deeper d P → IsAbove d
above zero P h = absurd h
above (suc d) P h = (d, refl)

-- ---- types of results are no deeper than the pieces that give them

abbrev AllFlat : ℕ → List ValueTree → Type 0
AllFlat d [] = Unit {0}
AllFlat d (t ∷ ts) = IsFlat d t × AllFlat d ts

integer_flat : (d : ℕ) (ts : Pieces) → Deeper d (λ e. AreFlat e ts) → AllFlat d (integer_types ts)
integer_flat zero ts h = absurd h
integer_flat (suc d) (a_tree t (a_tree (node (leaf (width s w)) us) no_tree)) h = ((tt, tt), tt)
integer_flat (suc d) _ h = tt

unit_flat : (d : ℕ) (ts : Pieces) → Deeper d (λ e. AreFlat e ts) → AllFlat d (node (value_of_kind sorts.«Type» 2) no_tree ∷ [])
unit_flat zero ts h = absurd h
unit_flat (suc d) ts h = (tt, tt)

constant_flat : (d : ℕ) (ps : Pieces) → AreFlat d ps → AllFlat d (constant_types ps)
constant_flat d (a_tree (node (value_of_kind sorts.Attribute zero) ts) no_tree) h = integer_flat d ts h.0
constant_flat d (a_tree (node (value_of_kind sorts.Attribute (suc n)) ts) no_tree) h = unit_flat d ts h.0
constant_flat d _ h = tt

pair_flat : (d : ℕ) (ps : Pieces) → AreFlat d ps → AllFlat d (pair_types ps)
pair_flat d (a_tree x (a_tree y (a_tree t no_tree))) h = (h.1.1.0, tt)
pair_flat d _ h = tt

-- ---- a type is one deep at least

module _ (types : List KitType) where
  pub type_above : (d : ℕ) (ty : TypeHandle) (t : ValueTree) → ShowsType says types ty t → IsFlat d t → IsAbove d
  type_above d ty (node (value_of_kind sorts.«Type» n) ts) h f = above d (λ e. AreFlat e ts) f
  type_above d ty (node (value_of_kind sorts.Attribute n) ts) h f = absurd (cc h.2)
  type_above d ty (node list ts) h f = absurd (cc h.1)
  type_above d ty (node item ts) h f = absurd (cc h.1)
  type_above d ty (node (chosen n) ts) h f = absurd (cc h.1)
  type_above d ty (node (operands n) ts) h f = absurd (cc h)
  type_above d ty (node (successor n) ts) h f = absurd (cc h)
  type_above d ty (node region ts) h f = absurd (cc h)
  type_above d ty (node (leaf x) ts) h f = absurd (cc h)

  -- so it is where there is a type that is shown, and those that are shown are flat
  pub first_above : (d : ℕ) (ty : TypeHandle) (tys : List TypeHandle) (shapes : List ValueTree) →
      Pairs (ShowsType says types) (ty ∷ tys) shapes →
      ((t : ValueTree) (ts : List ValueTree) → shapes ≡ t ∷ ts → IsFlat d t) → IsAbove d
  first_above d ty tys [] h f = absurd h
  first_above d ty tys (t ∷ ts) h f = type_above d ty t h.0 (f t ts refl)

  -- so it is where an operation has a result, but for one that has nothing behind its name
  pub results_above : (k : KitOp) → (k ≡ ops.ForwardRef → ⊥) → (d : ℕ) (ty : TypeHandle) (tys : List TypeHandle)
      (shapes : List ValueTree) (ps : Pieces) → Pairs (ShowsType says types) (ty ∷ tys) shapes →
      shapes ≡ result_types_by (form_of k) ps → AreFlat d ps → IsAbove d
  results_above k other d ty tys shapes ps h e f = by k other e
    where
      flat_first : (rs : List ValueTree) → AllFlat d rs → shapes ≡ rs → IsAbove d
      flat_first rs all is = first_above d ty tys shapes h
          (λ t ts same. let flat : AllFlat d (t ∷ ts) = subst (AllFlat d) (sym is ∙ same) all in flat.0)

      -- the type of the function that is called
      returned : (t : ValueTree) → IsFlat d t → shapes ≡ types_returned t → IsAbove d
      returned (node (value_of_kind sorts.«Type» n) ts) g is = above d (λ e. AreFlat e ts) g
      returned _ g is = absurd (subst (Pairs (ShowsType says types) (ty ∷ tys)) is h)

      called : (us : Pieces) → AreFlat d us → shapes ≡ call_types us → IsAbove d
      called (a_tree x (a_tree y (a_tree t no_tree))) g is = returned t g.1.1.0 is
      called _ g is = absurd (subst (Pairs (ShowsType says types) (ty ∷ tys)) is h)

      by : (i : KitOp) → (i ≡ ops.ForwardRef → ⊥) → shapes ≡ result_types_by (form_of i) ps → IsAbove d
      by ops.Constant n is = flat_first (constant_types ps) (constant_flat d ps f) is
      by (ops.Arithmetic a) n is = flat_first (pair_types ps) (pair_flat d ps f) is
      by (ops.Comparison c) n is = flat_first (pair_types ps) (pair_flat d ps f) is
      by ops.Call n is = called ps f is
      by ops.ForwardRef n is = absurd (n refl)
      by ops.Module n is = flat_first [] tt is
      by ops.Func n is = flat_first [] tt is
      by ops.Emit n is = flat_first [] tt is
      by ops.Return n is = flat_first [] tt is
      by ops.Br n is = flat_first [] tt is
      by ops.CondBr n is = flat_first [] tt is
