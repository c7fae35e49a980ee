-- Of the values of a function that keeps the rules exactly the results of constants are known alone.
use Rattle.std.proofs.Common.{◌≡◌, ◌↔◌, ◌⊎◌, inl, inr, ⊎_elim, ℕ, zero, suc, Bool, true, List, [], ◌∷◌, map, length}
use Rattle.std.proofs.Common.{Option, Some, None, slice_get, refl, sym, ap, ◌∙◌, subst, arith}
use Rattle.std.specs.Prelude.{if◌then◌else◌, nat_eq}
use Rattle.std.proofs.lemmas.Option.{slice_get_within}
use Rattle.ir_base.specs.declared.types.TypeHandle.{TypeHandle}
use Rattle.ir_names.specs.declared.interfaces.OpInterface.TheVariants as op
use Rattle.ir_names.specs.Dictionary.{attribute_at}
use Rattle.ir_program.specs.declared.handles.Value.{Value}
use Rattle.ir_trees.specs.Trees.{Defined}
use Rattle.kit.specs.Context.{KitTree}
use Rattle.kit_checks.specs.KitWorld.{kit_world}
use Rattle.opt_trees.specs.Occurrences.{types_of}
use Rattle.opt_trees.proofs.Lists.{some_same, none_some}
use Rattle.opt_inside.specs.Around.{or_none}
use Rattle.kit_ops.specs.declared.attributes.IntegerAttr.{IntegerAttr}
use Rattle.kit_ops.specs.declared.attributes.KitAttr.TheVariants as attrs
use Rattle.kit_ops.specs.declared.kinds.KitOp.{KitOp}
use Rattle.kit_ops.specs.declared.kinds.KitOp.TheVariants as ops
use Rattle.kit_ops.specs.declared.types.KitType.{KitType}
use Rattle.kit_ops.specs.Keys as keys
use Rattle.kit_ops.specs.Table.{has_interface}
use Rattle.kit.specs.Meaning.{Entries, fold_of, integer_in, if_of_type}
use Rattle.kit_checks.specs.Rules.{HasConstantValue, FitsKind}
use Rattle.kit_ruled_views.proofs.SmallLists.{one_of, two_of}
use Rattle.kit_ruled_views.proofs.TypeLemmas.{is_number}

same_number : (n : ℕ) → nat_eq n n ≡ true
same_number n = grind arith

-- ---- folds

-- what an operation of this kind folds to with no operand known
abbrev pub alone_as : KitOp → Entries → List TypeHandle → List (Option IntegerAttr) → ℕ → Option IntegerAttr
alone_as k es ts xs i = if has_interface k op.ConstFold then or_none (slice_get (fold_of k es ts xs) i) else None

abbrev pub unknown : List Value → List (Option IntegerAttr)
unknown vs = map (λ (v : Value). None) vs

-- a constant folds to its value
constant_alone : (es : Entries) (t : TypeHandle) (xs : List (Option IntegerAttr)) (a : IntegerAttr)
    → attribute_at es keys.constant_value ≡ Some (attrs.Integer a) → a.ty ≡ t
    → alone_as ops.Constant es (t ∷ []) xs 0 ≡ Some a
constant_alone es t xs a has ty =
    ap (λ o. if_of_type t (integer_in o)) has
    ∙ ap (λ (b : Bool). if b then Some a else None)
    (ap (λ (h : TypeHandle). nat_eq a.ty.number h.number) (sym ty) ∙ same_number a.ty.number)

-- ---- an operation by itself

module _ (leads : TypeHandle → Option KitType) (typed : Value → Option TypeHandle) (u : KitTree) where
  abbrev pub alone_in : KitOp → ℕ → Option IntegerAttr
  alone_in k i = alone_as k u.head.content.notes.attributes (types_of u.head.results) (unknown u.head.operands) i

  none_of_two : (a : _) (es : Entries) (t : TypeHandle) (i : ℕ)
      → alone_as (ops.Arithmetic a) es (t ∷ []) (None ∷ None ∷ []) i ≡ None
  none_of_two a es t zero = refl
  none_of_two a es t (suc i) = refl

  none_compared : (a : _) (es : Entries) (t : TypeHandle) (i : ℕ)
      → alone_as (ops.Comparison a) es (t ∷ []) (None ∷ None ∷ []) i ≡ None
  none_compared a es t zero = refl
  none_compared a es t (suc i) = refl

  -- other operations than constants fold to nothing
  none_alone : (k : KitOp) → (k ≡ ops.Constant → ⊥) → FitsKind (kit_world leads typed) u k → (i : ℕ)
      → alone_in k i ≡ None
  none_alone ops.Constant other fits i = absurd (other refl)
  none_alone (ops.Arithmetic a) other fits i =
      let d = one_of u.head.results fits.0.results in
      let x = two_of u.head.operands fits.1 in
      (λ j. alone_as (ops.Arithmetic a) u.head.content.notes.attributes (types_of (d.1 j)) (unknown (x.2 j)) i)
      ∙ none_of_two a u.head.content.notes.attributes d.0.holds i
  none_alone (ops.Comparison a) other fits i =
      let d = one_of u.head.results fits.0.results in
      let x = two_of u.head.operands fits.1 in
      (λ j. alone_as (ops.Comparison a) u.head.content.notes.attributes (types_of (d.1 j)) (unknown (x.2 j)) i)
      ∙ none_compared a u.head.content.notes.attributes d.0.holds i
  none_alone _ other fits i = refl

  is_constant : (k : KitOp) → (k ≡ ops.Constant) ⊎ (k ≡ ops.Constant → ⊥)
  is_constant ops.Constant = inl refl
  is_constant _ = inr (λ e. cc e)

  -- what is known alone of a result is the value of the constant that it is the result of
  module _ (i : ℕ) (d : Defined Value TypeHandle) (at : slice_get u.head.results i ≡ Some d) where
    constant_known : HasConstantValue (kit_world leads typed) u → length u.head.results ≡ 1 → (a : IntegerAttr)
        → attribute_at u.head.content.notes.attributes keys.constant_value ≡ Some (attrs.Integer a)
        → alone_in ops.Constant i ≡ Some a
    constant_known c one a has =
        let r = one_of u.head.results one in
        let w = slice_get_within u.head.results i d at in
        let first : i ≡ 0 = omega (arith, w, one) in
        let value : c.value ≡ a = same_number_in (sym (is_number _ c.value c.has_value) ∙ has) in
        let ty : a.ty ≡ r.0.holds =
        ap (λ (x : IntegerAttr). x.ty) (sym value)
        ∙ sym (c.results 0 r.0.holds (ap (λ (ds : List (Defined Value TypeHandle)). slice_get (types_of ds) 0) r.1)) in
        (λ j. alone_as ops.Constant u.head.content.notes.attributes (types_of (r.1 j)) (unknown u.head.operands)
        (first j))
        ∙ constant_alone u.head.content.notes.attributes r.0.holds (unknown u.head.operands) a has ty
      where
        same_number_in : {x y : IntegerAttr} → Some (attrs.Integer x) ≡ Some (attrs.Integer y) → x ≡ y
        same_number_in e = cc

    pub alone_known : (k : KitOp) → FitsKind (kit_world leads typed) u k
        → (k ≡ ops.Constant → HasConstantValue (kit_world leads typed) u) → (a : IntegerAttr)
        → (alone_in k i ≡ Some a)
        ↔ ((k ≡ ops.Constant) × (attribute_at u.head.content.notes.attributes keys.constant_value
        ≡ Some (attrs.Integer a)))
    alone_known k fits constant a = ⊎_elim
        (λ is.
        let c = constant is in
        let one : length u.head.results ≡ 1 =
        (subst (FitsKind (kit_world leads typed) u) is fits).0.results in
        let has = is_number (attribute_at u.head.content.notes.attributes keys.constant_value) c.value c.has_value in
        let known : alone_in k i ≡ Some c.value =
        ap (λ z. alone_in z i) is ∙ constant_known c one c.value has in (
          λ e. (is, has ∙ ap (λ (x : IntegerAttr). Some (attrs.Integer x)) (some_same c.value a (sym known ∙ e))),
          λ e. ap (λ z. alone_in z i) is ∙ constant_known c one a e.1,
        ))
        (λ other. (
          λ e. absurd (none_some a (sym (none_alone k other fits i) ∙ e)),
          λ e. absurd (other e.0),
        ))
        (is_constant k)
