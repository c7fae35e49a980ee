-- Folds and branches keep what dialects keep.
use Rattle.std.proofs.Common.{◌≡◌, ℕ, zero, suc, Bool, true, false, List, [], ◌∷◌, Option, Some, None, length, refl}
use Rattle.std.proofs.Common.{sym, ap, subst, arith}
use Rattle.std.specs.Prelude.{if◌then◌else◌, nat_eq, replicate, slice_get}
use Rattle.std.proofs.lemmas.Bool.{eqb-true, false≢true}
use Rattle.ir_base.specs.declared.types.TypeHandle.{TypeHandle}
use Rattle.ir_names.specs.declared.interfaces.OpInterface.TheVariants as op
use Rattle.opt_rows.specs.Known.{KnowsMore}
use Rattle.kit_ops.specs.declared.attributes.IntegerAttr.{IntegerAttr}
use Rattle.kit_ops.specs.declared.kinds.KitOp.{KitOp}
use Rattle.kit_ops.specs.declared.kinds.KitOp.TheVariants as ops
use Rattle.kit.specs.Meaning.{Entries, of_both, calculated, compared, value_of, if_of_type, fold_of, picked_by}
use Rattle.kit.specs.Meaning.{condition, edge_of, is_picked, feasible_of}
use Rattle.kit_ops.specs.Table.{has_interface}

none_some : {A X : Type 0} {a : A} → None ≡ Some a → X
none_some e = cc

pub same_number : (n : ℕ) → nat_eq n n ≡ true
same_number n = grind arith

-- folds

both_more : (f : IntegerAttr → IntegerAttr → Option IntegerAttr) (xs ys : List (Option IntegerAttr)) → KnowsMore xs ys
    → (x : IntegerAttr) → of_both f xs ≡ Some x → of_both f ys ≡ Some x
both_more f [] ys h x e = none_some e
both_more f (None ∷ xs) ys h x e = none_some e
both_more f (Some a ∷ []) ys h x e = none_some e
both_more f (Some a ∷ (None ∷ xs)) ys h x e = none_some e
both_more f (Some a ∷ (Some b ∷ (c ∷ xs))) ys h x e = none_some e
both_more f (Some a ∷ (Some b ∷ [])) [] h x e = absurd h
both_more f (Some a ∷ (Some b ∷ [])) (u ∷ []) h x e = absurd h.1
both_more f (Some a ∷ (Some b ∷ [])) (u ∷ (v ∷ (w ∷ ys))) h x e = absurd h.1.1
both_more f (Some a ∷ (Some b ∷ [])) (u ∷ (v ∷ [])) h x e =
    subst (λ o. of_both f (o ∷ (v ∷ [])) ≡ Some x) (sym (h.0 a refl))
    (subst (λ o. of_both f (Some a ∷ (o ∷ [])) ≡ Some x) (sym (h.1.0 b refl)) e)

value_more : (k : KitOp) (es : Entries) (t : TypeHandle) (xs ys : List (Option IntegerAttr)) → KnowsMore xs ys
    → (x : IntegerAttr) → value_of k es t xs ≡ Some x → value_of k es t ys ≡ Some x
value_more ops.Constant es t xs ys h x e = e
value_more (ops.Arithmetic k) es t xs ys h x e = both_more (calculated k) xs ys h x e
value_more (ops.Comparison k) es t xs ys h x e = both_more (compared k t) xs ys h x e
value_more k es t xs ys h x e = none_some e

typed_more : (t : TypeHandle) (a b : Option IntegerAttr) → ((x : IntegerAttr) → a ≡ Some x → b ≡ Some x)
    → (x : IntegerAttr) → if_of_type t a ≡ Some x → if_of_type t b ≡ Some x
typed_more t None b h x e = none_some e
typed_more t (Some a) b h x e = subst (λ o. if_of_type t o ≡ Some x) (sym (h a refl)) e

same_more : (xs : List (Option IntegerAttr)) → KnowsMore xs xs
same_more [] = tt
same_more (x ∷ xs) = (λ a e. e, same_more xs)

pub folds_more : (k : KitOp) (es : Entries) (ts : List TypeHandle) (xs ys : List (Option IntegerAttr))
    → KnowsMore xs ys → KnowsMore (fold_of k es ts xs) (fold_of k es ts ys)
folds_more k es [] xs ys h = tt
folds_more k es (t ∷ []) xs ys h =
    (typed_more t (value_of k es t xs) (value_of k es t ys) (value_more k es t xs ys h), tt)
folds_more k es (t ∷ (u ∷ ts)) xs ys h = same_more (replicate (length (t ∷ (u ∷ ts))) None)

as_many : (n : ℕ) → length (replicate {A = Option IntegerAttr} n None) ≡ n
as_many zero = refl
as_many (suc n) = ap suc (as_many n)

pub fold_count : (k : KitOp) (es : Entries) (ts : List TypeHandle) (xs : List (Option IntegerAttr))
    → length (fold_of k es ts xs) ≡ length ts
fold_count k es [] xs = refl
fold_count k es (t ∷ []) xs = refl
fold_count k es (t ∷ (u ∷ ts)) xs = as_many (length (t ∷ (u ∷ ts)))

some_inside : {X : Type 0} (a b : X) → Some a ≡ Some b → a ≡ b
some_inside a b e = cc

typed : (t : TypeHandle) (o : Option IntegerAttr) (a : IntegerAttr) → if_of_type t o ≡ Some a → t ≡ a.ty
typed t None a e = none_some e
typed t (Some b) a e = step (nat_eq b.ty.number t.number) refl e
  where
    step : (y : Bool) → nat_eq b.ty.number t.number ≡ y → (if y then Some b else None) ≡ Some a → t ≡ a.ty
    step true same e =
        let n : t.number ≡ b.ty.number = sym (eqb-true b.ty.number t.number same) in
        let f : b ≡ a = some_inside b a e in
        subst (λ c. t ≡ c.ty) f (λ i. record { number = n i })
    step false same e = none_some e

no_answer : {X : Type 0} (n i : ℕ) (a : IntegerAttr) → slice_get (replicate n None) i ≡ Some (Some a) → X
no_answer zero i a e = none_some e
no_answer (suc n) zero a e = none_some (some_inside None (Some a) e)
no_answer (suc n) (suc i) a e = no_answer n i a e

pub fold_types : (k : KitOp) (es : Entries) (ts : List TypeHandle) (xs : List (Option IntegerAttr)) (i : ℕ)
    (a : IntegerAttr) → slice_get (fold_of k es ts xs) i ≡ Some (Some a) → slice_get ts i ≡ Some a.ty
fold_types k es [] xs i a e = none_some e
fold_types k es (t ∷ []) xs zero a e =
    ap Some (typed t (value_of k es t xs) a (some_inside (if_of_type t (value_of k es t xs)) (Some a) e))
fold_types k es (t ∷ []) xs (suc i) a e = none_some e
fold_types k es (t ∷ (u ∷ ts)) xs i a e = no_answer (length (t ∷ (u ∷ ts))) i a e

-- branches

condition_more : (xs ys : List (Option IntegerAttr)) → KnowsMore xs ys
    → (x : IntegerAttr) → condition xs ≡ Some x → condition ys ≡ Some x
condition_more [] ys h x e = none_some e
condition_more (a ∷ xs) [] h x e = absurd h
condition_more (a ∷ xs) (b ∷ ys) h x e = h.0 x e

picked_less : (a b : Option IntegerAttr) (i : ℕ) → ((x : IntegerAttr) → a ≡ Some x → b ≡ Some x)
    → is_picked (picked_by b) i ≡ true → is_picked (picked_by a) i ≡ true
picked_less None b i h e = refl
picked_less (Some x) b i h e = subst (λ o. is_picked (picked_by o) i ≡ true) (h x refl) e

pub feasible_less : (k : KitOp) (xs ys : List (Option IntegerAttr)) (i : ℕ) → KnowsMore xs ys
    → feasible_of k ys i ≡ true → feasible_of k xs i ≡ true
feasible_less ops.CondBr xs ys i h e = picked_less (condition xs) (condition ys) i (condition_more xs ys h) e
feasible_less k xs ys i h e = refl

picked_feasible : (a : Option ℕ) (i : ℕ) → a ≡ Some i → is_picked a i ≡ true
picked_feasible a i e = subst (λ o. is_picked o i ≡ true) (sym e) (same_number i)

pub edge_feasible : (k : KitOp) (xs : List (Option IntegerAttr)) (i : ℕ) → edge_of k xs ≡ Some i
    → feasible_of k xs i ≡ true
edge_feasible ops.CondBr xs i e = picked_feasible (picked_by (condition xs)) i e
edge_feasible k xs i e = refl

pub exclude : (k : KitOp) → has_interface k op.ConstFold ≡ true → has_interface k op.Branch ≡ true → ⊥
exclude ops.Br a b = false≢true a
exclude ops.CondBr a b = false≢true a
exclude k a b = false≢true b

pub branch_ends : (k : KitOp) → has_interface k op.Branch ≡ true → has_interface k op.IsTerminator ≡ true
branch_ends ops.Br e = refl
branch_ends ops.CondBr e = refl
branch_ends k e = absurd (false≢true e)
