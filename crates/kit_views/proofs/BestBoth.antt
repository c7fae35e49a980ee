-- The most precise facts of the tree of a function are those of its flat view.
use Rattle.std.proofs.Common.{◌≡◌, ℕ, zero, suc, ◌<◌, ◌^◌, Bool, true, false, List, [], ◌∷◌, Option, Some, None, refl, sym, ap, ◌∙◌, subst}
use Rattle.std.specs.Prelude.{slice_get, option_map, nat_eq, nat_lt, if◌then◌else◌, ◌&&◌}
use Rattle.std.proofs.lemmas.Bool.{eqb-true, ltb-true, lt-ltb}
use Rattle.ir_base.specs.declared.types.TypeHandle.{TypeHandle}
use Rattle.ir_names.specs.declared.kinds.Signedness.{Signedness}
use Rattle.ir_names.specs.declared.kinds.Signedness.TheVariants.{Signless, Signed, Unsigned}
use Rattle.ir_names.specs.contracts.kinds.SignednessPartialEq.TheImpl as of_signs
use Rattle.ir_trees.specs.Names.{Names}
use Rattle.ir_trees.specs.Trees.{Head, Blocks, Tree, end, region}
use Rattle.opt_rows.specs.declared.known.Known.{Known}
use Rattle.opt_rows.specs.declared.known.Known.TheVariants as known
use Rattle.opt_rows.specs.Known as tree
use Rattle.opt_trees.specs.Facts as trees
use Rattle.opt_trees.specs.Occurrences.{Has, defined_in}
use Rattle.opt_trees.proofs.Lists.{some_same, none_some}
use Rattle.kit_behaviour.specs.Facts.{Fact, Undetermined, Unknown}
use Rattle.kit_behaviour.specs.Facts as flat
use Rattle.kit_behaviour.specs.Machine.{Fun}
use Rattle.kit_behaviour.specs.Numbering.{index_of}
use Rattle.kit_behaviour.specs.Scopes.{is_in}
use Rattle.kit_ops.specs.declared.attributes.IntegerAttr.{IntegerAttr}
use Rattle.kit_ops.specs.contracts.attributes.IntegerAttrPartialEq.TheImpl as of_integers
use Rattle.kit_ops.specs.declared.types.KitType.{KitType}
use Rattle.kit.specs.Folded.{same_number}
use Rattle.kit.specs.Meaning.{kit}
use Rattle.kit.specs.Same.{same_integer}
use Rattle.kit_views.specs.Reading.{kit_contents, kit_reading}
use Rattle.kit_views.specs.FlatView.{IsSameness, names_in}
use Rattle.kit_views.specs.FlatFacts.{IsKnownAs, AreFlatly}
use Rattle.kit_views.specs.Typed.{number_as, width_at, IsTyped}
use Rattle.kit_views.proofs.Lists.{in_has, has_in, Distinct, to_distinct, has_get}
use Rattle.kit_views.proofs.Uses.{and_both, and_left, and_right}
use Rattle.kit_views.proofs.Standing.{whole, Given}
use Rattle.kit_views.proofs.Folding.{Det, number, any}
use Rattle.kit_views.proofs.ClosedBoth.{tree_closed, flat_closed}

sign_self : (x : Signedness) → of_signs.eq-value.it x x ≡ true
sign_self Signless = refl
sign_self Signed = refl
sign_self Unsigned = refl

self_same : (x : IntegerAttr) → of_integers.eq-value.it x x ≡ true
self_same x = λ i. same_number x.ty.number i && ((sign_self x.integer.signedness i && same_number x.integer.width i) && same_number x.bits i)

below_self : (k : Known IntegerAttr) → tree.AtOrBelow k k
below_self known.Any = tt
below_self known.Undetermined = tt
below_self (known.One a) = refl

below_same : (t : Fact) → flat.FactAtOrBelow t t
below_same Unknown = tt
below_same Undetermined = tt
below_same (flat.Known n) = refl

below_top : (t : Fact) → flat.FactAtOrBelow t Undetermined
below_top Unknown = tt
below_top Undetermined = tt
below_top (flat.Known n) = tt

module _ (leads : TypeHandle → Option KitType) (ty : TypeHandle) where
  abbrev pub fits : IntegerAttr → Bool
  fits a = of_integers.eq-value.it a (number_as leads ty a.bits) && nat_lt a.bits (2 ^ width_at leads ty)

  -- a fact as one of the tree, and back; undetermined where it doesn't fit
  abbrev pub as_known : Fact → Known IntegerAttr
  as_known Undetermined = known.Undetermined
  as_known Unknown = known.Any
  as_known (flat.Known n) = if nat_lt n (2 ^ width_at leads ty) then known.One (number_as leads ty n) else known.Undetermined

  abbrev pub as_fact : Known IntegerAttr → Fact
  as_fact known.Undetermined = Undetermined
  as_fact known.Any = Unknown
  as_fact (known.One a) = if fits a then flat.Known a.bits else Undetermined

  fits_number : (n : ℕ) → n < 2 ^ width_at leads ty → fits (number_as leads ty n) ≡ true
  fits_number n h = and_both _ _ (self_same (number_as leads ty n)) (lt-ltb n (2 ^ width_at leads ty) h)

  fits_is : (a : IntegerAttr) → fits a ≡ true → (a ≡ number_as leads ty a.bits) × (a.bits < 2 ^ width_at leads ty)
  fits_is a e = (
    same_integer a (number_as leads ty a.bits) (and_left (of_integers.eq-value.it a (number_as leads ty a.bits)) (nat_lt a.bits (2 ^ width_at leads ty)) e),
    ltb-true a.bits (2 ^ width_at leads ty) (and_right (of_integers.eq-value.it a (number_as leads ty a.bits)) (nat_lt a.bits (2 ^ width_at leads ty)) e),
  )

  known_number : (n : ℕ) → n < 2 ^ width_at leads ty → as_known (flat.Known n) ≡ known.One (number_as leads ty n)
  known_number n h = ap (λ b. if b then known.One (number_as leads ty n) else known.Undetermined) (lt-ltb n (2 ^ width_at leads ty) h)

  fact_number : (n : ℕ) → n < 2 ^ width_at leads ty → as_fact (known.One (number_as leads ty n)) ≡ flat.Known n
  fact_number n h = ap (λ b. if b then flat.Known n else Undetermined) (fits_number n h)

  det_known : (x : Fact) → (as_known x ≡ known.Undetermined → ⊥) → Det leads ty (as_known x) x
  det_known Undetermined h = absurd (h refl)
  det_known Unknown h = any refl refl
  det_known (flat.Known n) h = step (nat_lt n (2 ^ width_at leads ty)) refl
    where
      step : (b : Bool) → nat_lt n (2 ^ width_at leads ty) ≡ b → Det leads ty (as_known (flat.Known n)) (flat.Known n)
      step true e = number n (known_number n (ltb-true n (2 ^ width_at leads ty) e)) refl (ltb-true n (2 ^ width_at leads ty) e)
      step false e = absurd (h (ap (λ b. if b then known.One (number_as leads ty n) else known.Undetermined) e))

  det_fact : (x : Known IntegerAttr) → (as_fact x ≡ Undetermined → ⊥) → Det leads ty x (as_fact x)
  det_fact known.Undetermined h = absurd (h refl)
  det_fact known.Any h = any refl refl
  det_fact (known.One a) h = step (fits a) refl
    where
      step : (b : Bool) → fits a ≡ b → Det leads ty (known.One a) (as_fact (known.One a))
      step true e = let q = fits_is a e in number a.bits (ap known.One q.0) (ap (λ b. if b then flat.Known a.bits else Undetermined) e) q.1
      step false e = absurd (h (ap (λ b. if b then flat.Known a.bits else Undetermined) e))

  order_known : (x y : Fact) → flat.FactAtOrBelow x y → tree.AtOrBelow (as_known x) (as_known y)
  order_known Unknown y b = tt
  order_known Undetermined Undetermined b = tt
  order_known Undetermined (flat.Known m) b = absurd b
  order_known Undetermined Unknown b = absurd b
  order_known (flat.Known n) Unknown b = absurd b
  order_known (flat.Known n) Undetermined b = step (nat_lt n (2 ^ width_at leads ty))
    where
      step : (c : Bool) → tree.AtOrBelow (if c then known.One (number_as leads ty n) else known.Undetermined) known.Undetermined
      step true = tt
      step false = tt
  order_known (flat.Known n) (flat.Known m) b = subst (λ z. tree.AtOrBelow (as_known (flat.Known n)) (as_known (flat.Known z))) b (below_self (as_known (flat.Known n)))

  order_fact : (x y : Known IntegerAttr) → tree.AtOrBelow x y → flat.FactAtOrBelow (as_fact x) (as_fact y)
  order_fact known.Any y b = tt
  order_fact known.Undetermined known.Undetermined b = tt
  order_fact known.Undetermined (known.One c) b = absurd b
  order_fact known.Undetermined known.Any b = absurd b
  order_fact (known.One a) known.Any b = absurd b
  order_fact (known.One a) known.Undetermined b = below_top (as_fact (known.One a))
  order_fact (known.One a) (known.One c) b = subst (λ z. flat.FactAtOrBelow (as_fact (known.One a)) (as_fact (known.One z))) b (below_same (as_fact (known.One a)))

  -- what lies below in the tree lies below in the flat function
  order_back : (x : Fact) (y : Known IntegerAttr) → tree.AtOrBelow (as_known x) y → flat.FactAtOrBelow x (as_fact y)
  order_back Unknown y b = tt
  order_back Undetermined known.Undetermined b = tt
  order_back Undetermined (known.One c) b = absurd b
  order_back Undetermined known.Any b = absurd b
  order_back (flat.Known n) known.Undetermined b = tt
  order_back (flat.Known n) known.Any b = step (nat_lt n (2 ^ width_at leads ty)) b
    where
      step : (c : Bool) → tree.AtOrBelow (if c then known.One (number_as leads ty n) else known.Undetermined) known.Any → flat.FactAtOrBelow (flat.Known n) Unknown
      step true b = b
      step false b = b
  order_back (flat.Known n) (known.One a) b = step (nat_lt n (2 ^ width_at leads ty)) refl b
    where
      step : (c : Bool) → nat_lt n (2 ^ width_at leads ty) ≡ c → tree.AtOrBelow (if c then known.One (number_as leads ty n) else known.Undetermined) (known.One a) → flat.FactAtOrBelow (flat.Known n) (as_fact (known.One a))
      step true e b = subst (λ z. flat.FactAtOrBelow (flat.Known n) (as_fact (known.One z))) b (subst (flat.FactAtOrBelow (flat.Known n)) (sym (fact_number n (ltb-true n (2 ^ width_at leads ty) e))) refl)
      step false e b = absurd b

  agree : (y : Known IntegerAttr) → tree.AtOrBelow (as_known (as_fact y)) y → IsKnownAs leads ty y (as_fact y)
  agree known.Undetermined b = refl
  agree known.Any b = refl
  agree (known.One a) b = step (fits a) refl b
    where
      step : (c : Bool) → fits a ≡ c → tree.AtOrBelow (as_known (if c then flat.Known a.bits else Undetermined)) (known.One a) → IsKnownAs leads ty (known.One a) (if fits a then flat.Known a.bits else Undetermined)
      step true e b = let q = fits_is a e in subst (λ c. IsKnownAs leads ty (known.One a) (if c then flat.Known a.bits else Undetermined)) (sym e) (ap known.One q.0, q.1)
      step false e b = absurd b

pub index_at : {B : Type 0} (same : B → B → Bool) (law : IsSameness same) (xs : List B) → Distinct xs → (n : ℕ) (b : B) → slice_get xs n ≡ Some b → index_of same b xs ≡ Some n
index_at same law [] d n b e = absurd (none_some b e)
index_at same law (x ∷ xs) d zero b e = ap (λ z. if z then Some 0 else option_map suc (index_of same b xs)) (ap (same b) (some_same x b e) ∙ law.same_true b)
index_at same law (x ∷ xs) d (suc n) b e = step (same b x) refl (index_at same law xs d.1 n b e)
  where
    step : (z : Bool) → same b x ≡ z → index_of same b xs ≡ Some n → (if z then Some 0 else option_map suc (index_of same b xs)) ≡ Some (suc n)
    step true q ih = absurd (d.0 (subst (λ u. Has u xs) (law.true_same b x q) (has_get xs n b e)))
    step false q ih = ap (option_map suc) ih

module _ {N : Names} (leads : TypeHandle → Option KitType) (numbered : List ℕ → ℕ) (same : N.value → N.value → Bool) (sameness : IsSameness same) (same_block : N.block → N.block → Bool) (block_law : IsSameness same_block) (h : Head N kit_contents) (bs : Tree N kit_contents Blocks) (f : Fun N.value) (given : Given (kit_reading leads numbered) h bs f) (type_at : N.value → TypeHandle) (typed : IsTyped leads {N = N} type_at (whole (kit_reading leads numbered) h bs f)) where
  abbrev pub values : List N.value
  values = defined_in (region bs end)

  abbrev pub if_value : {X : Type 0} → N.value → X → X → X
  if_value v x y = if is_in same v values then x else y

  is_value : {X : Type 0} (v : N.value) (x y : X) → Has v values → if_value v x y ≡ x
  is_value v x y i = ap (λ b. if b then x else y) (has_in same sameness v values i)

  no_value : {X : Type 0} (v : N.value) (x y : X) → (Has v values → ⊥) → if_value v x y ≡ y
  no_value v x y n = ap (λ b. if b then x else y) (step (is_in same v values) refl)
    where
      step : (b : Bool) → is_in same v values ≡ b → is_in same v values ≡ false
      step true e = absurd (n (in_has same sameness v values e))
      step false e = e

  abbrev runs_in : flat.FunctionFacts N.value → Option ℕ → Bool
  runs_in m None = false
  runs_in m (Some n) = m.runs n

  -- flat facts as facts of the tree
  abbrev lift : flat.FunctionFacts N.value → trees.Facts N IntegerAttr
  lift m = record {
    runs = λ b. runs_in m (index_of same_block b (names_in bs));
    of = λ v. if_value v (as_known leads (type_at v) (m.of v)) known.Any;
  }

  abbrev pub runs_at : trees.Facts N IntegerAttr → Option N.block → ℕ → Bool
  runs_at k None n = nat_eq n 0
  runs_at k (Some b) n = k.runs b

  -- and back
  abbrev pub lower : trees.Facts N IntegerAttr → flat.FunctionFacts N.value
  lower k = record {
    runs = λ n. runs_at k (slice_get (names_in bs) n) n;
    of = λ v. if_value v (as_fact leads (type_at v) (k.of v)) Undetermined;
  }

  lift_runs : (m : flat.FunctionFacts N.value) (n : ℕ) (b : N.block) → slice_get (names_in bs) n ≡ Some b → m.runs n ≡ (lift m).runs b
  lift_runs m n b e = ap (runs_in m) (sym (index_at same_block block_law (names_in bs) (to_distinct (names_in bs) given.blocks) n b e))

  lower_runs : (k : trees.Facts N IntegerAttr) (n : ℕ) (b : N.block) → slice_get (names_in bs) n ≡ Some b → (lower k).runs n ≡ k.runs b
  lower_runs k n b e = ap (λ o. runs_at k o n) e

  lift_of : (m : flat.FunctionFacts N.value) (v : N.value) → Has v values → (lift m).of v ≡ as_known leads (type_at v) (m.of v)
  lift_of m v i = is_value v (as_known leads (type_at v) (m.of v)) known.Any i

  lower_of : (k : trees.Facts N IntegerAttr) (v : N.value) → Has v values → (lower k).of v ≡ as_fact leads (type_at v) (k.of v)
  lower_of k v i = is_value v (as_fact leads (type_at v) (k.of v)) Undetermined i

  lift_closed : (m : flat.FunctionFacts N.value) → flat.AreClosedFacts (Some f) m → trees.IsClosed kit (whole (kit_reading leads numbered) h bs f) (lift m)
  lift_closed m c = tree_closed leads numbered h bs f given type_at typed (lift m) m (lift_runs m)
      (λ v i n. subst (λ z. Det leads (type_at v) z (m.of v)) (sym (lift_of m v i)) (det_known leads (type_at v) (m.of v) (λ e. n (lift_of m v i ∙ e))))
      (λ t g i j e b. subst (λ z. tree.AtOrBelow z ((lift m).of g)) (sym (lift_of m t i)) (subst (tree.AtOrBelow (as_known leads (type_at t) (m.of t))) (sym (lift_of m g j ∙ ap (λ z. as_known leads z (m.of g)) e)) (order_known leads (type_at t) (m.of t) (m.of g) b)))
      (λ v n i lt b. subst (λ z. tree.AtOrBelow z (known.One (number_as leads (type_at v) n))) (sym (lift_of m v i)) (subst (tree.AtOrBelow (as_known leads (type_at v) (m.of v))) (known_number leads (type_at v) n lt) (order_known leads (type_at v) (m.of v) (flat.Known n) b)))
      (λ v i e. lift_of m v i ∙ ap (as_known leads (type_at v)) e)
      (λ v n. no_value v (as_known leads (type_at v) (m.of v)) known.Any n) c

  lower_closed : (k : trees.Facts N IntegerAttr) → trees.IsClosed kit (whole (kit_reading leads numbered) h bs f) k → flat.AreClosedFacts (Some f) (lower k)
  lower_closed k c = flat_closed leads numbered h bs f given type_at typed k (lower k) (lower_runs k)
      (λ v i n. subst (Det leads (type_at v) (k.of v)) (sym (lower_of k v i)) (det_fact leads (type_at v) (k.of v) (λ e. n (lower_of k v i ∙ e))))
      (λ t g i j e b. subst (λ z. flat.FactAtOrBelow z ((lower k).of g)) (sym (lower_of k t i)) (subst (flat.FactAtOrBelow (as_fact leads (type_at t) (k.of t))) (sym (lower_of k g j ∙ ap (λ z. as_fact leads z (k.of g)) e)) (order_fact leads (type_at t) (k.of t) (k.of g) b)))
      (λ v n i lt b. subst (λ z. flat.FactAtOrBelow z (flat.Known n)) (sym (lower_of k v i)) (subst (flat.FactAtOrBelow (as_fact leads (type_at v) (k.of v))) (fact_number leads (type_at v) n lt) (order_fact leads (type_at v) (k.of v) (known.One (number_as leads (type_at v) n)) b)))
      (λ v i e. lower_of k v i ∙ ap (as_fact leads (type_at v)) e)
      (λ e. ap (λ o. runs_at k o 0) e) c

  pub best_flatly : (k : trees.Facts N IntegerAttr) → trees.IsMostPrecise kit (whole (kit_reading leads numbered) h bs f) k → flat.AreMostPreciseFacts (Some f) (lower k)
  best_flatly k best = record {
    closed = lower_closed k best.closed;
    best = λ m c.
        let more = best.best (lift m) (lift_closed m c) in
        record {
          fewer = λ n e. fewer m c (slice_get (names_in bs) n) n refl (λ b q. more.fewer b q) e;
          above = λ v. above m v (more.above v) (is_in same v values) refl;
        };
  }
    where
      fewer : (m : flat.FunctionFacts N.value) → flat.AreClosedFacts (Some f) m → (o : Option N.block) (n : ℕ) → slice_get (names_in bs) n ≡ o → ((b : N.block) → k.runs b ≡ true → (lift m).runs b ≡ true) → runs_at k o n ≡ true → m.runs n ≡ true
      fewer m c None n e more q = ap m.runs (eqb-true n 0 q) ∙ c.entry_runs
      fewer m c (Some b) n e more q = lift_runs m n b e ∙ more b q

      above : (m : flat.FunctionFacts N.value) (v : N.value) → tree.AtOrBelow ((lift m).of v) (k.of v) → (b : Bool) → is_in same v values ≡ b → flat.FactAtOrBelow (m.of v) ((lower k).of v)
      above m v q true e =
          let i = in_has same sameness v values e in
          subst (flat.FactAtOrBelow (m.of v)) (sym (lower_of k v i)) (order_back leads (type_at v) (m.of v) (k.of v) (subst (λ z. tree.AtOrBelow z (k.of v)) (lift_of m v i) q))
      above m v q false e = subst (flat.FactAtOrBelow (m.of v)) (sym (ap (λ (b : Bool). if b then as_fact leads (type_at v) (k.of v) else Undetermined) e)) (below_top (m.of v))

  pub lower_agrees : (k : trees.Facts N IntegerAttr) → trees.IsMostPrecise kit (whole (kit_reading leads numbered) h bs f) k → AreFlatly leads {N = N} type_at (whole (kit_reading leads numbered) h bs f) (names_in bs) k (lower k)
  lower_agrees k best = record {
    runs = lower_runs k;
    of = λ v i.
        let more = best.best (lift (lower k)) (lift_closed (lower k) (lower_closed k best.closed)) in
        let q = subst (λ z. tree.AtOrBelow z (k.of v)) (lift_of (lower k) v i ∙ ap (as_known leads (type_at v)) (lower_of k v i)) (more.above v) in
        subst (IsKnownAs leads (type_at v) (k.of v)) (sym (lower_of k v i)) (agree leads (type_at v) (k.of v) q);
    outside = λ v n. no_value v (as_fact leads (type_at v) (k.of v)) Undetermined n;
  }
