-- The most precise facts of a tree that keeps the rules, without what they know wrongly, are closed, and so they know nothing wrongly.
use Rattle.std.proofs.Common.{◌≡◌, ◌⊎◌, ⊎_elim, inl, inr, ℕ, suc, Bool, true, false, List, [], ◌∷◌, map, length, Option, Some, None, slice_get, refl, sym, ap, ◌∙◌, subst, arith}
use Rattle.std.specs.Prelude.{if◌then◌else◌}
use Rattle.std.specs.Prelude as std
use Rattle.ir_base.specs.declared.types.TypeHandle.{TypeHandle}
use Rattle.ir_program.specs.declared.handles.Value.{Value}
use Rattle.ir_trees.specs.Renames.{names_of}
use Rattle.ir_trees.specs.Stands.{by_handle}
use Rattle.ir_trees.specs.Trees.{Sort, end, operation, block, region}
use Rattle.kit.specs.Context.{KitTree}
use Rattle.kit.specs.Meaning.{KitOperation, KitBlock, of_both}
use Rattle.kit_checks.specs.Faults.{Keeps}
use Rattle.kit_checks.specs.KitWorld.{kit_world}
use Rattle.kit_checks.specs.Sites.{Listed}
use Rattle.kit_checks.specs.declared.rule.Rule.{Rule}
use Rattle.kit_checks.proofs.Down.{step_to}
use Rattle.kit_ops.specs.declared.attributes.IntegerAttr.{IntegerAttr}
use Rattle.kit_ops.specs.declared.types.KitType.{KitType}
use Rattle.kit_pass_rules.specs.Laws.{IsGood}
use Rattle.kit_pass_rules.proofs.FactsFit.{Right, Tests}
use Rattle.kit_pass_rules.proofs.Located.{Located}
use Rattle.kit_pass_rules.proofs.Walk.{OccurrenceOf, child_of}
use Rattle.opt_rows.specs.declared.known.Known.{Known}
use Rattle.opt_rows.specs.declared.known.Known.TheVariants.{Undetermined, One, Any}
use Rattle.opt_rows.specs.Known.{AtOrBelow, AllBelow, AllAny, asked, and_known, answer}
use Rattle.opt_trees.specs.Facts.{Facts, EntriesRun}
use Rattle.opt_trees.specs.Occurrences.{Has, occurrences_of}
use Rattle.opt_trees.proofs.Lists.{some_same, none_some}

module _ (leads : TypeHandle → Option KitType) (old : Value → Option TypeHandle) (t : KitTree) (good : IsGood leads old t)
    (test : Option TypeHandle → IntegerAttr → Bool) (tests : Tests leads test) (k : Facts by_handle IntegerAttr) where
  -- what is known rightly; of what is known wrongly nothing
  abbrev pub lower : Option TypeHandle → Known IntegerAttr → Known IntegerAttr
  lower ty Undetermined = Undetermined
  lower ty Any = Any
  lower ty (One a) = if test ty a then One a else Undetermined

  abbrev pub lowered : Facts by_handle IntegerAttr
  lowered = record { runs = k.runs; of = λ v. lower (old v) (k.of v) }

  pub all_any : (vs : List Value) → AllAny k.of vs → AllAny lowered.of vs
  all_any [] h = tt
  all_any (v ∷ vs) h = (ap (lower (old v)) h.0, all_any vs h.1)

  pub entries_lowered : {s : Sort} (x : Listed KitOperation KitBlock s) → EntriesRun k x → EntriesRun lowered x
  entries_lowered end h = tt
  entries_lowered (operation hd rs rest) h = tt
  entries_lowered (block l os rest) h = (h.0, all_any (names_of l.arguments) h.1)
  entries_lowered (region bs rest) h = (entries_lowered bs h.0, entries_lowered rest h.1)

  -- what is asked: nothing, or the same, of operands that are known rightly
  abbrev pub SameOf : List Value → Type 0
  SameOf vs = (v : Value) → Has v vs → lowered.of v ≡ k.of v

  one_lower : (ty : Option TypeHandle) (x : Known IntegerAttr) → (lower ty x ≡ Undetermined) ⊎ (lower ty x ≡ x)
  one_lower ty Undetermined = inl refl
  one_lower ty Any = inr refl
  one_lower ty (One a) = step (test ty a)
    where
      step : (b : Bool) → ((if b then One a else Undetermined) ≡ Undetermined) ⊎ ((if b then One a else Undetermined) ≡ One a)
      step true = inr refl
      step false = inl refl

  and_none : (x : Known IntegerAttr) → and_known x None ≡ None
  and_none Undetermined = refl
  and_none Any = refl
  and_none (One a) = refl

  pub asked_lower : (vs : List Value) → (asked (map lowered.of vs) ≡ None) ⊎ ((asked (map lowered.of vs) ≡ asked (map k.of vs)) × SameOf vs)
  asked_lower [] = inr (refl, λ v h. absurd h)
  asked_lower (v ∷ vs) = ⊎_elim
      (λ u. inl (ap (λ z. and_known z (asked (map lowered.of vs))) u))
      (λ same. ⊎_elim
      (λ none. inl (ap (and_known (lowered.of v)) none ∙ and_none (lowered.of v)))
      (λ r. inr ((λ i. and_known (same i) (r.0 i)), λ x h. ⊎_elim (λ e. subst (λ z. lowered.of z ≡ k.of z) (sym e) same) (r.1 x) h))
      (asked_lower vs))
      (one_lower (old v) (k.of v))

  -- results: at or below what they fold to, where that is right
  below_answer : (ty : Option TypeHandle) (x : Known IntegerAttr) (o : Option IntegerAttr) → AtOrBelow x (answer o) → ((b : IntegerAttr) → o ≡ Some b → test ty b ≡ true) → AtOrBelow (lower ty x) (answer o)
  below_answer ty Any o h r = tt
  below_answer ty Undetermined None h r = absurd h
  below_answer ty Undetermined (Some b) h r = absurd h
  below_answer ty (One a) None h r = absurd h
  below_answer ty (One a) (Some b) h r =
      let passes : test ty a ≡ true = ap (test ty) h ∙ r b refl in
      subst (λ z. AtOrBelow (if z then One a else Undetermined) (One b)) (sym passes) h

  pub all_below : (vs : List Value) (os : List (Option IntegerAttr)) → AllBelow k.of vs (map answer os) →
      ((i : ℕ) (v : Value) (b : IntegerAttr) → slice_get vs i ≡ Some v → slice_get os i ≡ Some (Some b) → test (old v) b ≡ true) → AllBelow lowered.of vs (map answer os)
  all_below [] os h r = tt
  all_below (v ∷ vs) [] h r = tt
  all_below (v ∷ vs) (o ∷ os) h r = (below_answer (old v) (k.of v) o h.0 (λ b e. r 0 v b refl (ap Some e)), all_below vs os h.1 (λ i. r (suc i)))

  -- arguments: at or below what is forwarded to them, of the same type
  below_lower : (ty : Option TypeHandle) (x y : Known IntegerAttr) → AtOrBelow x y → AtOrBelow (lower ty x) (lower ty y)
  below_lower ty Any y h = tt
  below_lower ty Undetermined Undetermined h = tt
  below_lower ty Undetermined (One b) h = absurd h
  below_lower ty Undetermined Any h = absurd h
  below_lower ty (One a) Any h = absurd h
  below_lower ty (One a) Undetermined h = step (test ty a)
    where
      step : (b : Bool) → AtOrBelow (if b then One a else Undetermined) Undetermined
      step true = tt
      step false = tt
  below_lower ty (One a) (One b) h = subst (λ z. AtOrBelow (lower ty (One a)) (lower ty (One z))) h (self (test ty a))
    where
      self : (b : Bool) → AtOrBelow (if b then One a else Undetermined) (if b then One a else Undetermined)
      self true = refl
      self false = tt

  pub arguments_below : (vs us : List Value) → map old us ≡ map old vs → AllBelow k.of vs (map k.of us) → AllBelow lowered.of vs (map lowered.of us)
  arguments_below [] us e h = tt
  arguments_below (v ∷ vs) [] e h = tt
  arguments_below (v ∷ vs) (u ∷ us) e h =
      let first : old u ≡ old v = some_same (old u) (old v) (ap (λ l. slice_get l 0) e) in (
        subst (λ z. AtOrBelow (lower (old v) (k.of v)) (lower z (k.of u))) (sym first) (below_lower (old v) (k.of v) (k.of u) h.0),
        arguments_below vs us (ap (std.drop 1) e) h.1,
      )

  -- ---- folds

  module _ (o : OccurrenceOf KitOperation KitBlock) (stands : Has o (occurrences_of t)) (l : Located t o) where
    pub rule_here : (q : Rule) → Keeps (kit_world leads old) q (step_to l.s l.outer l.blocks l.b l.body l.k l.u)
    rule_here q =
        let c = child_of t l.s l.outer l.up l.r l.b l.k l.blocks l.body l.u l.region_here l.block_here l.here in
        good.obeys q c.place (step_to l.s l.outer l.blocks l.b l.body l.k l.u) c.at_place

    both_one : (f : IntegerAttr → IntegerAttr → Option IntegerAttr) (x y : Known IntegerAttr) (xs : List (Option IntegerAttr)) (b : IntegerAttr) →
        asked (x ∷ y ∷ []) ≡ Some xs → of_both f xs ≡ Some b → (p : IntegerAttr) × (q : IntegerAttr) × (x ≡ One p) × (f p q ≡ Some b)
    both_one f (One p) (One q) xs b e z = (p, q, refl, ap (of_both f) (some_same (Some p ∷ Some q ∷ []) xs e) ∙ z)
    both_one f (One p) Any xs b e z = absurd (none_some b (ap (of_both f) (some_same (Some p ∷ None ∷ []) xs e) ∙ z))
    both_one f (One p) Undetermined xs b e z = absurd (none_some xs e)
    both_one f Any (One q) xs b e z = absurd (none_some b (ap (of_both f) (some_same (None ∷ Some q ∷ []) xs e) ∙ z))
    both_one f Any Any xs b e z = absurd (none_some b (ap (of_both f) (some_same (None ∷ None ∷ []) xs e) ∙ z))
    both_one f Any Undetermined xs b e z = absurd (none_some xs e)
    both_one f Undetermined y xs b e z = absurd (none_some xs e)

    pub two : (f : IntegerAttr → IntegerAttr → Option IntegerAttr) (vs : List Value) (xs : List (Option IntegerAttr)) (b : IntegerAttr) → length vs ≡ 2 → SameOf vs →
        asked (map k.of vs) ≡ Some xs → of_both f xs ≡ Some b → (tx : TypeHandle) × (p : IntegerAttr) × (q : IntegerAttr) × Right leads tx p × (f p q ≡ Some b)
    two f [] xs b n same e z = absurd (omega (arith, n))
    two f (x ∷ []) xs b n same e z = absurd (omega (arith, n))
    two f (x ∷ (y ∷ (w ∷ vs))) xs b n same e z = absurd (omega (arith, n))
    two f (x ∷ (y ∷ [])) xs b n same e z =
        let r = both_one f (k.of x) (k.of y) xs b e z in
        right (old x) refl r.0 r.1 r.3 (sym (ap (lower (old x)) r.2) ∙ (same x (inl refl) ∙ r.2))
      where
        right : (ty : Option TypeHandle) → old x ≡ ty → (p q : IntegerAttr) → f p q ≡ Some b → lower (old x) (One p) ≡ One p →
            (tx : TypeHandle) × (p : IntegerAttr) × (q : IntegerAttr) × Right leads tx p × (f p q ≡ Some b)
        right ty is p q z keeps = by_test ty (test ty p) refl (sym (ap (λ y. lower y (One p)) is) ∙ keeps)
          where
            by_test : (ty : Option TypeHandle) (c : Bool) → test ty p ≡ c → lower ty (One p) ≡ One p → (tx : TypeHandle) × (p : IntegerAttr) × (q : IntegerAttr) × Right leads tx p × (f p q ≡ Some b)
            by_test None true e kept = absurd (tests.none p e)
            by_test (Some tx) true e kept = (tx, p, q, tests.right tx p e, z)
            by_test ty false e kept = let w : Undetermined ≡ One p = sym (ap (λ b. if b then One p else Undetermined) e) ∙ kept in absurd (cc w)
