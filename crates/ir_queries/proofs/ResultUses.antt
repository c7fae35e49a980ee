-- The uses of the results of an operation, result by result.
use Rattle.std.proofs.Common.{◌≡◌, ◌⊎◌, inl, inr, ⊎_elim, ℕ, ◌<◌, ◌≤◌, ◌+◌, ◌^◌, List, [], ◌++◌, length, Option, Some, None, IsSome, option_map, slice_get, refl, sym, ap, ◌∙◌, subst, arith}
use Rattle.std.proofs.lemmas.Bool.{cases_eq}
use Rattle.std.proofs.lemmas.List.{length-append}
use Rattle.std.proofs.lemmas.Option.{same_Some, slice_get_within}
use Rattle.ir_base.specs.declared.types.TypeHandle.{TypeHandle}
use Rattle.ir_program.specs.Program.{Program, TypedValue, results_at, value_in, type_at, IsLiveValue}
use Rattle.ir_program.specs.Definers.{values_at, StandsAtDefiner}
use Rattle.ir_program.specs.Few.{HasFewUses}
use Rattle.ir_program.specs.Uses.{AreUsesOf, IsUseCount}
use Rattle.ir_program.specs.declared.handles.DefiningEntity.{DefiningEntity}
use Rattle.ir_program.specs.declared.handles.DefiningEntity.TheVariants.{Op}
use Rattle.ir_program.specs.declared.handles.Ptr.{Ptr}
use Rattle.ir_program.specs.declared.handles.Operation.{Operation}
use Rattle.ir_program.specs.declared.handles.Value.{Value}
use Rattle.ir_program.specs.declared.handles.Use.{Use}
use Rattle.ir_program.proofs.used.Counts.{no_longer}
use Rattle.ir_queries.specs.Results.{AreUsesWhere, IsResultOf, IsResultUseCount}
use Rattle.ir_queries.proofs.Partway.{get-split, get-front, get-back}

-- the index of a value is within the list
pub value_within : (ts : List TypedValue) (k : ℕ) (v : Value) → value_in ts k ≡ Some v → k < length ts
value_within ts k v e = by (slice_get ts k) refl
  where
    by : (o : Option TypedValue) → slice_get ts k ≡ o → k < length ts
    by None n = let z : value_in ts k ≡ None = ap (option_map (λ (t : TypedValue). t.value)) n in cc
    by (Some t) s = slice_get_within ts k t s

module _ {O B : Type 0} (c : Program O B) where
  -- uses of values of two sorts
  joined : (P Q R : Value → Type 0) → ((v : Value) → P v → Q v → ⊥) → ((v : Value) → P v → R v) → ((v : Value) → Q v → R v) → ((v : Value) → R v → P v ⊎ Q v) → (us vs : List (Use Value)) → AreUsesWhere c P us → AreUsesWhere c Q vs → AreUsesWhere c R (us ++ vs)
  joined P Q R apart left right which us vs these those = record {
    once = λ i j u e f. ⊎_elim
        (λ (a : slice_get us i ≡ Some u). ⊎_elim
        (λ (b : slice_get us j ≡ Some u). these.once i j u a b)
        (λ (b : (k : ℕ) × (length us + k ≡ j) × (slice_get vs k ≡ Some u)). absurd (apart u.def (these.sound i u a).1 (those.sound b.0 u b.2).1))
        (get-split us vs j u f))
        (λ (a : (k : ℕ) × (length us + k ≡ i) × (slice_get vs k ≡ Some u)). ⊎_elim
        (λ (b : slice_get us j ≡ Some u). absurd (apart u.def (these.sound j u b).1 (those.sound a.0 u a.2).1))
        (λ (b : (k : ℕ) × (length us + k ≡ j) × (slice_get vs k ≡ Some u)). let same : a.0 ≡ b.0 = those.once a.0 b.0 u a.2 b.2 in sym a.1 ∙ ap (λ k. length us + k) same ∙ b.1)
        (get-split us vs j u f))
        (get-split us vs i u e);
    sound = λ i u e. ⊎_elim
        (λ (a : slice_get us i ≡ Some u). let s = these.sound i u a in (s.0, left u.def s.1))
        (λ (a : (k : ℕ) × (length us + k ≡ i) × (slice_get vs k ≡ Some u)). let s = those.sound a.0 u a.2 in (s.0, right u.def s.1))
        (get-split us vs i u e);
    all = λ u given here. ⊎_elim
        (λ (p : P u.def). let s = these.all u given p in (s.0, get-front us vs s.0 u s.1))
        (λ (q : Q u.def). let s = those.all u given q in get-back us vs s.0 u s.1)
        (which u.def here);
  }

  same_where : (P Q : Value → Type 0) → ((v : Value) → P v → Q v) → ((v : Value) → Q v → P v) → (us : List (Use Value)) → AreUsesWhere c P us → AreUsesWhere c Q us
  same_where P Q to from us uses = record {
    once = uses.once;
    sound = λ i u e. let s = uses.sound i u e in (s.0, to u.def s.1);
    all = λ u given here. uses.all u given (from u.def here);
  }

  one_value : (v : Value) (us : List (Use Value)) → AreUsesOf c v us → AreUsesWhere c (λ w. w ≡ v) us
  one_value v us uses = record { once = uses.once; sound = uses.sound; all = uses.all }

  module _ (p : Ptr Operation) where
    -- the value is one of the operation's results before index i
    abbrev pub IsResultBelow : ℕ → Value → Type 0
    IsResultBelow i v = (k : ℕ) × (k < i) × (value_in (results_at c p) k ≡ Some v)

    -- so many uses have the results before index i
    abbrev pub IsCountBelow : ℕ → ℕ → Type 0
    IsCountBelow i n = (us : List (Use Value)) × AreUsesWhere c (IsResultBelow i) us × (length us ≡ n)

    pub none_below : IsCountBelow 0 0
    none_below = ([], record { once = λ i j u e f. cc; sound = λ i u e. cc; all = λ u given below. absurd (omega (arith, below.1)) }, refl)

    -- the uses of the results up to and with index i
    next_uses : (i : ℕ) (v : Value) → value_in (results_at c p) i ≡ Some v → ((k : ℕ) → value_in (results_at c p) k ≡ Some v → k ≡ i) → (us vs : List (Use Value)) → AreUsesWhere c (IsResultBelow i) us → AreUsesOf c v vs → AreUsesWhere c (IsResultBelow (i + 1)) (us ++ vs)
    next_uses i v at only us vs these those = joined (IsResultBelow i) (λ w. w ≡ v) (IsResultBelow (i + 1))
        (λ w below is. let k : below.0 ≡ i = only below.0 (below.2 ∙ ap Some is) in absurd (omega (arith, below.1)))
        (λ w below. (below.0, omega (arith, below.1), below.2))
        (λ w is. (i, omega arith, at ∙ ap Some (sym is)))
        (λ w below. ⊎_elim
        (λ (same : below.0 ≡ i). inr (same_Some w v (sym below.2 ∙ ap (value_in (results_at c p)) same ∙ at)))
        (λ other. inl (below.0, omega (arith, below.1, other), below.2))
        (cases_eq below.0 i))
        us vs these (one_value v vs those)

    -- the uses of all of them
    pub all_uses : (n : ℕ) → length (results_at c p) ≤ n → (us : List (Use Value)) → AreUsesWhere c (IsResultBelow n) us → AreUsesWhere c (IsResultOf c p) us
    all_uses n enough us uses = same_where (IsResultBelow n) (IsResultOf c p)
        (λ v below. (below.0, below.2))
        (λ v is. (is.0, (let within : is.0 < length (results_at c p) = value_within (results_at c p) is.0 v is.1 in omega arith), is.1))
        us uses

    -- so many uses all of them have
    pub all_counted : (n m : ℕ) → length (results_at c p) ≤ n → IsCountBelow n m → IsResultUseCount c p m
    all_counted n m enough (us, uses, long) = (us, all_uses n enough us uses, long)

    module _ (definer : (e : DefiningEntity) (k : ℕ) (v : Value) → value_in (values_at c e) k ≡ Some v → v.definer ≡ e)
        (stands : (v : Value) (ty : TypeHandle) → type_at c v ≡ Some ty → StandsAtDefiner c v ty) where
      -- a result stands at one index only
      only_index : (i : ℕ) (v : Value) → value_in (results_at c p) i ≡ Some v → IsLiveValue c v → (k : ℕ) → value_in (results_at c p) k ≡ Some v → k ≡ i
      only_index i v at live k here = by (type_at c v) refl live
        where
          of : v.definer ≡ Op p
          of = definer (Op p) i v at

          by : (o : Option TypeHandle) → type_at c v ≡ o → IsSome o → k ≡ i
          by None e h = cc
          by (Some ty) e h =
              let s = stands v ty e in
              s.once k (subst (λ d. value_in (values_at c d) k ≡ Some v) (sym of) here) ∙ sym (s.once i (subst (λ d. value_in (values_at c d) i ≡ Some v) (sym of) at))

      pub uses_step : (i : ℕ) (v : Value) → value_in (results_at c p) i ≡ Some v → IsLiveValue c v → (us new : List (Use Value)) → AreUsesWhere c (IsResultBelow i) us → (vs : List (Use Value)) × AreUsesOf c v vs × (new ≡ us ++ vs) → AreUsesWhere c (IsResultBelow (i + 1)) new
      uses_step i v at live us new these more = subst (AreUsesWhere c (IsResultBelow (i + 1))) (sym more.2) (next_uses i v at (only_index i v at live) us more.0 these more.1)

      pub count_step : (i : ℕ) (v : Value) → value_in (results_at c p) i ≡ Some v → IsLiveValue c v → (m n : ℕ) → IsCountBelow i m → IsUseCount c v n → IsCountBelow (i + 1) (m + n)
      count_step i v at live m n (us, these, long) (vs, those, more) = (us ++ vs, next_uses i v at (only_index i v at live) us vs these those, length-append us vs ∙ ap (λ k. k + length vs) long ∙ ap (λ k. m + k) more)

  -- there are not too many uses to be counted
  pub count_fits : HasFewUses c → (P : Value → Type 0) (n : ℕ) → (us : List (Use Value)) × AreUsesWhere c P us × (length us ≡ n) → n < 2 ^ 64
  count_fits few P n (us, these, long) = let small : length us < 2 ^ 64 = few us these.once (λ i u e. (these.sound i u e).0) in omega arith

  -- the uses have one count
  pub one_count : (P : Value → Type 0) (m n : ℕ) → (us : List (Use Value)) × AreUsesWhere c P us × (length us ≡ m) → (us : List (Use Value)) × AreUsesWhere c P us × (length us ≡ n) → m ≡ n
  one_count P m n (us, mine, is) (vs, theirs, too) =
      let to : length us ≤ length vs = no_longer us vs mine.once (λ i u e. let s = mine.sound i u e in theirs.all u s.0 s.1) in
      let from : length vs ≤ length us = no_longer vs us theirs.once (λ i u e. let s = theirs.sound i u e in mine.all u s.0 s.1) in
      omega (arith, is, too)
