-- What filling a cache leaves.
use Rattle.std.proofs.Common.{◌≡◌, ℕ, ◌<◌, ◌≤◌, Bool, true, false, cond, nat_eq, nat_lt, ◌&&◌, ◌+◌, take, length, get_or, append_assoc, List, [], ◌∷◌, ◌++◌, Option, None, Some, IsSome, refl, sym, ap, subst, ◌∙◌, arith, rules}
use Rattle.std.specs.Cmp.{IsEquivalence}
use Rattle.std.specs.Prelude.{Result, Ok, Err, OnOk, OnErr}
use Rattle.opt_dialect.specs.declared.status.OptError.{OptError}
use Rattle.std.proofs.lemmas.List.{take_more, get_or_default, take_all}
use Rattle.ir_context.specs.Views.{ContextView}
use Rattle.ir_program.specs.Program.{operation_at}
use Rattle.ir_program.specs.declared.handles.Operation.{Operation}
use Rattle.ir_program.specs.declared.handles.Ptr.{Ptr}
use Rattle.pass_analyses.specs.Cached.{Entries, cached, same_handle, same_key}
use Rattle.pass_analyses.specs.Fresh.{AllFresh}
use Rattle.pass_analyses.specs.Filled.{Computes, Fills, FillsIn, FillsAll, there, computed, all_filled, one_more}
use Rattle.pass_analyses.specs.Reading.{Reading}
use Rattle.pass_analyses.proofs.Pushed.{lookup-append, lookup-push}

-- what came is behind what was there, and so is what came then
pub added_twice : {X : Type 0} (a b c x y : List X) → b ≡ a ++ x → c ≡ b ++ y → c ≡ a ++ (x ++ y)
added_twice a b c x y p q = rw (q, p, append_assoc)

module _ {K E : Type 0} (eq : K → K → Bool) where
  -- what is cached stays so
  pub stays_cached : (es grown : Entries K E) (k : K) (p : Ptr Operation) → IsSome (cached eq es k p) → IsSome (cached eq (es ++ grown) k p)
  stays_cached es grown k p h = by (cached eq es k p) refl h
    where
      by : (r : Option E) → cached eq es k p ≡ r → IsSome r → IsSome (cached eq (es ++ grown) k p)
      by None q i = absurd (cc i)
      by (Some x) q i = rw (lookup-append (same_key eq (k, p)) es grown x q) refl

module _ {K E : Type 0} {eq : K → K → Bool} {needed : K → List K} {C : K → Entries K E → E → Type 0} {p : Ptr Operation} where
  -- one more
  pub fills_more : {k : K} {ks : List K} {es mid new : Entries K E} → FillsAll eq needed C p ks es mid → Fills eq needed C p k mid new
      → FillsAll eq needed C p (ks ++ k ∷ []) es new
  fills_more all_filled f = one_more f all_filled
  fills_more (one_more a b) f = one_more a (fills_more b f)

-- the first so many of the kinds that one needs are filled in: each is cached, no kind of its rank or above came, and the
-- entries that came are behind those that were
pub record HasFilled {K E : Type 0} (eq : K → K → Bool) (rank : K → ℕ) (needed : K → List K) (C : K → Entries K E → E → Type 0)
    (p : Ptr Operation) (kind : K) (ks : List K) (n : ℕ) (es now : Entries K E) : Type 0 where
  pub filled : FillsAll eq needed C p (take n ks) es now
  pub there : (i : ℕ) (k : K) → i < n → get_or ks i k ≡ k → IsSome (cached eq now k p)
  pub higher : (j : K) → rank kind ≤ rank j → cached eq es j p ≡ None → cached eq now j p ≡ None
  pub added : (grown : Entries K E) × (now ≡ es ++ grown)

module _ {K E : Type 0} {eq : K → K → Bool} {rank : K → ℕ} {needed : K → List K} {C : K → Entries K E → E → Type 0} {p : Ptr Operation} {kind : K}
    {ks : List K} {es : Entries K E} where
  -- none is filled in at first
  pub filled_none : HasFilled eq rank needed C p kind ks 0 es es
  filled_none = record { filled = all_filled; there = λ i k below is. absurd (omega arith); higher = λ j above absent. absent; added = ([], search rules) }

  -- and then one more
  pub filled_more : {n : ℕ} {now new : Entries K E} (k : K) → n < length ks → get_or ks n k ≡ k → rank k < rank kind
      → HasFilled eq rank needed C p kind ks n es now → Fills eq needed C p k now new → IsSome (cached eq new k p)
      → ((j : K) → rank k < rank j → cached eq now j p ≡ None → cached eq new j p ≡ None)
      → (grown : Entries K E) → new ≡ now ++ grown
      → HasFilled eq rank needed C p kind ks (n + 1) es new
  filled_more {n} {now} {new} k within at lower before fills here higher grown grows = record {
    filled = rw (take_more ks n k within, at) (fills_more before.filled fills);
    there = λ i j below is. by i j below is (nat_lt i n) refl;
    higher = λ j above absent. let l : rank k < rank j = omega arith in higher j l (before.higher j above absent);
    added = (before.added.0 ++ grown, rw (grows, before.added.1, append_assoc));
  }
    where
      by : (i : ℕ) (j : K) → i < n + 1 → get_or ks i j ≡ j → (b : Bool) → nat_lt i n ≡ b → IsSome (cached eq new j p)
      by i j below is true e = let l : i < n = search rules in rw grows (stays_cached eq now grown j p (before.there i j l is))
      by i j below is false e =
          let not_below : n ≤ i = search rules in let same_index : i ≡ n = omega arith in
          let is_there : get_or ks n j ≡ j = rw same_index at is in
          let same_kind : j ≡ k = sym is_there ∙ get_or_default ks n j k within ∙ at in
          rw same_kind here

-- what computing one alone leaves
module _ {K E : Type 0} (eq : K → K → Bool) (laws : IsEquivalence eq) (same : (j k : K) → eq j k ≡ true → j ≡ k) {rank : K → ℕ} {needed : K → List K}
    {C : K → Entries K E → E → Type 0} {p : Ptr Operation} {k : K} {ks : List K} {n : ℕ} {es now : Entries K E}
    (all : length ks ≤ n) (are : ks ≡ needed k) (before : HasFilled eq rank needed C p k ks n es now) (absent : cached eq es k p ≡ None) where
  absent_now : cached eq now k p ≡ None
  absent_now = let le : rank k ≤ rank k = omega arith in before.higher k le absent

  pub filled_last : (a : E) (new : Entries K E) → new ≡ now ++ ((k, p), a) ∷ [] → C k now a → Fills eq needed C p k es new
  filled_last a new grows gives =
      let filled : FillsAll eq needed C p (needed k) es now = subst (λ l. FillsAll eq needed C p l es now) (take_all n ks all ∙ are) before.filled in
      rw grows (computed a absent filled absent_now gives)

  pub there_last : (a : E) (new : Entries K E) → new ≡ now ++ ((k, p), a) ∷ [] → IsSome (cached eq new k p)
  there_last a new grows =
      let itself : same_key eq (k, p) (k, p) ≡ true = rw (laws.refl k) (search rules) in
      rw (grows, lookup-push (same_key eq (k, p)) now (k, p) a absent_now, itself) refl

  pub higher_last : (a : E) (new : Entries K E) → new ≡ now ++ ((k, p), a) ∷ [] → (j : K) → rank k < rank j → cached eq es j p ≡ None → cached eq new j p ≡ None
  higher_last a new grows j above none_before =
      let le : rank k ≤ rank j = omega arith in
      let none_now : cached eq now j p ≡ None = before.higher j le none_before in
      rw (grows, lookup-push (same_key eq (j, p)) now (k, p) a none_now) (by (eq j k) refl)
    where
      by : (t : Bool) → eq j k ≡ t → cond (t && same_handle p p) (Some a) None ≡ None
      by true e = let same_rank : rank j ≡ rank k = ap rank (same j k e) in absurd (omega arith)
      by false e = refl

  module _ (r : Result (Unit {0}) OptError) (new : Entries K E)
      (ok : OnOk r ((a : E) × (new ≡ now ++ ((k, p), a) ∷ []) × C k now a)) (err : OnErr r (new ≡ now)) where
    pub filled_end : OnOk r (Fills eq needed C p k es new)
    filled_end = by r ok
      where
        by : (q : Result (Unit {0}) OptError) → OnOk q ((a : E) × (new ≡ now ++ ((k, p), a) ∷ []) × C k now a) → OnOk q (Fills eq needed C p k es new)
        by (Ok u) h = filled_last h.0 new h.1 h.2
        by (Err e) h = tt

    pub there_end : OnOk r (IsSome (cached eq new k p))
    there_end = by r ok
      where
        by : (q : Result (Unit {0}) OptError) → OnOk q ((a : E) × (new ≡ now ++ ((k, p), a) ∷ []) × C k now a) → OnOk q (IsSome (cached eq new k p))
        by (Ok u) h = there_last h.0 new h.1
        by (Err e) h = tt

    pub higher_end : (j : K) → rank k < rank j → cached eq es j p ≡ None → cached eq new j p ≡ None
    higher_end j above none_before = by r ok err
      where
        by : (q : Result (Unit {0}) OptError) → OnOk q ((a : E) × (new ≡ now ++ ((k, p), a) ∷ []) × C k now a) → OnErr q (new ≡ now) → cached eq new j p ≡ None
        by (Ok u) h g = higher_last h.0 new h.1 j above none_before
        by (Err e) h g = let le : rank k ≤ rank j = omega arith in rw g (before.higher j le none_before)

    pub added_end : (grown : Entries K E) × (new ≡ es ++ grown)
    added_end = by r ok err
      where
        by : (q : Result (Unit {0}) OptError) → OnOk q ((a : E) × (new ≡ now ++ ((k, p), a) ∷ []) × C k now a) → OnErr q (new ≡ now) → (grown : Entries K E) × (new ≡ es ++ grown)
        by (Ok u) h g = (before.added.0 ++ ((k, p), h.0) ∷ [], rw (h.1, before.added.1, append_assoc))
        by (Err e) h g = (before.added.0, g ∙ before.added.1)

module _ {K E O B T : Type 0} (eq : K → K → Bool) (same : (j k : K) → eq j k ≡ true → j ≡ k) (r : Reading (ContextView O B T) K E)
    (c : ContextView O B T) where
  -- one more entry that is fresh leaves all fresh
  pub fresh_pushed : (es : Entries K E) (k : K) (p : Ptr Operation) (a : E) → cached eq es k p ≡ None → r.gives c k p a
      → AllFresh eq r.gives c es → AllFresh eq r.gives c (es ++ ((k, p), a) ∷ [])
  fresh_pushed es k p a absent gives all j q b h live = by (cached eq es j q) refl
    where
      at : (t : Bool) (u : Bool) → eq j k ≡ t → same_handle q p ≡ u → cond (t && u) (Some a) None ≡ Some b → r.gives c j q b
      at true true e f g = let same_kind : j ≡ k = same j k e in let same_operation : q ≡ p = search rules in let same_value : a ≡ b = cc g in
          rw (same_kind, same_operation, ← same_value) gives
      at true false e f g = absurd (cc g)
      at false u e f g = absurd (cc g)

      by : (o : Option E) → cached eq es j q ≡ o → r.gives c j q b
      by (Some x) e = let same_value : x ≡ b = cc (lookup-append (same_key eq (j, q)) es (((k, p), a) ∷ []) x e, h) in
          rw (← same_value) (all j q x e live)
      by None e = at (eq j k) (same_handle q p) refl refl (sym (lookup-push (same_key eq (j, q)) es (k, p) a e) ∙ h)

  module _ (p : Ptr Operation) (live : IsSome (operation_at c.program p)) where
    mutual
      -- so does filling the cache with a kind of a node that stands
      pub fills_fresh : {k : K} {es new : Entries K E} → FillsIn eq r c p k es new
          → AllFresh eq r.gives c es → AllFresh eq r.gives c new
      fills_fresh (there _) all = all
      fills_fresh (computed {k} {es} {mid} a absent before absent_then gives) all =
          let all_mid = fills_all_fresh before all in
          fresh_pushed mid k p a absent_then (gives.1 (λ j wanted b h. all_mid j p b h live)) all_mid

      pub fills_all_fresh : {ks : List K} {es new : Entries K E} → FillsAll eq r.needed (Computes eq r c p) p ks es new
          → AllFresh eq r.gives c es → AllFresh eq r.gives c new
      fills_all_fresh all_filled all = all
      fills_all_fresh (one_more a b) all = fills_all_fresh b (fills_fresh a all)
