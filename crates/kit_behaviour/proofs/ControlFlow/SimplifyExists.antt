-- The pass on control flow has a result on each function that keeps the rules.
use Rattle.std.proofs.Common.{◌≡◌, ⊎_elim, inl, inr, ℕ, zero, suc, ◌<◌, Bool, true, false, List, [], ◌∷◌, length, Option, Some, None, refl, sym, ap, ◌∙◌, subst, arith}
use Rattle.std.specs.Prelude.{if◌then◌else◌, not, ◌&&◌, nat_eq}
use Rattle.std.proofs.lemmas.Bool.{eqb-true, eq-eqb}
use Rattle.kit_behaviour.specs.Machine.{Edge, Op, Fun, left_in, size}
use Rattle.kit_behaviour.specs.Scopes.{In}
use Rattle.kit_behaviour.specs.Rules.{Rules}
use Rattle.kit_behaviour.specs.Places.{Place}
use Rattle.kit_behaviour.specs.SimplifiedBlocks.{all_edges, LeadsTo, Reached, first, further, IsReachedSet, last_edge, count_to, edges_in, BlocksAreJoinable, IsJoinedSet}
use Rattle.kit_behaviour.proofs.Behaviour.FiniteLists.{below_other, upto, in_upto}
use Rattle.kit_behaviour.proofs.Behaviour.SizeLemmas.{has_block}
use Rattle.kit_behaviour.proofs.Behaviour.Iteration.{after_steps, still_after}
use Rattle.kit_behaviour.proofs.Propagation.FactsAfterwards.{and_true, and_first, and_second}
use Rattle.kit_behaviour.proofs.ControlFlow.NoChainRemains.{leads_range}
use Rattle.kit_behaviour.proofs.ControlFlow.JoiningRules.{edge_fits_in}

-- tests below a bound

any_below : ℕ → (ℕ → Bool) → Bool
any_below zero P = false
any_below (suc n) P = if P n then true else any_below n P

any_sound : (n : ℕ) (P : ℕ → Bool) → any_below n P ≡ true → (b : ℕ) × (P b ≡ true)
unfolding any_below
any_sound zero P e = absurd (cc e)
any_sound (suc n) P e = by_test (P n) refl (any_sound n P)
  where
    by_test : (t : Bool) → P n ≡ t → (any_below n P ≡ true → (b : ℕ) × (P b ≡ true)) → (b : ℕ) × (P b ≡ true)
    by_test true h ih = (n, h)
    by_test false h ih = ih (sym (ap (λ t. if t then true else any_below n P) h) ∙ e)

any_full : (n : ℕ) (P : ℕ → Bool) (b : ℕ) → b < n → P b ≡ true → any_below n P ≡ true
unfolding any_below
any_full zero P b l e = absurd (omega (arith, l))
any_full (suc n) P b l e = by_test (P n) refl (nat_eq b n) refl (λ w. any_full n P b w e)
  where
    by_test : (t : Bool) → P n ≡ t → (q : Bool) → nat_eq b n ≡ q → (b < n → any_below n P ≡ true) → (if P n then true else any_below n P) ≡ true
    by_test true h q g ih = ap (λ t. if t then true else any_below n P) h
    by_test false h true g ih = let bad : true ≡ false = sym e ∙ ap P (eqb-true b n g) ∙ h in absurd (cc bad)
    by_test false h false g ih =
        ap (λ t. if t then true else any_below n P) h ∙ ih (below_other b n l (λ z. let bad : true ≡ false = sym (eq-eqb b n z) ∙ g in cc bad))

-- edges that lead to a block

module _ {V : Type 0} where
  leads_test : ℕ → List (Edge V) → Bool
  leads_test t [] = false
  leads_test t (e ∷ es) = if nat_eq e.target t then true else leads_test t es

  leads_sound : (t : ℕ) (es : List (Edge V)) → leads_test t es ≡ true → (e : Edge V) × In e es × (e.target ≡ t)
  unfolding leads_test
  leads_sound t [] h = absurd (cc h)
  leads_sound t (e ∷ es) h = by_test (nat_eq e.target t) refl (leads_sound t es)
    where
      by_test : (q : Bool) → nat_eq e.target t ≡ q → (leads_test t es ≡ true → (x : Edge V) × In x es × (x.target ≡ t)) → (x : Edge V) × In x (e ∷ es) × (x.target ≡ t)
      by_test true g ih = (e, inl refl, eqb-true e.target t g)
      by_test false g ih = let r = ih (sym (ap (λ b. if b then true else leads_test t es) g) ∙ h) in (r.0, inr r.1, r.2)

  leads_full : (t : ℕ) (es : List (Edge V)) → LeadsTo t es → leads_test t es ≡ true
  unfolding leads_test
  leads_full t [] h = absurd h
  leads_full t (e ∷ es) h =
      ⊎_elim
      (λ q. ap (λ b. if b then true else leads_test t es) (eq-eqb e.target t q))
      (λ r. by_test (nat_eq e.target t) (leads_full t es r))
      h
    where
      by_test : (q : Bool) → leads_test t es ≡ true → (if q then true else leads_test t es) ≡ true
      by_test true ih = refl
      by_test false ih = ih

  leads_of : (t : ℕ) (e : Edge V) (es : List (Edge V)) → In e es → e.target ≡ t → LeadsTo t es
  leads_of t e [] i q = absurd i
  leads_of t e (x ∷ es) i q = ⊎_elim (λ y. inl (ap (λ (z : Edge V). z.target) (sym y) ∙ q)) (λ k. inr (leads_of t e es k q)) i

-- the set of the blocks that are reached

module _ (f : Option (Fun Place)) (rules : Rules f) where
  -- an edge of block b leads to t
  abbrev to : ℕ → ℕ → Bool
  to t b = leads_test t (all_edges (left_in f b 0))

  to_range : (t b : ℕ) → to t b ≡ true → t < size f
  to_range t b e =
      let h = leads_sound t (all_edges (left_in f b 0)) e in
      subst (λ x. x < size f) h.2 (edge_fits_in f h.0 (left_in f b 0) (rules.fits b) h.1).leads

  abbrev step : (ℕ → Bool) → ℕ → Bool
  step r t = if r t then true else any_below (size f) (λ b. r b && to t b)

  grows : (r : ℕ → Bool) (t : ℕ) → r t ≡ true → step r t ≡ true
  grows r t e = ap (λ q. if q then true else any_below (size f) (λ b. r b && to t b)) e

  new_block : (r : ℕ → Bool) (t : ℕ) → step r t ≡ true → r t ≡ false → (b : ℕ) × (r b && to t b ≡ true)
  new_block r t e n = any_sound (size f) (λ b. r b && to t b) (sym (ap (λ q. if q then true else any_below (size f) (λ b. r b && to t b)) n) ∙ e)

  within : (r : ℕ → Bool) (t : ℕ) → step r t ≡ true → r t ≡ false → In t (upto (size f))
  within r t e n = let h = new_block r t e n in in_upto (size f) t (to_range t h.0 (and_second (r h.0) (to t h.0) h.1))

  abbrev entry_only : ℕ → Bool
  entry_only b = nat_eq b 0

  abbrev at : ℕ → ℕ → Bool
  at = after_steps (upto (size f)) step grows within entry_only

  at_sound : (n b : ℕ) → at n b ≡ true → Reached f b
  at_sound zero b e = first b (eqb-true b 0 e)
  at_sound (suc n) b e = by_test (at n b) refl (at_sound n)
    where
      by_test : (q : Bool) → at n b ≡ q → ((c : ℕ) → at n c ≡ true → Reached f c) → Reached f b
      by_test true g ih = ih b g
      by_test false g ih =
          let h = new_block (at n) b e g in
          let l = leads_sound b (all_edges (left_in f h.0 0)) (and_second (at n h.0) (to b h.0) h.1) in
          further h.0 b (ih h.0 (and_first (at n h.0) (to b h.0) h.1)) (leads_of b l.0 (all_edges (left_in f h.0 0)) l.1 l.2)

  at_entry : (n : ℕ) → at n 0 ≡ true
  at_entry zero = refl
  at_entry (suc n) = grows (at n) 0 (at_entry n)

  at_full : (k : ℕ) → ((t : ℕ) → step (at k) t ≡ true → at k t ≡ true) → (b : ℕ) → Reached f b → at k b ≡ true
  at_full k still b (first c e) = ap (at k) e ∙ at_entry k
  at_full k still b (further c t r l) =
      let h = at_full k still c r in
      still t (held (at k t) (any_full (size f) (λ b. at k b && to t b) c (leads_range t f c l) (and_true _ _ h (leads_full t (all_edges (left_in f c 0)) l))))
    where
      held : (q : Bool) → any_below (size f) (λ b. at k b && to t b) ≡ true → (if q then true else any_below (size f) (λ b. at k b && to t b)) ≡ true
      held true h = refl
      held false h = h

  pub reached_exists : (r : ℕ → Bool) × IsReachedSet f r
  reached_exists =
      let s = still_after (upto (size f)) step grows within entry_only in
      (at s.0, record { sound = at_sound s.0; full = at_full s.0 s.1 })

-- the set of the later blocks of chains

module _ {V : Type 0} (h : Option (Fun V)) where
  last_to : Option (Edge V) → ℕ → Bool
  last_to None t = false
  last_to (Some e) t = nat_eq e.target t

  joins_test : ℕ → ℕ → Bool
  joins_test t b = (last_to (last_edge (left_in h b 0)) t && not (nat_eq t 0)) && (not (nat_eq b t) && nat_eq (count_to t (edges_in h)) 1)

  last_sound : (o : Option (Edge V)) (t : ℕ) → last_to o t ≡ true → (e : Edge V) × (o ≡ Some e) × (e.target ≡ t)
  unfolding last_to
  last_sound None t q = absurd (cc q)
  last_sound (Some e) t q = (e, refl, eqb-true e.target t q)

  last_full : (o : Option (Edge V)) (t : ℕ) (e : Edge V) → o ≡ Some e → e.target ≡ t → last_to o t ≡ true
  unfolding last_to
  last_full o t e q w = ap (λ x. last_to x t) q ∙ eq-eqb e.target t w

  not_eq : (x y : ℕ) → not (nat_eq x y) ≡ true → x ≡ y → ⊥
  not_eq x y e q = let bad : false ≡ true = sym (ap not (eq-eqb x y q)) ∙ e in cc bad

  eq_not : (x y : ℕ) → (x ≡ y → ⊥) → not (nat_eq x y) ≡ true
  eq_not x y n = by_test (nat_eq x y) refl
    where
      by_test : (q : Bool) → nat_eq x y ≡ q → not (nat_eq x y) ≡ true
      by_test true e = absurd (n (eqb-true x y e))
      by_test false e = ap not e

  joins_sound : (t b : ℕ) → joins_test t b ≡ true → BlocksAreJoinable h b t
  unfolding joins_test
  joins_sound t b e =
      let l = and_first (last_to (last_edge (left_in h b 0)) t && not (nat_eq t 0)) (not (nat_eq b t) && nat_eq (count_to t (edges_in h)) 1) e in
      let r = and_second (last_to (last_edge (left_in h b 0)) t && not (nat_eq t 0)) (not (nat_eq b t) && nat_eq (count_to t (edges_in h)) 1) e in
      let s = last_sound (last_edge (left_in h b 0)) t (and_first (last_to (last_edge (left_in h b 0)) t) (not (nat_eq t 0)) l) in
      record {
        edge = s.0;
        last = s.1;
        target = s.2;
        not_entry = not_eq t 0 (and_second (last_to (last_edge (left_in h b 0)) t) (not (nat_eq t 0)) l);
        other = not_eq b t (and_first (not (nat_eq b t)) (nat_eq (count_to t (edges_in h)) 1) r);
        single = eqb-true (count_to t (edges_in h)) 1 (and_second (not (nat_eq b t)) (nat_eq (count_to t (edges_in h)) 1) r);
      }

  joins_full : (b t : ℕ) → BlocksAreJoinable h b t → joins_test t b ≡ true
  unfolding joins_test
  joins_full b t q =
      and_true _ _
      (and_true _ _ (last_full (last_edge (left_in h b 0)) t q.edge q.last q.target) (eq_not t 0 q.not_entry))
      (and_true _ _ (eq_not b t q.other) (eq-eqb (count_to t (edges_in h)) 1 q.single))

  last_some : (ops : List (Op V)) (e : Edge V) → last_edge ops ≡ Some e → 0 < length ops
  last_some [] e q = absurd (cc q)
  last_some (op ∷ ops) e q = omega arith

  pub taken_exists : (j : ℕ → Bool) × IsJoinedSet h j
  taken_exists = (
    λ t. any_below (size h) (joins_test t),
    record {
      there = λ t e. let a = any_sound (size h) (joins_test t) e in (a.0, joins_sound t a.0 a.1);
      back = λ b t q. any_full (size h) (joins_test t) b (has_block h b (last_some (left_in h b 0) q.edge q.last)) (joins_full b t q);
    },
  )
