-- What is taken of a list of keys, step by step.
use Rattle.std.proofs.Common.{◌≡◌, ◌⊎◌, inl, inr, ⊎_elim, ℕ, zero, suc, ◌+◌, ◌<◌, ◌≤◌, List, [], ◌∷◌, ◌++◌, length, take, Some, slice_get, sym, ap, ◌∙◌, subst, arith}
use Rattle.std.proofs.lemmas.List.{take_more, take_all}
use Rattle.std.proofs.lemmas.Option.{slice_get_within, get_or_from_slice_get}
use Rattle.ir_trees.specs.Searched.{Lists, AreDistinct}
use Rattle.opt_dce.specs.liveness.Taken.{Picks, TakesIf}
use Rattle.opt_dce.proofs.LivenessLemmas.Partway.{at_middle, at_front, at_last}

module _ {X R : Type 0} (name : R → X) (Is : R → Type 0) (Wanted : X → Type 0) (keys : List X) (once : AreDistinct keys) where
  pub picks_begin : Picks name Is Wanted (take 0 keys) []
  picks_begin = record { sound = λ r h. absurd (cc (h.1)); all = λ x h w. absurd (cc (h.1)); once = λ i j r s a b e. absurd (cc a) }

  -- a member of the keys so far is one of the keys, with an index below
  at_take : (m k : ℕ) (xs : List X) (x : X) → slice_get (take m xs) k ≡ Some x → (k < m) × (slice_get xs k ≡ Some x)
  at_take zero k xs x e = absurd (cc e)
  at_take (suc m) k [] x e = absurd (cc e)
  at_take (suc m) zero (y ∷ xs) x e = (omega arith, e)
  at_take (suc m) (suc k) (y ∷ xs) x e = let w = at_take m k xs x e in (let lt = w.0 in omega arith, w.1)

  more : (m : ℕ) (x : X) → slice_get keys m ≡ Some x → take (m + 1) keys ≡ take m keys ++ x ∷ []
  more m x here = take_more keys m x (slice_get_within keys m x here) ∙ ap (λ y. take m keys ++ y ∷ []) (get_or_from_slice_get keys m x x here)

  one_more : (m : ℕ) (x : X) → slice_get keys m ≡ Some x → (y : X) → Lists (take (m + 1) keys) y → Lists (take m keys) y ⊎ (y ≡ x)
  one_more m x here y l = ⊎_elim (λ old. inl (l.0, old)) (λ new. inr new.1) (at_last (take m keys) x l.0 y (ap (λ ks. slice_get ks l.0) (sym (more m x here)) ∙ l.1))

  still : (m : ℕ) (x : X) → slice_get keys m ≡ Some x → (y : X) → Lists (take m keys) y → Lists (take (m + 1) keys) y
  still m x here y l = (l.0, ap (λ ks. slice_get ks l.0) (more m x here) ∙ at_front (take m keys) (x ∷ []) l.0 y l.1)

  now : (m : ℕ) (x : X) → slice_get keys m ≡ Some x → Lists (take (m + 1) keys) x
  now m x here = (length (take m keys), ap (λ ks. slice_get ks (length (take m keys))) (more m x here) ∙ at_middle (take m keys) [] x)

  not_yet : (m : ℕ) (x : X) → slice_get keys m ≡ Some x → Lists (take m keys) x → ⊥
  not_yet m x here l = let w = at_take m l.0 keys x l.1 in let e : l.0 ≡ m = once l.0 m x w.1 here in let lt = w.0 in omega arith

  push : (m : ℕ) (x : X) (rows : List R) (r : R) → slice_get keys m ≡ Some x → name r ≡ x → Is r → Wanted x → Picks name Is Wanted (take m keys) rows → Picks name Is Wanted (take (m + 1) keys) (rows ++ r ∷ [])
  push m x rows r here named is wanted p = record {
    sound = λ s h. ⊎_elim
        (λ old. let w = p.sound s (h.0, old) in (still m x here (name s) w.0, w.1, w.2))
        (λ new. (subst (λ z. Lists (take (m + 1) keys) (name z)) (sym new.1) (subst (Lists (take (m + 1) keys)) (sym named) (now m x here)), subst Is (sym new.1) is, subst (λ z. Wanted (name z)) (sym new.1) (subst Wanted (sym named) wanted)))
        (at_last rows r h.0 s h.1);
    all = λ y l w. ⊎_elim
        (λ old. let s = p.all y old w in (s.0, (s.1.0, at_front rows (r ∷ []) s.1.0 s.0 s.1.1), s.2))
        (λ e. (r, (length rows, at_middle rows [] r), named ∙ sym e))
        (one_more m x here y l);
    once = λ i j s t a b e. ⊎_elim
        (λ old. ⊎_elim
        (λ also. p.once i j s t old also e)
        (λ new. absurd (not_yet m x here (subst (Lists (take m keys)) (e ∙ (ap name new.1 ∙ named)) (p.sound s (i, old)).0)))
        (at_last rows r j t b))
        (λ new. ⊎_elim
        (λ old. absurd (not_yet m x here (subst (Lists (take m keys)) (sym e ∙ (ap name new.1 ∙ named)) (p.sound t (j, old)).0)))
        (λ also. new.0 ∙ sym also.0)
        (at_last rows r j t b))
        (at_last rows r i s a);
  }

  skip : (m : ℕ) (x : X) (rows : List R) → slice_get keys m ≡ Some x → (Wanted x → ⊥) → Picks name Is Wanted (take m keys) rows → Picks name Is Wanted (take (m + 1) keys) rows
  skip m x rows here unwanted p = record {
    sound = λ s h. let w = p.sound s h in (still m x here (name s) w.0, w.1, w.2);
    all = λ y l w. ⊎_elim (λ old. p.all y old w) (λ e. absurd (unwanted (subst Wanted e w))) (one_more m x here y l);
    once = p.once;
  }

  -- one key further: what is said of the row and of whether it is wanted may be in other words
  pub picks_step : (IsHere : R → Type 0) (WantedHere : Type 0) (m : ℕ) (x : X) (old new : List R) → slice_get keys m ≡ Some x → ((r : R) → name r ≡ x → IsHere r → Is r) → (WantedHere → Wanted x) → (Wanted x → WantedHere) → Picks name Is Wanted (take m keys) old → TakesIf name IsHere x WantedHere old new → Picks name Is Wanted (take (m + 1) keys) new
  picks_step IsHere WantedHere m x old new here is to from p t = ⊎_elim
      (λ w. subst (Picks name Is Wanted (take (m + 1) keys)) (sym w.1.3) (push m x old w.1.0 here w.1.1 (is w.1.0 w.1.1 w.1.2) (to w.0) p))
      (λ w. subst (Picks name Is Wanted (take (m + 1) keys)) (sym w.1) (skip m x old here (λ z. w.0 (from z)) p))
      t

  pub picks_end : (m : ℕ) (rows : List R) → length keys ≤ m → Picks name Is Wanted (take m keys) rows → Picks name Is Wanted keys rows
  picks_end m rows all p = subst (λ ks. Picks name Is Wanted ks rows) (take_all m keys all) p
