-- Chains of different firsts have nothing in common, and no step leads where another leads.
use Rattle.std.proofs.Common.{◌≡◌, ◌≢◌, ◌⊎◌, inl, inr, ⊎_elim, ℕ, zero, suc, ◌≤◌, List, [], ◌∷◌, ◌++◌, map, length, Option, Some, None, slice_get, refl, sym, ap, ◌∙◌, subst, arith}
use Rattle.ir_trees.proofs.Members.{Has, Once, once_at, has_either, has_made}
use Rattle.opt_chains.specs.ChainSteps.{behind, end_of, IsFirst, IsBehind, itself, later, AreLinks, AreSteps, no_steps, one_step, AreWalked}
use Rattle.opt_chains.specs.declared.chain_steps.ChainStep.{ChainStep}
use Rattle.opt_chains.proofs.ChainRows.{IsRow, HasWalked, behind_more, behind_first, end_in, next_new, no_return, once_more, rows, same_number}
use Rattle.opt_chains.proofs.MergeLists.{none_listed}

map_last : (ss : List ChainStep) (s : ChainStep) → map (λ (x : ChainStep). x.to) (ss ++ s ∷ []) ≡ map (λ (x : ChainStep). x.to) ss ++ s.to ∷ []
map_last [] s = refl
map_last (u ∷ ss) s = ap (λ l. u.to ∷ l) (map_last ss s)

at_mapped : (ss : List ChainStep) (k : ℕ) (s : ChainStep) → slice_get ss k ≡ Some s → slice_get (map (λ (x : ChainStep). x.to) ss) k ≡ Some s.to
at_mapped [] k s h = absurd (none_listed k s h)
at_mapped (u ∷ ss) zero s h = let e : Some u ≡ Some s = h in let q : u ≡ s = cc in ap (λ (x : ChainStep). Some x.to) q
at_mapped (u ∷ ss) (suc k) s h = at_mapped ss k s h

in_last : (ss : List ChainStep) (s : ChainStep) (f x : ℕ) → Has x (behind ss f) → Has x (behind (ss ++ s ∷ []) f)
in_last ss s f x h = ⊎_elim
    (λ (e : f ≡ s.first). subst (λ g. Has x (behind (ss ++ s ∷ []) g)) (sym e) (subst (Has x) (sym (behind_first ss s)) (at_front (behind ss s.first) (s.to ∷ []) x (subst (λ g. Has x (behind ss g)) e h))))
    (λ (ne : f ≢ s.first). subst (Has x) (sym (behind_more ss s f ne)) h)
    (same_number f s.first)
  where
    at_front : (xs ys : List ℕ) (z : ℕ) → Has z xs → Has z (xs ++ ys)
    at_front [] ys z g = absurd g
    at_front (w ∷ xs) ys z g = ⊎_elim (λ e. inl e) (λ r. inr (at_front xs ys z r)) g

at_last : (xs : List ℕ) (y : ℕ) → Has y (xs ++ y ∷ [])
at_last [] y = inl refl
at_last (x ∷ xs) y = inr (at_last xs y)

module _ (next : List (Option ℕ)) (links : AreLinks next) where
  -- what a number is behind
  over : (f y : ℕ) → IsBehind next f y → (y ≡ f) ⊎ ((a : ℕ) × IsBehind next f a × (slice_get next a ≡ Some (Some y)))
  over f _ itself = inl refl
  over f _ (later a b h e) = inr (a, h, e)

  row_behind : (f a : ℕ) (bs : List ℕ) → IsBehind next f a → IsRow next a bs → (y : ℕ) → Has y (a ∷ bs) → IsBehind next f y
  row_behind f a [] h row y has = ⊎_elim (λ (e : y ≡ a). subst (IsBehind next f) (sym e) h) (λ n. absurd n) has
  row_behind f a (b ∷ bs) h row y has = ⊎_elim (λ (e : y ≡ a). subst (IsBehind next f) (sym e) h) (λ r. row_behind f b bs (later a b h row.0) row.1 y r) has

  -- a number is behind one first alone
  one_first : (f g y : ℕ) → IsFirst next f → IsFirst next g → IsBehind next f y → IsBehind next g y → f ≡ g
  one_first f g _ ff fg itself h = ⊎_elim (λ e. e) (λ r. absurd (ff r.0 r.2)) (over g f h)
  one_first f g _ ff fg (later a b i e) h = ⊎_elim
      (λ (same : b ≡ g). absurd (fg a (subst (λ x. slice_get next a ≡ Some (Some x)) same e)))
      (λ r. one_first f g a ff fg i (subst (IsBehind next g) (links.apart r.0 a b r.2 e) r.1))
      (over g b h)

  -- of the steps: their firsts are firsts, they lead behind these, and are listed there
  is_step : (ss : List ChainStep) → AreSteps next ss → (s : ChainStep) → Has s ss → IsFirst next s.first × IsBehind next s.first s.to × Has s.to (behind ss s.first)
  is_step _ no_steps s h = absurd h
  is_step _ (one_step ss u all steps first leads from is) s h = subst (λ l. IsFirst next s.first × IsBehind next s.first s.to × Has s.to (behind l s.first)) (sym is) (⊎_elim
      (λ before. let i = is_step ss steps s before in (i.0, i.1, in_last ss u s.first s.to i.2))
      (λ h2. ⊎_elim
      (λ (e : s ≡ u). subst (λ (x : ChainStep). IsFirst next x.first × IsBehind next x.first x.to × Has x.to (behind (ss ++ u ∷ []) x.first)) (sym e) (
        first,
        later u.before u.to (subst (IsBehind next u.first) (sym from) (row_behind u.first u.first (behind ss u.first) itself (rows next ss steps u.first) (end_of u.first (behind ss u.first)) (end_in u.first (behind ss u.first)))) leads,
        subst (Has u.to) (sym (behind_first ss u)) (at_last (behind ss u.first) u.to),
      ))
      (λ n. absurd n)
      h2)
      (has_either ss (u ∷ []) s (subst (Has s) is h)))

  rows_once : (ss : List ChainStep) → AreSteps next ss → (f : ℕ) → IsFirst next f → Once (f ∷ behind ss f)
  rows_once _ no_steps f ff = (λ h. h, tt)
  rows_once _ (one_step ss s all steps first leads from is) f ff = subst (λ l. Once (f ∷ behind l f)) (sym is) (⊎_elim
      (λ (e : f ≡ s.first). subst (λ x. Once (x ∷ behind (ss ++ s ∷ []) x)) (sym e) (subst (λ l. Once (s.first ∷ l)) (sym (behind_first ss s))
      (next_new next links s.first (behind ss s.first) s.to first (rows next ss steps s.first) (rows_once ss steps s.first first) (subst (λ x. slice_get next x ≡ Some (Some s.to)) from leads))))
      (λ (ne : f ≢ s.first). subst (λ l. Once (f ∷ l)) (sym (behind_more ss s f ne)) (rows_once ss steps f ff))
      (same_number f s.first))

  -- no step leads where another leads
  targets_once : (ss : List ChainStep) → AreSteps next ss → Once (map (λ (x : ChainStep). x.to) ss)
  targets_once _ no_steps = tt
  targets_once _ (one_step ss s all steps first leads from is) = subst (λ l. Once (map (λ (x : ChainStep). x.to) l)) (sym is) (subst Once (sym (map_last ss s)) (once_more (map (λ (x : ChainStep). x.to) ss) s.to (targets_once ss steps) (λ h.
      let u = has_made (λ (x : ChainStep). x.to) ss s.to h in
      let i = is_step ss steps u.0 u.1 in
      let on : slice_get next (end_of s.first (behind ss s.first)) ≡ Some (Some s.to) = subst (λ x. slice_get next x ≡ Some (Some s.to)) from leads in
      let below : IsBehind next s.first s.to = later (end_of s.first (behind ss s.first)) s.to (row_behind s.first s.first (behind ss s.first) itself (rows next ss steps s.first) (end_of s.first (behind ss s.first)) (end_in s.first (behind ss s.first))) on in
      let same : u.0.first ≡ s.first = one_first u.0.first s.first s.to i.0 first (subst (IsBehind next u.0.first) (sym u.2) i.1) below in
      no_return next links s.first (behind ss s.first) s.to (rows next ss steps s.first) (rows_once ss steps s.first first) on
      (subst (λ g. Has s.to (behind ss g)) same (subst (λ x. Has x (behind ss u.0.first)) (sym u.2) i.2)))))

  -- what a number of a row leads to is in the row, where the row goes to its end
  next_in : (a : ℕ) (bs : List ℕ) → IsRow next a bs → slice_get next (end_of a bs) ≡ Some None → (x y : ℕ) → Has x (a ∷ bs) → slice_get next x ≡ Some (Some y) → Has y bs
  next_in a [] row stops x y h e = ⊎_elim
      (λ (s : x ≡ a). let f : Some (Some y) ≡ Some None = sym e ∙ ap (slice_get next) s ∙ stops in cc)
      (λ n. absurd n)
      h
  next_in a (b ∷ bs) row stops x y h e = ⊎_elim
      (λ (s : x ≡ a). let f : Some (Some y) ≡ Some (Some b) = sym e ∙ ap (slice_get next) s ∙ row.0 in let q : y ≡ b = cc in inl q)
      (λ r. inr (next_in b bs row.1 stops x y r e))
      h

  all_in : (ss : List ChainStep) → AreSteps next ss → (f : ℕ) → slice_get next (end_of f (behind ss f)) ≡ Some None → (b : ℕ) → IsBehind next f b → Has b (f ∷ behind ss f)
  all_in ss steps f stops _ itself = inl refl
  all_in ss steps f stops _ (later a b h e) = inr (next_in f (behind ss f) (rows next ss steps f) stops a b (all_in ss steps f stops a h) e)

  pub all_walked : (i : ℕ) (ss : List ChainStep) → length next ≤ i → i ≤ length next → HasWalked next i ss → AreWalked next ss
  all_walked i ss up down has = record {
    steps = has.steps;
    ends = λ f l first. has.ends f (omega (arith, l, up)) first;
    beyond = λ f l. has.beyond f (omega (arith, l, down));
    once = λ j k s u a b e. once_at (map (λ (x : ChainStep). x.to) ss) (targets_once ss has.steps) j k s.to (at_mapped ss j s a) (at_mapped ss k u b ∙ ap Some (sym e));
    all = λ f b c l first h e.
        let stops = has.ends f (omega (arith, l, up)) first in
        next_in f (behind ss f) (rows next ss has.steps f) stops b c (all_in ss has.steps f stops b h) e;
  }
