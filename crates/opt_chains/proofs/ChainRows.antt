-- Rows of numbers, each leading to the one behind it.
use Rattle.std.proofs.Common.{◌≡◌, ◌≢◌, ◌⊎◌, inl, inr, ⊎_elim, ℕ, zero, suc, ◌+◌, ◌-◌, ◌<◌, ◌≤◌, Bool, true, false, eqb, eq-eqb, List, [], ◌∷◌, ◌++◌, length, Option, Some, None, slice_get, refl, sym, ap, ◌∙◌, subst, arith}
use Rattle.std.proofs.lemmas.List.{length-append}
use Rattle.std.specs.Prelude.{if◌then◌else◌}
use Rattle.ir_trees.proofs.Members.{Has, Once}
use Rattle.opt_chains.specs.ChainSteps.{behind, end_of, IsFirst, AreLinks, AreSteps, no_steps, one_step, IsWalked}
use Rattle.opt_chains.specs.declared.chain_steps.ChainStep.{ChainStep}

pub number_yes : (a b : ℕ) → a ≡ b → eqb a b ≡ true
number_yes a b e = eq-eqb a b e

pub number_no : (a b : ℕ) → a ≢ b → eqb a b ≡ false
number_no a b ne = grind arith

pub same_number : (a b : ℕ) → (a ≡ b) ⊎ (a ≢ b)
same_number zero zero = inl refl
same_number zero (suc b) = inr (λ e. omega arith)
same_number (suc a) zero = inr (λ e. omega arith)
same_number (suc a) (suc b) = ⊎_elim (λ e. inl (ap suc e)) (λ ne. inr (λ e. ne (omega arith))) (same_number a b)

-- one step more
pub behind_more : (ss : List ChainStep) (s : ChainStep) (f : ℕ) → f ≢ s.first → behind (ss ++ s ∷ []) f ≡ behind ss f
behind_more [] s f ne = ap (λ b. if b then s.to ∷ [] else []) (number_no s.first f (λ e. ne (sym e)))
behind_more (u ∷ ss) s f ne = ap (λ l. if eqb u.first f then u.to ∷ l else l) (behind_more ss s f ne)

pub behind_first : (ss : List ChainStep) (s : ChainStep) → behind (ss ++ s ∷ []) s.first ≡ behind ss s.first ++ s.to ∷ []
behind_first [] s = ap (λ b. if b then s.to ∷ [] else []) (number_yes s.first s.first refl)
behind_first (u ∷ ss) s = by_case (eqb u.first s.first) (behind_first ss s) where
  by_case : (b : Bool) → behind (ss ++ s ∷ []) s.first ≡ behind ss s.first ++ s.to ∷ []
      → (if b then u.to ∷ behind (ss ++ s ∷ []) s.first else behind (ss ++ s ∷ []) s.first) ≡ (if b then u.to ∷ behind ss s.first else behind ss s.first) ++ s.to ∷ []
  by_case true e = ap (λ l. u.to ∷ l) e
  by_case false e = e

pub end_more : (a : ℕ) (bs : List ℕ) (c : ℕ) → end_of a (bs ++ c ∷ []) ≡ c
end_more a [] c = refl
end_more a (b ∷ bs) c = end_more b bs c

pub end_in : (a : ℕ) (bs : List ℕ) → Has (end_of a bs) (a ∷ bs)
end_in a [] = inl refl
end_in a (b ∷ bs) = inr (end_in b bs)

-- a new one behind distinct ones
pub once_more : (xs : List ℕ) (y : ℕ) → Once xs → (Has y xs → ⊥) → Once (xs ++ y ∷ [])
once_more [] y once new = (λ h. h, tt)
once_more (x ∷ xs) y once new = (λ h. not_in xs (λ e. new (inl e)) once.0 h, once_more xs y once.1 (λ h. new (inr h))) where
  not_in : (zs : List ℕ) → (y ≡ x → ⊥) → (Has x zs → ⊥) → Has x (zs ++ y ∷ []) → ⊥
  not_in [] ne out h = ⊎_elim (λ (e : x ≡ y). ne (sym e)) (λ n. n) h
  not_in (z ∷ zs) ne out h = ⊎_elim (λ e. out (inl e)) (λ r. not_in zs ne (λ g. out (inr g)) r) h

module _ (next : List (Option ℕ)) where
  -- each leads to the one behind it
  abbrev pub IsRow : ℕ → List ℕ → Type 0
  IsRow a [] = Unit {0}
  IsRow a (b ∷ bs) = (slice_get next a ≡ Some (Some b)) × IsRow b bs

  row_more : (a : ℕ) (bs : List ℕ) (c : ℕ) → IsRow a bs → slice_get next (end_of a bs) ≡ Some (Some c) → IsRow a (bs ++ c ∷ [])
  row_more a [] c row leads = (leads, tt)
  row_more a (b ∷ bs) c row leads = (row.0, row_more b bs c row.1 leads)

  -- what steps have behind a number is a row
  pub rows : (ss : List ChainStep) → AreSteps next ss → (f : ℕ) → IsRow f (behind ss f)
  rows _ no_steps f = tt
  rows _ (one_step ss s all steps first leads from is) f = subst (λ l. IsRow f (behind l f)) (sym is) (⊎_elim
      (λ (e : f ≡ s.first). subst (λ x. IsRow x (behind (ss ++ s ∷ []) x)) (sym e) (subst (IsRow s.first) (sym (behind_first ss s))
      (row_more s.first (behind ss s.first) s.to (rows ss steps s.first) (subst (λ x. slice_get next x ≡ Some (Some s.to)) from leads))))
      (λ (ne : f ≢ s.first). subst (IsRow f) (sym (behind_more ss s f ne)) (rows ss steps f))
      (same_number f s.first))

  -- a row never comes back to what is behind its first
  pub no_return : AreLinks next → (a : ℕ) (bs : List ℕ) (c : ℕ) → IsRow a bs → Once (a ∷ bs) → slice_get next (end_of a bs) ≡ Some (Some c) → Has c bs → ⊥
  no_return links a [] c row once leads h = h
  no_return links a (b ∷ bs) c row once leads h = ⊎_elim
      (λ (e : c ≡ b).
      let same = links.apart (end_of b bs) a c leads (subst (λ x. slice_get next a ≡ Some (Some x)) (sym e) row.0) in
      once.0 (subst (λ x. Has x (b ∷ bs)) same (end_in b bs)))
      (λ r. no_return links b bs c row.1 once.1 leads r)
      h

  -- so the next one is new
  pub next_new : AreLinks next → (a : ℕ) (bs : List ℕ) (c : ℕ) → IsFirst next a → IsRow a bs → Once (a ∷ bs) → slice_get next (end_of a bs) ≡ Some (Some c) → Once (a ∷ (bs ++ c ∷ []))
  next_new links a bs c first row once leads = once_more (a ∷ bs) c once (λ h. ⊎_elim
      (λ (e : c ≡ a). first (end_of a bs) (subst (λ x. slice_get next (end_of a bs) ≡ Some (Some x)) e leads))
      (λ r. no_return links a bs c row once leads r)
      h)

  -- all numbers of a row are below the length
  pub row_below : AreLinks next → (a : ℕ) (bs : List ℕ) → IsRow a bs → a < length next → (x : ℕ) → Has x (a ∷ bs) → x < length next
  row_below links a [] row le x h = ⊎_elim (λ (e : x ≡ a). subst (λ y. y < length next) (sym e) le) (λ n. absurd n) h
  row_below links a (b ∷ bs) row le x h = ⊎_elim (λ (e : x ≡ a). subst (λ y. y < length next) (sym e) le) (λ r. row_below links b bs row.1 (links.within a b row.0) x r) h

-- a number is none of distinct ones, or the others are one fewer
split_off : (n : ℕ) (xs : List ℕ) → Once xs → (Has n xs → ⊥) ⊎ ((ys : List ℕ) × Once ys × ((y : ℕ) → Has y ys → Has y xs × (y ≢ n)) × (length xs ≡ suc (length ys)))
split_off n [] once = inl (λ h. h)
split_off n (x ∷ xs) once = ⊎_elim
    (λ (e : x ≡ n). inr (xs, once.1, λ y h. (inr h, λ q. once.0 (subst (λ z. Has z xs) (q ∙ sym e) h)), refl))
    (λ (ne : x ≢ n). ⊎_elim
    (λ none. inl (λ h. ⊎_elim (λ (e : n ≡ x). ne (sym e)) none h))
    (λ r. inr (
      x ∷ r.0,
      (λ h. once.0 (r.2 x h).0, r.1),
      λ y h. ⊎_elim (λ (e : y ≡ x). (inl e, λ q. ne (sym e ∙ q))) (λ g. let a = r.2 y g in (inr a.0, a.1)) h,
      ap suc r.3,
    ))
    (split_off n xs once.1))
    (same_number x n)

-- distinct numbers below n are at most n
pub at_most : (n : ℕ) (xs : List ℕ) → Once xs → ((x : ℕ) → Has x xs → x < n) → length xs ≤ n
at_most zero [] once below = omega arith
at_most zero (x ∷ xs) once below = let l = below x (inl refl) in absurd (omega (arith, l))
at_most (suc n) xs once below = ⊎_elim
    (λ none. let most = at_most n xs once (λ x h. let l = below x h in let ne : x ≢ n = λ e. none (subst (λ z. Has z xs) e h) in omega (arith, l, ne)) in omega (arith, most))
    (λ r. let most = at_most n r.0 r.1 (λ y h. let a = r.2 y h in let l = below y a.0 in let ne = a.1 in omega (arith, l, ne)) in let e = r.3 in omega (arith, most, e))
    (split_off n xs once)

-- a chain that is being walked: it has come to this number
pub record IsWalking (next : List (Option ℕ)) (f : ℕ) (old now : List ChainStep) (at : ℕ) : Type 0 where
  pub steps : AreSteps next now
  pub end : at ≡ end_of f (behind now f)
  pub once : Once (f ∷ behind now f)
  pub others : (g : ℕ) → g ≢ f → behind now g ≡ behind old g
  pub within : at < length next

module _ (next : List (Option ℕ)) (f : ℕ) (old : List ChainStep) where
  pub walking_begins : AreSteps next old → behind old f ≡ [] → f < length next → IsWalking next f old old f
  walking_begins steps none le = record {
    steps = steps;
    end = ap (end_of f) (sym none);
    once = subst (λ l. Once (f ∷ l)) (sym none) (λ h. h, tt);
    others = λ g ne. refl;
    within = le;
  }

  module _ (links : AreLinks next) (first : IsFirst next f) (le : f < length next) (now : List ChainStep) (at to : ℕ) (walking : IsWalking next f old now at) (leads : slice_get next at ≡ Some (Some to)) where
    abbrev this : ChainStep
    this = record { first = f; before = at; to = to }

    leads_on : slice_get next (end_of f (behind now f)) ≡ Some (Some to)
    leads_on = subst (λ x. slice_get next x ≡ Some (Some to)) walking.end leads

    once_now : Once (f ∷ behind (now ++ this ∷ []) f)
    once_now = subst (λ l. Once (f ∷ l)) (sym (behind_first now this)) (next_new next links f (behind now f) to first (rows next now walking.steps f) walking.once leads_on)

    pub walking_goes : IsWalking next f old (now ++ this ∷ []) to
    walking_goes = record {
      steps = one_step now this (now ++ this ∷ []) walking.steps first leads walking.end refl;
      end = sym (ap (end_of f) (behind_first now this) ∙ end_more f (behind now f) to);
      once = once_now;
      others = λ g ne. behind_more now this g ne ∙ walking.others g ne;
      within = links.within at to leads;
    }

    -- there are fewer numbers left
    pub fewer_left : length next - length (behind (now ++ this ∷ []) f) < length next - length (behind now f)
    fewer_left =
        let steps : AreSteps next (now ++ this ∷ []) = one_step now this (now ++ this ∷ []) walking.steps first leads walking.end refl in
        let most : length (f ∷ behind (now ++ this ∷ []) f) ≤ length next = at_most (length next) (f ∷ behind (now ++ this ∷ []) f) once_now (row_below next links f (behind (now ++ this ∷ []) f) (rows next (now ++ this ∷ []) steps f) le) in
        let more : length (behind (now ++ this ∷ []) f) ≡ length (behind now f) + 1 = ap length (behind_first now this) ∙ length-append (behind now f) (to ∷ []) in
        omega (arith, most, more)

  pub walking_ends : (now : List ChainStep) (at : ℕ) → IsWalking next f old now at → slice_get next at ≡ Some None → IsWalked next f old now
  walking_ends now at walking stops = record { steps = walking.steps; ends = subst (λ x. slice_get next x ≡ Some None) walking.end stops; others = walking.others }

-- the chains of the firsts below i are walked, and no others
pub record HasWalked (next : List (Option ℕ)) (i : ℕ) (ss : List ChainStep) : Type 0 where
  pub steps : AreSteps next ss
  pub ends : (f : ℕ) → f < i → IsFirst next f → slice_get next (end_of f (behind ss f)) ≡ Some None
  pub beyond : (f : ℕ) → i ≤ f → behind ss f ≡ []

module _ (next : List (Option ℕ)) where
  pub none_walked : HasWalked next 0 []
  none_walked = record { steps = no_steps; ends = λ f l first. absurd (omega (arith, l)); beyond = λ f l. refl }

  pub one_walked : (i : ℕ) (ss new : List ChainStep) → HasWalked next i ss → IsWalked next i ss new → HasWalked next (i + 1) new
  one_walked i ss new has walked = record {
    steps = walked.steps;
    ends = λ f l first. ⊎_elim
        (λ (e : f ≡ i). subst (λ x. slice_get next (end_of x (behind new x)) ≡ Some None) (sym e) walked.ends)
        (λ (ne : f ≢ i). subst (λ l. slice_get next (end_of f l) ≡ Some None) (sym (walked.others f ne)) (has.ends f (omega (arith, l, ne)) first))
        (same_number f i);
    beyond = λ f l. walked.others f (λ e. omega (arith, l, e)) ∙ has.beyond f (omega (arith, l));
  }

  pub one_passed : (i : ℕ) (ss : List ChainStep) → HasWalked next i ss → (IsFirst next i → ⊥) → HasWalked next (i + 1) ss
  one_passed i ss has other = record {
    steps = has.steps;
    ends = λ f l first. ⊎_elim
        (λ (e : f ≡ i). absurd (other (subst (IsFirst next) e first)))
        (λ (ne : f ≢ i). has.ends f (omega (arith, l, ne)) first)
        (same_number f i);
    beyond = λ f l. has.beyond f (omega (arith, l));
  }
