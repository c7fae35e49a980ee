-- What is left between two nodes of a list, as either end moves.
use Rattle.std.proofs.Common.{◌≡◌, ◌≢◌, ℕ, ◌<◌, ◌||◌, ⊎_elim, Bool, true, false, cond, eqb, List, [], ◌∷◌, ◌++◌, length, reverse, Some, refl, sym, ap, subst, ◌∙◌}
use Rattle.std.proofs.lemmas.Bool.{eqb-true, or_cases, or_left, or_right, both_ways}
use Rattle.std.proofs.lemmas.List.{reverse-reverse, reverse-append}
use Rattle.ir_entities.specs.declared.siblings.Span.{Span}
use Rattle.ir_entities.specs.Links.{has, AreDistinctNumbers, list_at, drop_to, take_to, IsSpan, IsWithin}

pub has_dropped : (f b : ℕ) (xs : List ℕ) → has b (drop_to f xs) ≡ true → (has f xs ≡ true) × (has b xs ≡ true)
has_dropped f b [] h = absurd (both_ways false refl h)
has_dropped f b (y ∷ ys) h = split (eqb f y) refl (has_dropped f b ys) h where
  split : (e : Bool) → eqb f y ≡ e → (has b (drop_to f ys) ≡ true → (has f ys ≡ true) × (has b ys ≡ true)) → has b (cond e (y ∷ ys) (drop_to f ys)) ≡ true → (has f (y ∷ ys) ≡ true) × (has b (y ∷ ys) ≡ true)
  split true e rest h = (or_left (eqb f y) (has f ys) e, h)
  split false e rest h = (or_right (eqb f y) (has f ys) (rest h).0, or_right (eqb b y) (has b ys) (rest h).1)

-- the last isn't before the first, seen from the back
has_taken : (f b : ℕ) (xs : List ℕ) → AreDistinctNumbers xs → has b (drop_to f xs) ≡ true → has f (take_to b xs) ≡ true
has_taken f b [] d h = absurd (both_ways false refl h)
has_taken f b (y ∷ ys) d h = split (eqb f y) (eqb b y) refl refl (has_taken f b ys d.1) h where
  split : (e k : Bool) → eqb f y ≡ e → eqb b y ≡ k → (has b (drop_to f ys) ≡ true → has f (take_to b ys) ≡ true) → has b (cond e (y ∷ ys) (drop_to f ys)) ≡ true → has f (cond k (y ∷ []) (y ∷ take_to b ys)) ≡ true
  split true true e k rest h = or_left (eqb f y) false e
  split true false e k rest h = or_left (eqb f y) (has f (take_to b ys)) e
  split false true e k rest h = absurd (both_ways (has y ys) d.0 (subst (λ z. has z ys ≡ true) (eqb-true b y k) (has_dropped f b ys h).1))
  split false false e k rest h = or_right (eqb f y) (has f (take_to b ys)) (rest h)

has_from : (f b : ℕ) (xs : List ℕ) → has b xs ≡ true → has f (take_to b xs) ≡ true → has b (drop_to f xs) ≡ true
has_from f b [] i h = absurd (both_ways false refl h)
has_from f b (y ∷ ys) i h = split (eqb f y) (eqb b y) refl refl (has_from f b ys) i h where
  split : (e k : Bool) → eqb f y ≡ e → eqb b y ≡ k → (has b ys ≡ true → has f (take_to b ys) ≡ true → has b (drop_to f ys) ≡ true) → k || has b ys ≡ true → has f (cond k (y ∷ []) (y ∷ take_to b ys)) ≡ true → has b (cond e (y ∷ ys) (drop_to f ys)) ≡ true
  split true k e kk rest i h = rw kk i
  split false true e k rest i h = absurd (both_ways false refl (rw e at h))
  split false false e k rest i h = rest i (rw e at h)

-- what is between the two, seen from the back
between_is : (f b : ℕ) (xs : List ℕ) → AreDistinctNumbers xs → has b (drop_to f xs) ≡ true → take_to b (drop_to f xs) ≡ drop_to f (take_to b xs)
between_is f b [] d h = refl
between_is f b (y ∷ ys) d h = split (eqb f y) (eqb b y) refl refl (between_is f b ys d.1) h where
  split : (e k : Bool) → eqb f y ≡ e → eqb b y ≡ k → (has b (drop_to f ys) ≡ true → take_to b (drop_to f ys) ≡ drop_to f (take_to b ys)) → has b (cond e (y ∷ ys) (drop_to f ys)) ≡ true → take_to b (cond e (y ∷ ys) (drop_to f ys)) ≡ drop_to f (cond k (y ∷ []) (y ∷ take_to b ys))
  split true true e k rest h = rw (e, k) refl
  split true false e k rest h = rw (e, k) refl
  split false true e k rest h = absurd (both_ways (has y ys) d.0 (subst (λ z. has z ys ≡ true) (eqb-true b y k) (has_dropped f b ys h).1))
  split false false e k rest h = rw e (rest h)

-- one node alone
between_one : (f : ℕ) (xs : List ℕ) → has f xs ≡ true → take_to f (drop_to f xs) ≡ f ∷ []
between_one f [] h = absurd (both_ways false refl h)
between_one f (y ∷ ys) h = split (eqb f y) refl (between_one f ys) h where
  split : (e : Bool) → eqb f y ≡ e → (has f ys ≡ true → take_to f (drop_to f ys) ≡ f ∷ []) → e || has f ys ≡ true → take_to f (cond e (y ∷ ys) (drop_to f ys)) ≡ f ∷ []
  split true e rest h = rw e (ap (λ z. z ∷ []) (sym (eqb-true f y e)))
  split false e rest h = rest h

pub one_between : (f b : ℕ) (xs : List ℕ) → f ≡ b → has b (drop_to f xs) ≡ true → take_to b (drop_to f xs) ≡ f ∷ []
one_between f b xs e h = subst (λ z. take_to z (drop_to f xs) ≡ f ∷ []) e (between_one f xs (has_dropped f b xs h).0)

drop_more : (f : ℕ) (us vs : List ℕ) → has f us ≡ true → drop_to f (us ++ vs) ≡ drop_to f us ++ vs
drop_more f [] vs h = absurd (both_ways false refl h)
drop_more f (y ∷ us) vs h = split (eqb f y) refl (drop_more f us vs) h where
  split : (e : Bool) → eqb f y ≡ e → (has f us ≡ true → drop_to f (us ++ vs) ≡ drop_to f us ++ vs) → e || has f us ≡ true → cond e (y ∷ us ++ vs) (drop_to f (us ++ vs)) ≡ cond e (y ∷ us) (drop_to f us) ++ vs
  split true e rest h = refl
  split false e rest h = rest h

has_end_or : (f b : ℕ) (us : List ℕ) → f ≢ b → has f (us ++ b ∷ []) ≡ true → has f us ≡ true
has_end_or f b [] ne h = ⊎_elim (λ t. absurd (ne (eqb-true f b t))) (λ t. t) (or_cases (eqb f b) false h)
has_end_or f b (y ∷ us) ne h = ⊎_elim (λ t. or_left (eqb f y) (has f us) t) (λ t. or_right (eqb f y) (has f us) (has_end_or f b us ne t)) (or_cases (eqb f y) (has f (us ++ b ∷ [])) h)

turned : (b : ℕ) (us vs : List ℕ) → reverse us ≡ b ∷ reverse vs → us ≡ vs ++ b ∷ []
turned b us vs e = sym (reverse-reverse us) ∙ ap reverse e ∙ ap reverse (sym (reverse-append vs (b ∷ []))) ∙ reverse-reverse (vs ++ b ∷ [])

-- the last goes
pub last_alone : (f b : ℕ) (xs : List ℕ) → f ≢ b → AreDistinctNumbers xs → has b (drop_to f xs) ≡ true → reverse (take_to b xs) ≡ b ∷ [] → ⊥
last_alone f b xs ne d h is =
    let one : take_to b xs ≡ b ∷ [] = turned b (take_to b xs) [] is in
    ⊎_elim (λ t. ne (eqb-true f b t)) (λ t. both_ways false refl t) (or_cases (eqb f b) false (rw one at (has_taken f b xs d h)))

module _ (f b k : ℕ) (xs : List ℕ) (ne : f ≢ b) (d : AreDistinctNumbers xs) (h : has b (drop_to f xs) ≡ true) (w : IsWithin xs (Some k)) (is : reverse (take_to b xs) ≡ b ∷ reverse (take_to k xs)) where
  more : take_to b xs ≡ take_to k xs ++ b ∷ []
  more = turned b (take_to b xs) (take_to k xs) is

  here : has f (take_to k xs) ≡ true
  here = has_end_or f b (take_to k xs) ne (rw more at (has_taken f b xs d h))

  there : has k (drop_to f xs) ≡ true
  there = has_from f k xs (w k refl) here

  pub last_within : IsSpan xs (Some (record { first = f; last = k }))
  last_within p e = let same : record { first = f; last = k } ≡ p = cc in subst (λ (z : Span). has z.last (drop_to z.first xs) ≡ true) same there

  pub last_goes : take_to b (drop_to f xs) ≡ take_to k (drop_to f xs) ++ b ∷ []
  last_goes = between_is f b xs d h ∙ ap (drop_to f) more ∙ drop_more f (take_to k xs) (b ∷ []) here ∙ ap (λ z. z ++ b ∷ []) (sym (between_is f k xs d there))

-- a list with something in it is one of the table
pub distinct_here : (ls : List (List ℕ)) (c f b : ℕ) → has b (drop_to f (list_at ls c)) ≡ true → ((c : ℕ) → c < length ls → AreDistinctNumbers (list_at ls c)) → ((c : ℕ) → (list_at ls c ≡ [] → ⊥) → c < length ls) → AreDistinctNumbers (list_at ls c)
distinct_here ls c f b h distinct known = distinct c (known c (λ e. both_ways false refl (rw e at h)))

-- a whole list
pub all_between : (f b : ℕ) (xs : List ℕ) → drop_to f xs ≡ xs → reverse (take_to b xs) ≡ reverse xs → take_to b (drop_to f xs) ≡ xs
all_between f b xs e r = ap (take_to b) e ∙ sym (reverse-reverse (take_to b xs)) ∙ ap reverse r ∙ reverse-reverse xs
