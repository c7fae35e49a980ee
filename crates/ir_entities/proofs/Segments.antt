-- Parts of a list, and what a change of links makes of them.
use Rattle.std.proofs.Common.{◌≡◌, ℕ, ◌||◌, ⊎_elim, Bool, true, false, cond, eqb, List, [], ◌∷◌, ◌++◌, Option, Some, None, refl, ap, ◌∙◌}
use Rattle.std.proofs.lemmas.Bool.{eqb-true, eq-eqb, ne_eqb, or_cases, or_left, or_right, false_from_ne_true, both_ways}
use Rattle.ir_entities.specs.declared.siblings.Node.{Node}
use Rattle.ir_entities.specs.Links.{first_or, last_or, has, AreDistinctNumbers, IsSegment}

-- whether a link leads to y
abbrev pub is_at : Option ℕ → ℕ → Bool
is_at None y = false
is_at (Some z) y = eqb y z

-- l now leads on to q, and f back to p
abbrev pub rejoined : (ℕ → Node) → Option ℕ → Option ℕ → Option ℕ → Option ℕ → ℕ → Node
rejoined at l q f p y = record {
  parent = (at y).parent;
  prev = cond (is_at f y) p (at y).prev;
  next = cond (is_at l y) q (at y).next;
}

-- both lists have no number in common
abbrev pub AreApart : List ℕ → List ℕ → Type 0
AreApart xs ys = (y : ℕ) → has y xs ≡ true → has y ys ≡ false

pub has_here : (x : ℕ) (xs : List ℕ) → has x (x ∷ xs) ≡ true
has_here x xs = or_left (eqb x x) (has x xs) (eq-eqb x x refl)

pub has-append : (y : ℕ) (xs ys : List ℕ) → has y (xs ++ ys) ≡ (has y xs || has y ys)
has-append y [] ys = refl
has-append y (x ∷ xs) ys = elim (eqb y x) as (λ b. (b || has y (xs ++ ys)) ≡ ((b || has y xs) || has y ys)) [
  | true ↦ refl
  | false ↦ has-append y xs ys
]

pub has_last : (x : ℕ) (xs : List ℕ) (y : ℕ) → is_at (last_or (Some x) xs) y ≡ true → has y (x ∷ xs) ≡ true
has_last x [] y h = or_left (eqb y x) false h
has_last x (z ∷ xs) y h = or_right (eqb y x) (has y (z ∷ xs)) (has_last z xs y h)

pub last_or-append : (p : Option ℕ) (xs ys : List ℕ) → last_or p (xs ++ ys) ≡ last_or (last_or p xs) ys
last_or-append p [] ys = refl
last_or-append p (x ∷ xs) ys = last_or-append (Some x) xs ys

pub first_or-append : (e : Option ℕ) (xs ys : List ℕ) → first_or e (xs ++ ys) ≡ first_or (first_or e ys) xs
first_or-append e [] ys = refl
first_or-append e (x ∷ xs) ys = refl

module _ (at : ℕ → Node) (c : ℕ) where
  pub parent_in : (p : Option ℕ) (xs : List ℕ) (e : Option ℕ) (y : ℕ) → IsSegment at c p xs e → has y xs ≡ true → (at y).parent ≡ Some c
  parent_in p [] e y s h = absurd (both_ways false refl h)
  parent_in p (x ∷ xs) e y s h = ⊎_elim
      (λ t. let i : y ≡ x = eqb-true y x t in rw i (ap (λ (n : Node). n.parent) s.0))
      (λ t. parent_in (Some x) xs e y s.1 t)
      (or_cases (eqb y x) (has y xs) h)

  pub segment_left : (p : Option ℕ) (xs ys : List ℕ) (e : Option ℕ) → IsSegment at c p (xs ++ ys) e → IsSegment at c p xs (first_or e ys)
  segment_left p [] ys e s = tt
  segment_left p (x ∷ xs) ys e s = (rw (← first_or-append e xs ys) s.0, segment_left (Some x) xs ys e s.1)

  pub segment_right : (p : Option ℕ) (xs ys : List ℕ) (e : Option ℕ) → IsSegment at c p (xs ++ ys) e → IsSegment at c (last_or p xs) ys e
  segment_right p [] ys e s = s
  segment_right p (x ∷ xs) ys e s = segment_right (Some x) xs ys e s.1

  pub segment_both : (p : Option ℕ) (xs ys : List ℕ) (e : Option ℕ) → IsSegment at c p xs (first_or e ys) → IsSegment at c (last_or p xs) ys e → IsSegment at c p (xs ++ ys) e
  segment_both p [] ys e s t = t
  segment_both p (x ∷ xs) ys e s t = (rw (first_or-append e xs ys) s.0, segment_both (Some x) xs ys e s.1 t)

  pub segment_kept : (new : ℕ → Node) (p : Option ℕ) (xs : List ℕ) (e : Option ℕ) → ((y : ℕ) → has y xs ≡ true → new y ≡ at y) → IsSegment at c p xs e → IsSegment new c p xs e
  segment_kept new p [] e same s = tt
  segment_kept new p (x ∷ xs) e same s =
      (same x (has_here x xs) ∙ s.0, segment_kept new (Some x) xs e (λ y h. same y (or_right (eqb y x) (has y xs) h)) s.1)

  -- the last of a part leads on to q
  pub segment_to : (p : Option ℕ) (x : ℕ) (xs : List ℕ) (e l q f b : Option ℕ) → IsSegment at c p (x ∷ xs) e → AreDistinctNumbers (x ∷ xs) → l ≡ last_or (Some x) xs → ((y : ℕ) → has y (x ∷ xs) ≡ true → is_at f y ≡ false) → IsSegment (rejoined at l q f b) c p (x ∷ xs) q
  segment_to p x [] e l q f b s d il nf =
      let hf : is_at f x ≡ false = nf x (has_here x []) in
      let hl : is_at l x ≡ true = rw il (eq-eqb x x refl) in
      (rw (hf, hl, s.0) refl, tt)
  segment_to p x (z ∷ xs) e l q f b s d il nf =
      let hf : is_at f x ≡ false = nf x (has_here x (z ∷ xs)) in
      let hl : is_at l x ≡ false = false_from_ne_true (is_at l x) (λ t. both_ways (has x (z ∷ xs)) d.0 (has_last z xs x (rw il at t))) in
      (rw (hf, hl, s.0) refl, segment_to (Some x) z xs e l q f b s.1 d.1 il (λ y h. nf y (or_right (eqb y x) (has y (z ∷ xs)) h)))

  -- the first of a part leads back to b
  pub segment_from : (p : Option ℕ) (x : ℕ) (xs : List ℕ) (e l q f b : Option ℕ) → IsSegment at c p (x ∷ xs) e → AreDistinctNumbers (x ∷ xs) → f ≡ Some x → ((y : ℕ) → has y (x ∷ xs) ≡ true → is_at l y ≡ false) → IsSegment (rejoined at l q f b) c b (x ∷ xs) e
  segment_from p x xs e l q f b s d if_ nl =
      let hl : is_at l x ≡ false = nl x (has_here x xs) in
      let hf : is_at f x ≡ true = rw if_ (eq-eqb x x refl) in (
        rw (hf, hl, s.0) refl,
        segment_kept (rejoined at l q f b) (Some x) xs e
            (λ y h.
            let kl : is_at l y ≡ false = nl y (or_right (eqb y x) (has y xs) h) in
            let kf : is_at f y ≡ false = rw if_ (ne_eqb y x (λ i. both_ways (has x xs) d.0 (rw i at h))) in
            rw (kl, kf) refl)
            s.1,
      )
