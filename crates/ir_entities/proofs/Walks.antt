-- What is left of a list at each step along it, forward and back.
use Rattle.std.proofs.Common.{◌≡◌, ℕ, ◌<◌, ◌≤◌, ◌||◌, ⊎_elim, true, false, eqb, List, [], ◌∷◌, ◌++◌, length, reverse, Option, Some, None, refl, sym, ap, subst, ◌∙◌, append_assoc}
use Rattle.std.proofs.lemmas.Bool.{eq-eqb, or_parts, or_right, false_from_ne_true, cases_lt}
use Rattle.std.specs.List.{IsDistinct, AllByRecursion, list_any}
use Rattle.std.proofs.lemmas.Map.Steps.{length-le_from_distinct_below}
use Rattle.std.proofs.lemmas.List.{append-nil, reverse-append, get_or_past}
use Rattle.ir_entities.specs.Links.{node_at, first_or, last_or, has, AreDistinctNumbers, list_at, next_in, prev_in, drop_to, take_to, items_from, items_back, IsWithin}
use Rattle.ir_entities.specs.Lists.{ListsView}
use Rattle.ir_entities.specs.declared.siblings.Siblings.TheInside.{Inside}
use Rattle.ir_entities.specs.contracts.siblings.Siblings.{the_view}
use Rattle.ir_entities.proofs.Segments.{has_here}
use Rattle.ir_entities.proofs.Edits.{apart, has_left, has_right}
use Rattle.ir_entities.proofs.Appends.{first_has}
use Rattle.ir_entities.proofs.Writes.{Stands, stands, are_lists, member_in, nodes_are, prev_from_at, next_in_at}

drop_at : (i : ℕ) (us vs : List ℕ) → has i us ≡ false → drop_to i (us ++ i ∷ vs) ≡ i ∷ vs
drop_at i [] vs h = rw (eq-eqb i i refl) refl
drop_at i (y ∷ us) vs h = let p : (eqb i y ≡ false) × (has i us ≡ false) = or_parts _ _ h in rw p.0 (drop_at i us vs p.1)

take_at : (i : ℕ) (us vs : List ℕ) → has i us ≡ false → take_to i (us ++ i ∷ vs) ≡ us ++ i ∷ []
take_at i [] vs h = rw (eq-eqb i i refl) refl
take_at i (y ∷ us) vs h = let p : (eqb i y ≡ false) × (has i us ≡ false) = or_parts _ _ h in rw p.0 (ap (λ k. y ∷ k) (take_at i us vs p.1))

before_none : (us : List ℕ) (v : ℕ) (vs : List ℕ) → AreDistinctNumbers (us ++ v ∷ vs) → has v us ≡ false
before_none us v vs d = false_from_ne_true (has v us) (λ h. apart us (v ∷ vs) v d h (has_here v vs))

items_first : (us vs : List ℕ) → AreDistinctNumbers (us ++ vs) → items_from (first_or None vs) (us ++ vs) ≡ vs
items_first us [] d = refl
items_first us (v ∷ vs) d = drop_at v us vs (before_none us v vs d)

record Ended (a : ℕ) (us : List ℕ) : Type 0 where
  pub ws : List ℕ
  pub w : ℕ
  pub is : a ∷ us ≡ ws ++ w ∷ []
  pub last : last_or (Some a) us ≡ Some w

ended : (a : ℕ) (us : List ℕ) → Ended a us
ended a [] = record { ws = []; w = a; is = refl; last = refl }
ended a (b ∷ us) = let r : Ended b us = ended b us in record { ws = a ∷ r.ws; w = r.w; is = ap (λ k. a ∷ k) r.is; last = r.last }

items_last : (us vs : List ℕ) → AreDistinctNumbers (us ++ vs) → items_back (last_or None us) (us ++ vs) ≡ reverse us
items_last [] vs d = refl
items_last (a ∷ us) vs d =
    let r : Ended a us = ended a us in
    let at : (a ∷ us) ++ vs ≡ r.ws ++ r.w ∷ vs = ap (λ k. k ++ vs) r.is ∙ append_assoc r.ws (r.w ∷ []) vs in
    let e : AreDistinctNumbers (r.ws ++ r.w ∷ vs) = subst AreDistinctNumbers at d in
    ap (λ o. items_back o ((a ∷ us) ++ vs)) r.last ∙ ap (λ k. reverse (take_to r.w k)) at ∙ ap reverse (take_at r.w r.ws vs (before_none r.ws r.w vs e) ∙ sym r.is)

has_some : (o : Option ℕ) (j : ℕ) (xs : List ℕ) → o ≡ first_or None xs → o ≡ Some j → has j xs ≡ true
has_some o j xs f e = first_has j xs (sym e ∙ f)

has_end : (o : Option ℕ) (j : ℕ) (xs : List ℕ) → o ≡ last_or None xs → o ≡ Some j → has j xs ≡ true
has_end o j [] f e = let no_way : None ≡ Some j = sym f ∙ e in cc
has_end o j (a ∷ us) f e =
    let r : Ended a us = ended a us in
    let two : Some j ≡ Some r.w = sym e ∙ f ∙ r.last in
    let same : j ≡ r.w = cc in
    subst (λ k. has j k ≡ true) (sym r.is) (rw same (has_right r.w r.ws (r.w ∷ []) (has_here r.w [])))

module _ (s : Inside) (v : ListsView) (seen : the_view s ≡ v) (c : ℕ) where
  pub distinct_at : (lt : c < length v.lists) → AreDistinctNumbers (list_at v.lists c)
  distinct_at lt = ((are_lists s v seen).each c lt).distinct

  pub all_forward : c < length v.lists → (o : Option ℕ) → o ≡ first_or None (list_at v.lists c) → items_from o (list_at v.lists c) ≡ list_at v.lists c
  all_forward lt o f = rw f (items_first [] (list_at v.lists c) (distinct_at lt))

  pub all_back : c < length v.lists → (o : Option ℕ) → o ≡ last_or None (list_at v.lists c) → items_back o (list_at v.lists c) ≡ reverse (list_at v.lists c)
  all_back lt o f =
      let d : AreDistinctNumbers (list_at v.lists c ++ []) = rw append-nil (distinct_at lt) in
      rw f (subst (λ k. items_back (last_or None (list_at v.lists c)) k ≡ reverse (list_at v.lists c)) (append-nil (list_at v.lists c)) (items_last (list_at v.lists c) [] d))

  pub within_first : (o : Option ℕ) → o ≡ first_or None (list_at v.lists c) → IsWithin (list_at v.lists c) o
  within_first o f i e = has_some o i (list_at v.lists c) f e

  pub within_last : (o : Option ℕ) → o ≡ last_or None (list_at v.lists c) → IsWithin (list_at v.lists c) o
  within_last o f i e = has_end o i (list_at v.lists c) f e

  module _ (x : ℕ) (h : has x (list_at v.lists c) ≡ true) where
    pub in_nodes : x < v.nodes
    in_nodes = rw (← nodes_are s v seen) (member_in s.nodes.items s.ends.items v.lists c x (are_lists s v seen) h)

    place : Stands (node_at s.nodes.items) v.lists c x
    place = stands (node_at s.nodes.items) s.ends.items v.lists c x (are_lists s v seen) h

    pub forward_one : (o : Option ℕ) → o ≡ next_in x (list_at v.lists c) → (IsWithin (list_at v.lists c) o) × (items_from (Some x) (list_at v.lists c) ≡ x ∷ items_from o (list_at v.lists c))
    forward_one o f =
        let t : Stands (node_at s.nodes.items) v.lists c x = place in
        let d : AreDistinctNumbers (t.us ++ x ∷ t.vs) = rw t.is at (distinct_at t.within) in
        let n : o ≡ first_or None t.vs = f ∙ ap (next_in x) t.is ∙ next_in_at x t.us t.vs t.first in
        let both : t.us ++ x ∷ t.vs ≡ (t.us ++ x ∷ []) ++ t.vs = sym (append_assoc t.us (x ∷ []) t.vs) in (
          (λ i e. rw t.is (has_right i t.us (x ∷ t.vs) (or_right (eqb i x) (has i t.vs) (has_some o i t.vs n e)))),
          ap (drop_to x) t.is ∙ drop_at x t.us t.vs t.first ∙ ap (λ k. x ∷ k) (sym (ap (λ k. items_from o k) (t.is ∙ both) ∙ rw n (items_first (t.us ++ x ∷ []) t.vs (subst AreDistinctNumbers both d)))),
        )

    pub back_one : (o : Option ℕ) → o ≡ prev_in x (list_at v.lists c) → (IsWithin (list_at v.lists c) o) × (items_back (Some x) (list_at v.lists c) ≡ x ∷ items_back o (list_at v.lists c))
    back_one o f =
        let t : Stands (node_at s.nodes.items) v.lists c x = place in
        let d : AreDistinctNumbers (t.us ++ x ∷ t.vs) = rw t.is at (distinct_at t.within) in
        let n : o ≡ last_or None t.us = f ∙ ap (prev_in x) t.is ∙ prev_from_at None x t.us t.vs t.first in (
          (λ i e. rw t.is (has_left i t.us (x ∷ t.vs) (has_end o i t.us n e))),
          ap (λ k. reverse (take_to x k)) t.is ∙ ap reverse (take_at x t.us t.vs t.first) ∙ back_of t.us ∙ ap (λ k. x ∷ k) (sym (ap (λ k. items_back o k) t.is ∙ rw n (items_last t.us (x ∷ t.vs) d))),
        )
      where
        back_of : (us : List ℕ) → reverse (us ++ x ∷ []) ≡ x ∷ reverse us
        back_of us = reverse-append us (x ∷ [])

all_differ : (x : ℕ) (xs : List ℕ) → has x xs ≡ false → AllByRecursion (λ y. eqb x y ≡ false) xs
all_differ x [] h = tt
all_differ x (y ∷ ys) h = let p : (eqb x y ≡ false) × (has x ys ≡ false) = or_parts _ _ h in (p.0, all_differ x ys p.1)

are_distinct : (xs : List ℕ) → AreDistinctNumbers xs → IsDistinct eqb xs
unfolding IsDistinct
are_distinct [] d = tt
are_distinct (x ∷ xs) d = (all_differ x xs d.0, are_distinct xs d.1)

any_is_has : (x : ℕ) (xs : List ℕ) → list_any (eqb x) xs ≡ has x xs
any_is_has x [] = refl
any_is_has x (y ∷ ys) = ap (λ b. eqb x y || b) (any_is_has x ys)

-- distinct numbers below n are at most n
pub at_most : (xs : List ℕ) (n : ℕ) → AreDistinctNumbers xs → ((q : ℕ) → has q xs ≡ true → q < n) → length xs ≤ n
at_most xs n d h = length-le_from_distinct_below xs n (are_distinct xs d) (λ q i. h q (sym (any_is_has q xs) ∙ i))

pub list_known : (ls : List (List ℕ)) (c : ℕ) → (list_at ls c ≡ [] → ⊥) → c < length ls
list_known ls c some = ⊎_elim (λ l. l) (λ ge. absurd (some (get_or_past ls c [] ge))) (cases_lt c (length ls))
