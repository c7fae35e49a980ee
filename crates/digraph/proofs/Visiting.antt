-- Visits one after the other.
use Rattle.std.proofs.Common.{◌≡◌, ℕ, ◌+◌, ◌<◌, ◌≤◌, List, [], ◌∷◌, ◌++◌, drop, get_or, take, length, arith, Result, Ok, Err, refl, sym, ap, ◌∙◌, subst}
use Rattle.std.specs.Prelude.{Contains, IfOk}
use Rattle.std.proofs.lemmas.List.{append_assoc, append-nil, take_more}
use Rattle.digraph.specs.Visits.{joined, Traversal, Visits, Nothing, Passes, Enters, VisitsApart, NothingApart, PassesApart, BeginsApart}

module _ {X : Type 0} (next : X → List X) where
  -- first some nodes, then others
  pub visits_on : {o p q : Traversal X} {ns : List X} (ms : List X) → Visits next o ns p → Visits next p ms q → Visits next o (ns ++ ms) q
  visits_on ms Nothing w = w
  visits_on ms (Passes c v) w = Passes c (visits_on ms v w)
  visits_on ms (Enters f u v) w = Enters f u (visits_on ms v w)

  -- all of some nodes but the last, then the last
  pub visits_next : (o p q : Traversal X) (ns : List X) (i : ℕ) (n : X) → i < length ns → n ≡ get_or ns i n → Visits next o (take i ns) p → Visits next p (n ∷ []) q → Visits next o (take (i + 1) ns) q
  visits_next o p q ns i n h e v w = subst (λ xs. Visits next o xs q) (sym (take_more ns i n h ∙ ap (λ x. take i ns ++ x ∷ []) (sym e))) (visits_on (n ∷ []) v w)

  -- nodes that were left stay left, in their order
  pub left_grows : {o q : Traversal X} {ns : List X} → Visits next o ns q → (more : List X) × (q.left ≡ o.left ++ more)
  left_grows {o = o} Nothing = ([], sym (append-nil o.left))
  left_grows (Passes c v) = left_grows v
  left_grows (Enters {o = o} {n = n} f v w) = let a = left_grows v in let b = left_grows w in
      (a.0 ++ n ∷ b.0, b.1 ∙ ap (λ xs. (xs ++ n ∷ []) ++ b.0) a.1 ∙ simp append_assoc)

  -- one more that was seen begins no component
  pub apart_passes : {o p : Traversal X} {ns : List X} {parts : List (List X)} (n : X) → VisitsApart next o ns parts p → Contains p.seen n → VisitsApart next o (ns ++ n ∷ []) parts p
  apart_passes n NothingApart h = PassesApart h NothingApart
  apart_passes n (PassesApart c v) h = PassesApart c (apart_passes n v h)
  apart_passes n (BeginsApart f u e v) h = BeginsApart f u e (apart_passes n v h)

  -- one more that was not seen begins one
  pub apart_begins : {o p : Traversal X} {ns : List X} {parts : List (List X)} (q : Traversal X) (n : X) (part : List X) → VisitsApart next o ns parts p → (Contains p.seen n → ⊥)
      → Visits next p (n ∷ []) q → q.left ≡ p.left ++ part → VisitsApart next o (ns ++ n ∷ []) (parts ++ part ∷ []) q
  apart_begins q n part NothingApart f u e = BeginsApart f u e NothingApart
  apart_begins q n part (PassesApart c v) f u e = PassesApart c (apart_begins q n part v f u e)
  apart_begins q n part (BeginsApart g w d v) f u e = BeginsApart g w d (apart_begins q n part v f u e)

  -- the components, one after the other, are what was left
  pub apart_visits : {o q : Traversal X} {ns : List X} {parts : List (List X)} → VisitsApart next o ns parts q → Visits next o ns q × (q.left ≡ o.left ++ joined parts)
  apart_visits {o = o} NothingApart = (Nothing, sym (append-nil o.left))
  apart_visits (PassesApart c v) = let h = apart_visits v in (Passes c h.0, h.1)
  apart_visits (BeginsApart {o = o} {ns = ns} {part = part} {parts = parts} f u e v) = let h = apart_visits v in
      (visits_on ns u h.0, h.1 ∙ ap (λ xs. xs ++ joined parts) e ∙ append_assoc o.left part (joined parts))

-- what stands behind the first of two lists is the second
pub behind : {X : Type 0} (xs ys zs : List X) → zs ≡ xs ++ ys → (length xs ≤ length zs) × (zs ≡ xs ++ drop (length xs) zs)
behind {X = X} xs ys zs e = subst (λ us. (length xs ≤ length us) × (us ≡ xs ++ drop (length xs) us)) (sym e) (go xs)
  where
    go : (xs : List X) → (length xs ≤ length (xs ++ ys)) × (xs ++ ys ≡ xs ++ drop (length xs) (xs ++ ys))
    go [] = (omega arith, refl)
    go (x ∷ xs) = let h = go xs in (omega (arith, h.0), ap (λ us. x ∷ us) h.1)

pub ok_more : {V E : Type 0} {P Q : V → Type 0} (r : Result V E) → ((v : V) → P v → Q v) → IfOk r P → IfOk r Q
ok_more (Ok v) f h = f v h
ok_more (Err e) f h = tt
