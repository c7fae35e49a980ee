-- Members of lists, lists without repeats, and what is left of them.
use Rattle.std.proofs.Common.{◌≡◌, ◌⊎◌, ⊎_elim, inl, inr, ℕ, zero, suc, Bool, true, false, List, [], ◌∷◌, ◌++◌, map, Some, refl, sym, ap, ◌∙◌, subst}
use Rattle.std.specs.Prelude.{slice_get, if◌then◌else◌}
use Rattle.ir_trees.specs.Searched.{AreDistinct}
use Rattle.opt_trees.specs.Occurrences.{Has}
use Rattle.opt_trees.proofs.Lists.{some_same, none_some}
use Rattle.opt_trees.proofs.NoneDead.{has-append, has-left, has-right}
use Rattle.kit_behaviour.specs.Scopes.{is_in}
use Rattle.kit_views.specs.FlatView.{IsSameness}

pub has_get : {X : Type 0} (xs : List X) (i : ℕ) (x : X) → slice_get xs i ≡ Some x → Has x xs
has_get [] i x e = absurd (none_some x e)
has_get (y ∷ ys) zero x e = inl (sym (some_same y x e))
has_get (y ∷ ys) (suc i) x e = inr (has_get ys i x e)

pub record At {X : Type 0} (xs : List X) (x : X) : Type 0 where
  pub place : ℕ
  pub is : slice_get xs place ≡ Some x

pub at_has : {X : Type 0} (xs : List X) (x : X) → Has x xs → At xs x
at_has [] x h = absurd h
at_has (y ∷ ys) x h =
    ⊎_elim (λ e. record { place = 0; is = ap Some (sym e) })
    (λ t. let a = at_has ys x t in record { place = suc a.place; is = a.is }) h

zero_suc : (n : ℕ) → zero ≡ suc n → ⊥
zero_suc n e = cc e

suc_same : (m n : ℕ) → suc m ≡ suc n → m ≡ n
suc_same m n e = cc e

-- none is also among those behind it
abbrev pub Distinct : {X : Type 0} → List X → Type 0
Distinct [] = Unit {0}
Distinct (x ∷ xs) = (Has x xs → ⊥) × Distinct xs

pub to_distinct : {X : Type 0} (xs : List X) → AreDistinct xs → Distinct xs
to_distinct [] h = tt
to_distinct (x ∷ xs) h = (
  λ i. let a = at_has xs x i in zero_suc a.place (h 0 (suc a.place) x refl a.is),
  to_distinct xs (λ j k y p q. suc_same j k (h (suc j) (suc k) y p q)),
)

pub from_distinct : {X : Type 0} (xs : List X) → Distinct xs → AreDistinct xs
from_distinct [] h j k x p q = absurd (none_some x p)
from_distinct (y ∷ ys) h zero zero x p q = refl
from_distinct (y ∷ ys) h zero (suc k) x p q =
    absurd (h.0 (subst (λ z. Has z ys) (sym (some_same y x p)) (has_get ys k x q)))
from_distinct (y ∷ ys) h (suc j) zero x p q =
    absurd (h.0 (subst (λ z. Has z ys) (sym (some_same y x q)) (has_get ys j x p)))
from_distinct (y ∷ ys) h (suc j) (suc k) x p q = ap suc (from_distinct ys h.1 j k x p q)

pub distinct_left : {X : Type 0} (xs ys : List X) → Distinct (xs ++ ys) → Distinct xs
distinct_left [] ys h = tt
distinct_left (x ∷ xs) ys h = (λ i. h.0 (has-left x xs ys i), distinct_left xs ys h.1)

pub distinct_right : {X : Type 0} (xs ys : List X) → Distinct (xs ++ ys) → Distinct ys
distinct_right [] ys h = h
distinct_right (x ∷ xs) ys h = distinct_right xs ys h.1

pub distinct_apart : {X : Type 0} (xs ys : List X) (x : X) → Distinct (xs ++ ys) → Has x xs → Has x ys → ⊥
distinct_apart [] ys x h i j = i
distinct_apart (y ∷ xs) ys x h i j =
    ⊎_elim (λ e. h.0 (has-right y xs ys (subst (λ z. Has z ys) e j))) (λ k. distinct_apart xs ys x h.1 k j) i

-- some of these, in the same order
abbrev pub Sub : {X : Type 0} → List X → List X → Type 0
Sub xs [] = xs ≡ []
Sub {X} xs (y ∷ ys) = Sub xs ys ⊎ ((rest : List X) × (xs ≡ y ∷ rest) × Sub rest ys)

pub sub_all : {X : Type 0} (xs : List X) → Sub xs xs
sub_all [] = refl
sub_all (x ∷ xs) = inr (xs, refl, sub_all xs)

pub sub_none : {X : Type 0} (xs : List X) → Sub [] xs
sub_none [] = refl
sub_none (x ∷ xs) = inl (sub_none xs)

pub sub_append : {X : Type 0} (ws bs cs ds : List X) → Sub ws bs → Sub cs ds → Sub (ws ++ cs) (bs ++ ds)
sub_append ws [] cs ds h k = subst (λ z. Sub (z ++ cs) ds) (sym h) k
sub_append ws (b ∷ bs) cs ds h k =
    ⊎_elim (λ x. inl (sub_append ws bs cs ds x k))
    (λ x. inr (x.0 ++ cs, ap (λ z. z ++ cs) x.1, sub_append x.0 bs cs ds x.2 k)) h

pub sub_has : {X : Type 0} (xs ys : List X) (v : X) → Sub xs ys → Has v xs → Has v ys
sub_has xs [] v h i = subst (λ z. Has v z) h i
sub_has xs (y ∷ ys) v h i =
    ⊎_elim (λ x. inr (sub_has xs ys v x i))
    (λ x. ⊎_elim (λ e. inl e) (λ j. inr (sub_has x.0 ys v x.2 j)) (subst (λ z. Has v z) x.1 i)) h

pub sub_distinct : {X : Type 0} (xs ys : List X) → Sub xs ys → Distinct ys → Distinct xs
sub_distinct xs [] h d = subst (λ z. Distinct z) (sym h) d
sub_distinct xs (y ∷ ys) h d =
    ⊎_elim (λ x. sub_distinct xs ys x d.1)
    (λ x. subst (λ z. Distinct z) (sym x.1) (λ i. d.0 (sub_has x.0 ys y x.2 i), sub_distinct x.0 ys x.2 d.1)) h

pub sub_map : {X Y : Type 0} (f : X → Y) (xs ys : List X) → Sub xs ys → Sub (map f xs) (map f ys)
sub_map f xs [] h = ap (map f) h
sub_map f xs (y ∷ ys) h =
    ⊎_elim (λ x. inl (sub_map f xs ys x)) (λ x. inr (map f x.0, ap (map f) x.1, sub_map f x.0 ys x.2)) h

-- all that f makes of these
abbrev pub gathered : {X Y : Type 0} → (X → List Y) → List X → List Y
gathered f [] = []
gathered f (x ∷ xs) = f x ++ gathered f xs

pub gathered_append : {X Y : Type 0} (f : X → List Y) (xs ys : List X) → gathered f (xs ++ ys) ≡ gathered f xs ++ gathered f ys
gathered_append f [] ys = refl
gathered_append f (x ∷ xs) ys = ap (λ l. f x ++ l) (gathered_append f xs ys) ∙ sym (append_same (f x) (gathered f xs) (gathered f ys))
  where
    append_same : {Z : Type 0} (ws bs cs : List Z) → (ws ++ bs) ++ cs ≡ ws ++ (bs ++ cs)
    append_same [] bs cs = refl
    append_same (a ∷ ws) bs cs = ap (λ l. a ∷ l) (append_same ws bs cs)

pub has_gathered : {X Y : Type 0} (f : X → List Y) (xs : List X) (x : X) (y : Y) → Has x xs → Has y (f x) → Has y (gathered f xs)
has_gathered f [] x y h i = absurd h
has_gathered f (z ∷ xs) x y h i =
    ⊎_elim (λ e. has-left y (f z) (gathered f xs) (subst (λ u. Has y (f u)) e i))
    (λ k. has-right y (f z) (gathered f xs) (has_gathered f xs x y k i)) h

pub record Source {X Y : Type 0} (f : X → List Y) (xs : List X) (y : Y) : Type 0 where
  pub it : X
  pub stands : Has it xs
  pub gives : Has y (f it)

pub from_gathered : {X Y : Type 0} (f : X → List Y) (xs : List X) (y : Y) → Has y (gathered f xs) → Source f xs y
from_gathered f [] y h = absurd h
from_gathered f (x ∷ xs) y h =
    ⊎_elim (λ i. record { it = x; stands = inl refl; gives = i })
    (λ i. let s = from_gathered f xs y i in record { it = s.it; stands = inr s.stands; gives = s.gives })
    (has-append y (f x) (gathered f xs) h)

-- what two give is given by one
pub one_source : {X Y : Type 0} (f : X → List Y) (xs : List X) (x z : X) (y : Y) → Distinct (gathered f xs)
    → Has x xs → Has z xs → Has y (f x) → Has y (f z) → x ≡ z
one_source f [] x z y d h k i j = absurd h
one_source f (u ∷ xs) x z y d h k i j =
    ⊎_elim
    (λ a. ⊎_elim (λ b. a ∙ sym b)
    (λ b. absurd (distinct_apart (f u) (gathered f xs) y d (subst (λ q. Has y (f q)) a i) (has_gathered f xs z y b j))) k)
    (λ a. ⊎_elim
    (λ b. absurd (distinct_apart (f u) (gathered f xs) y d (subst (λ q. Has y (f q)) b j) (has_gathered f xs x y a i)))
    (λ b. one_source f xs x z y (distinct_right (f u) (gathered f xs) d) a b i j) k) h

-- elements of different names
pub one_named : {X Y : Type 0} (f : X → Y) (xs : List X) (x z : X) → Distinct (map f xs) → Has x xs → Has z xs → f x ≡ f z → x ≡ z
one_named f [] x z d h k e = absurd h
one_named {X} {Y} f (u ∷ xs) x z d h k e =
    ⊎_elim
    (λ a. ⊎_elim (λ b. a ∙ sym b) (λ b. absurd (d.0 (subst (λ q. Has q (map f xs)) (sym e ∙ ap f a) (has_of z xs b)))) k)
    (λ a. ⊎_elim (λ b. absurd (d.0 (subst (λ q. Has q (map f xs)) (e ∙ ap f b) (has_of x xs a)))) (λ b. one_named f xs x z d.1 a b e) k) h
  where
    has_of : (x : X) (xs : List X) → Has x xs → Has (f x) (map f xs)
    has_of x [] h = h
    has_of x (y ∷ ys) h = ⊎_elim (λ e. inl (ap f e)) (λ t. inr (has_of x ys t)) h

module _ {V : Type 0} (same : V → V → Bool) (law : IsSameness same) where
  pub in_has : (v : V) (xs : List V) → is_in same v xs ≡ true → Has v xs
  in_has v [] e = absurd (cc e)
  in_has v (x ∷ xs) e = by_test (same v x) refl e (in_has v xs)
    where
      by_test : (b : Bool) → same v x ≡ b → (if b then true else is_in same v xs) ≡ true → (is_in same v xs ≡ true → Has v xs) → Has v (x ∷ xs)
      by_test true q e ih = inl (law.true_same v x q)
      by_test false q e ih = inr (ih e)

  pub has_in : (v : V) (xs : List V) → Has v xs → is_in same v xs ≡ true
  has_in v [] h = absurd h
  has_in v (x ∷ xs) h = by_test (same v x) refl (has_in v xs)
    where
      by_test : (b : Bool) → same v x ≡ b → (Has v xs → is_in same v xs ≡ true) → (if b then true else is_in same v xs) ≡ true
      by_test true q ih = refl
      by_test false q ih =
          ⊎_elim (λ e. let w : true ≡ false = sym (law.same_true v) ∙ (ap (same v) e ∙ q) in absurd (cc w))
          (λ k. ih k) h
