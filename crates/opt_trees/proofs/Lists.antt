-- Lists under maps, and names that stay apart.
use Rattle.std.proofs.Common.{◌≡◌, ⊎_elim, inl, inr, ℕ, zero, suc, List, [], ◌∷◌, ◌++◌, length, Option, Some, None, refl, sym, ap, ◌∙◌, subst}
use Rattle.std.specs.Prelude.{map, option_map}
use Rattle.std.specs.Prelude.{slice_get}
use Rattle.ir_trees.specs.Renames.{rename_defined, names_of}
use Rattle.ir_trees.specs.Trees.{Defined}
use Rattle.opt_trees.specs.Occurrences.{Has, cons_if, picks, Injection}

pub map-map : {A B C : Type 0} (g : B → C) (f : A → B) (xs : List A) → map g (map f xs) ≡ map (λ x. g (f x)) xs
map-map g f [] = refl
map-map g f (x ∷ xs) = ap (λ l. g (f x) ∷ l) (map-map g f xs)

pub map-append : {A B : Type 0} (f : A → B) (xs ys : List A) → map f (xs ++ ys) ≡ map f xs ++ map f ys
map-append f [] ys = refl
map-append f (x ∷ xs) ys = ap (λ l. f x ∷ l) (map-append f xs ys)

pub names-map : {V W T : Type 0} (f : V → W) (vs : List (Defined V T)) → names_of (map (rename_defined f) vs) ≡ map f (names_of vs)
names-map f [] = refl
names-map f (v ∷ vs) = ap (λ l. f v.name ∷ l) (names-map f vs)

pub at-map : {A B : Type 0} (f : A → B) (xs : List A) (i : ℕ) → slice_get (map f xs) i ≡ option_map f (slice_get xs i)
at-map f [] i = refl
at-map f (x ∷ xs) zero = refl
at-map f (x ∷ xs) (suc i) = at-map f xs i

pub length-map : {A B : Type 0} (f : A → B) (xs : List A) → length (map f xs) ≡ length xs
length-map f [] = refl
length-map f (x ∷ xs) = ap suc (length-map f xs)

pub cons_if-map : {A B : Type 0} (f : A → B) (o : Option A) (xs : List A) → cons_if (option_map f o) (map f xs) ≡ map f (cons_if o xs)
cons_if-map f None xs = refl
cons_if-map f (Some x) xs = refl

pub picks-map : {A B : Type 0} (f : A → B) (xs : List A) (is : List ℕ) → picks (map f xs) is ≡ map f (picks xs is)
picks-map f xs [] = refl
picks-map f xs (i ∷ is) = (λ j. cons_if (at-map f xs i j) (picks-map f xs is j)) ∙ cons_if-map f (slice_get xs i) (picks xs is)

pub has-map : {A B : Type 0} (f : A → B) (x : A) (xs : List A) → Has x xs → Has (f x) (map f xs)
has-map f x [] h = h
has-map f x (y ∷ ys) h = ⊎_elim (λ e. inl (ap f e)) (λ t. inr (has-map f x ys t)) h

pub record Preimage {A B : Type 0} (f : A → B) (y : B) (xs : List A) : Type 0 where
  pub it : A
  pub stands : Has it xs
  pub is : f it ≡ y

pub has-from_map : {A B : Type 0} (f : A → B) (y : B) (xs : List A) → Has y (map f xs) → Preimage f y xs
has-from_map f y [] h = absurd h
has-from_map f y (x ∷ xs) h =
    ⊎_elim (λ e. record { it = x; stands = inl refl; is = sym e }) (λ t. let p = has-from_map f y xs t in record { it = p.it; stands = inr p.stands; is = p.is }) h

pub some_same : {A : Type 0} (x y : A) → Some x ≡ Some y → x ≡ y
some_same x y e = cc e

pub none_some : {A : Type 0} (x : A) → None ≡ Some x → ⊥
none_some x e = cc e

pub option_both : {A : Type 0} (x y : Option A) → ((a : A) → x ≡ Some a → y ≡ Some a) → ((a : A) → y ≡ Some a → x ≡ Some a) → x ≡ y
option_both None None f g = refl
option_both None (Some b) f g = g b refl
option_both (Some a) y f g = sym (f a refl)

pub record Origin {A B : Type 0} (f : A → B) (o : Option A) (y : B) : Type 0 where
  pub it : A
  pub some : o ≡ Some it
  pub is : f it ≡ y

pub from_some : {A B : Type 0} (f : A → B) (o : Option A) (y : B) → option_map f o ≡ Some y → Origin f o y
from_some f None y e = absurd (none_some y e)
from_some f (Some x) y e = record { it = x; some = refl; is = some_same (f x) y e }

module _ {X Y : Type 0} (r : Injection X Y) where
  pub apart : (x y : X) → r.to x ≡ r.to y → x ≡ y
  apart x y e = some_same x y (sym (r.there x) ∙ ap r.back e ∙ r.there y)

  pub has-apart : (x : X) (xs : List X) → Has (r.to x) (map r.to xs) → Has x xs
  has-apart x xs h = let p = has-from_map r.to (r.to x) xs h in subst (λ z. Has z xs) (apart p.it x p.is) p.stands

  -- the same by places
  pub at-apart : (xs : List X) (i : ℕ) (x : X) → slice_get (map r.to xs) i ≡ Some (r.to x) → slice_get xs i ≡ Some x
  at-apart xs i x e = let p = from_some r.to (slice_get xs i) (r.to x) (sym (at-map r.to xs i) ∙ e) in p.some ∙ ap Some (apart p.it x p.is)

  pub at-to : (xs : List X) (i : ℕ) (x : X) → slice_get xs i ≡ Some x → slice_get (map r.to xs) i ≡ Some (r.to x)
  at-to xs i x e = at-map r.to xs i ∙ ap (option_map r.to) e
