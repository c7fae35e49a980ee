-- Lists that are filled one by one.
use Rattle.std.proofs.Common.{◌≡◌, ℕ, zero, suc, ◌+◌, ◌≤◌, List, [], ◌∷◌, ◌++◌, length, take, Some, slice_get, refl, sym, ap, ◌∙◌, subst, append_assoc, arith}
use Rattle.std.specs.Prelude.{map}
use Rattle.std.proofs.lemmas.List.{take_more, map-append}
use Rattle.std.proofs.lemmas.Option.{slice_get_within, get_or_from_slice_get}

-- the first i and the next are the first i + 1
pub take_next : {X : Type 0} (xs : List X) (i : ℕ) (x : X) → slice_get xs i ≡ Some x
    → take (i + 1) xs ≡ take i xs ++ x ∷ []
take_next xs i x h = take_more xs i x (slice_get_within xs i x h)
    ∙ ap (λ y. take i xs ++ y ∷ []) (get_or_from_slice_get xs i x x h)

pub take_all : {X : Type 0} (xs : List X) (i : ℕ) → length xs ≤ i → take i xs ≡ xs
take_all [] zero h = refl
take_all [] (suc i) h = refl
take_all (x ∷ xs) zero h = absurd (omega (arith, h))
take_all (x ∷ xs) (suc i) h = ap (λ ys. x ∷ ys) (take_all xs i (omega (arith, h)))

pub mapped_next : {X Y : Type 0} (f : X → Y) (xs : List X) (row row' : List Y) (i : ℕ) (x : X) (y : Y)
    → slice_get xs i ≡ Some x → y ≡ f x → row' ≡ row ++ y ∷ [] → row ≡ map f (take i xs)
    → row' ≡ map f (take (i + 1) xs)
mapped_next f xs row row' i x y h is e s =
    e ∙ ap (λ z. row ++ z ∷ []) is ∙ ap (λ r. r ++ f x ∷ []) s ∙ sym (map-append f (take i xs) (x ∷ []))
    ∙ ap (map f) (sym (take_next xs i x h))

pub mapped_all : {X Y : Type 0} (f : X → Y) (xs : List X) (row : List Y) (i : ℕ) → length xs ≤ i
    → row ≡ map f (take i xs) → row ≡ map f xs
mapped_all f xs row i h s = s ∙ ap (map f) (take_all xs i h)

pub moved : {X : Type 0} (P : List X → Type 0) (done rest next : List X) (x : X) → rest ≡ x ∷ next
    → P (done ++ rest) → P ((done ++ x ∷ []) ++ next)
moved P done rest next x e h = subst P (ap (λ r. done ++ r) e ∙ sym (append_assoc done (x ∷ []) next)) h

nothing_behind : {X : Type 0} (done : List X) → done ++ [] ≡ done
nothing_behind [] = refl
nothing_behind (d ∷ done) = ap (λ r. d ∷ r) (nothing_behind done)

pub ended : {X : Type 0} (P : List X → Type 0) (done rest : List X) → rest ≡ [] → P (done ++ rest) → P done
ended P done rest e h = subst P (ap (λ r. done ++ r) e ∙ nothing_behind done) h
