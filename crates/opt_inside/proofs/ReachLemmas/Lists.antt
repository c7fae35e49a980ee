-- Lists that are filled one by one.
use Rattle.std.proofs.Common.{◌≡◌, ◌⊎◌, inl, inr, ⊎_elim, ℕ, zero, suc, ◌+◌, ◌<◌, ◌≤◌, List, [], ◌∷◌, ◌++◌, length, get_or, take, Some, slice_get, refl, sym, ap, ◌∙◌, subst, append_assoc, arith}
use Rattle.std.specs.Prelude.{map}
use Rattle.std.proofs.lemmas.List.{take_more, map-append}
use Rattle.std.proofs.lemmas.Option.{slice_get_within, slice_get-get_or, get_or_from_slice_get, same_Some}

-- the first i and the next are the first i + 1
pub take_next : {X : Type 0} (xs : List X) (i : ℕ) (x : X) → slice_get xs i ≡ Some x → take (i + 1) xs ≡ take i xs ++ x ∷ []
take_next xs i x h = take_more xs i x (slice_get_within xs i x h) ∙ ap (λ y. take i xs ++ y ∷ []) (get_or_from_slice_get xs i x x h)

pub take_all : {X : Type 0} (xs : List X) (i : ℕ) → length xs ≤ i → take i xs ≡ xs
take_all [] zero h = refl
take_all [] (suc i) h = refl
take_all (x ∷ xs) zero h = absurd (omega (arith, h))
take_all (x ∷ xs) (suc i) h = ap (λ ys. x ∷ ys) (take_all xs i (omega (arith, h)))

-- the next one is put behind the first i
pub put_next : {X : Type 0} (xs row row' : List X) (i : ℕ) (x : X) → slice_get xs i ≡ Some x → row' ≡ row ++ x ∷ [] → row ≡ take i xs → row' ≡ take (i + 1) xs
put_next xs row row' i x h e s = e ∙ ap (λ ys. ys ++ x ∷ []) s ∙ sym (take_next xs i x h)

-- what is made of the next one is put behind what is made of the first i
pub mapped_next : {X Y : Type 0} (f : X → Y) (xs : List X) (row row' : List Y) (i : ℕ) (x : X) (y : Y) → slice_get xs i ≡ Some x → y ≡ f x → row' ≡ row ++ y ∷ [] → row ≡ map f (take i xs) → row' ≡ map f (take (i + 1) xs)
mapped_next f xs row row' i x y h is e s =
    e ∙ ap (λ z. row ++ z ∷ []) is ∙ ap (λ r. r ++ f x ∷ []) s ∙ sym (map-append f (take i xs) (x ∷ [])) ∙ ap (map f) (sym (take_next xs i x h))

pub mapped_all : {X Y : Type 0} (f : X → Y) (xs : List X) (row : List Y) (i : ℕ) → length xs ≤ i → row ≡ map f (take i xs) → row ≡ map f xs
mapped_all f xs row i h s = s ∙ ap (map f) (take_all xs i h)

pub get_last : {X : Type 0} (done : List X) (y : X) (i : ℕ) (x : X) → slice_get (done ++ y ∷ []) i ≡ Some x → (slice_get done i ≡ Some x) ⊎ ((i ≡ length done) × (x ≡ y))
get_last [] y zero x e = inr (refl, same_Some x y (sym e))
get_last [] y (suc i) x e = cc
get_last (d ∷ done) y zero x e = inl e
get_last (d ∷ done) y (suc i) x e = ⊎_elim inl (λ (r : (i ≡ length done) × (x ≡ y)). inr (ap suc r.0, r.1)) (get_last done y i x e)

pub get_end : {X : Type 0} (done : List X) (y : X) → slice_get (done ++ y ∷ []) (length done) ≡ Some y
get_end [] y = refl
get_end (d ∷ done) y = get_end done y

pub get_front : {X : Type 0} (done rest : List X) (k : ℕ) (x : X) → slice_get done k ≡ Some x → slice_get (done ++ rest) k ≡ Some x
get_front [] rest k x e = cc
get_front (d ∷ done) rest zero x e = e
get_front (d ∷ done) rest (suc k) x e = get_front done rest k x e

-- what stands at an index within a list that is this one
pub at_index : {X : Type 0} (xs ys : List X) (i : ℕ) (x : X) → ys ≡ xs → i < length ys → slice_get xs i ≡ Some (get_or ys i x)
at_index xs ys i x e h = subst (λ zs. slice_get zs i ≡ Some (get_or ys i x)) e (slice_get-get_or ys i x h)

-- half way through a list: one item further, and at the end
pub moved : {X : Type 0} (P : List X → Type 0) (done rest next : List X) (x : X) → rest ≡ x ∷ next → P (done ++ rest) → P ((done ++ x ∷ []) ++ next)
moved P done rest next x e h = subst P (ap (λ r. done ++ r) e ∙ sym (append_assoc done (x ∷ []) next)) h

nothing_behind : {X : Type 0} (done : List X) → done ++ [] ≡ done
nothing_behind [] = refl
nothing_behind (d ∷ done) = ap (λ r. d ∷ r) (nothing_behind done)

pub ended : {X : Type 0} (P : List X → Type 0) (done rest : List X) → rest ≡ [] → P (done ++ rest) → P done
ended P done rest e h = subst P (ap (λ r. done ++ r) e ∙ nothing_behind done) h
