-- Half way through a list whose items an iterator gives one by one.
use Rattle.std.proofs.Common.{◌≡◌, ⊎_elim, Some, List, [], ◌∷◌, ◌++◌, length, slice_get, refl, sym, ap, ◌∙◌, subst, append_assoc}
use Rattle.std.proofs.lemmas.List.{append-nil}
use Rattle.ir_trees.proofs.Members.{Has, has_either}

-- what comes after the first part of a list is at the index of that part's length
pub get-middle : {X : Type 0} (done rest : List X) (x : X) → slice_get (done ++ x ∷ rest) (length done) ≡ Some x
get-middle [] rest x = refl
get-middle (d ∷ done) rest x = get-middle done rest x

-- one item further, and at the end
pub moved : {X : Type 0} (P : List X → Type 0) (done rest next : List X) (x : X) → rest ≡ x ∷ next → P (done ++ rest) → P ((done ++ x ∷ []) ++ next)
moved P done rest next x e h = subst P (ap (λ r. done ++ r) e ∙ sym (append_assoc done (x ∷ []) next)) h

pub ended : {X : Type 0} (P : List X → Type 0) (done rest : List X) → rest ≡ [] → P (done ++ rest) → P done
ended P done rest e h = subst P (ap (λ r. done ++ r) e ∙ append-nil done) h

-- what holds of each item so far and of the next holds of each of them
pub each_more : {X : Type 0} (P : X → Type 0) (xs : List X) (x : X) → ((y : X) → Has y xs → P y) → P x → (y : X) → Has y (xs ++ x ∷ []) → P y
each_more P xs x all here y has = ⊎_elim
    (λ (old : Has y xs). all y old)
    (λ (new : Has y (x ∷ [])). ⊎_elim (λ (same : y ≡ x). subst P (sym same) here) (λ none. absurd none) new)
    (has_either xs (x ∷ []) y has)
