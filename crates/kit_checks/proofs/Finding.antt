-- Looking for a member of a list whose items an iterator gives one by one.
use Rattle.std.proofs.Common.{◌≡◌, ◌≢◌, ⊎_elim, ℕ, ◌+◌, List, [], ◌∷◌, ◌++◌, Some, length, slice_get, refl, sym, ap, ◌∙◌, subst, arith, append_assoc}
use Rattle.std.proofs.lemmas.List.{append-nil}
use Rattle.ir_trees.proofs.Members.{Has, has_either, at_has}

-- what comes after the first part of a list is at the index of that part's length
pub get-middle : {X : Type 0} (done rest : List X) (x : X) → slice_get (done ++ x ∷ rest) (length done) ≡ Some x
get-middle [] rest x = refl
get-middle (d ∷ done) rest x = get-middle done rest x

module _ {X : Type 0} (all : List X) (item : X) where
  -- these are left, so many came before them, and the item isn't among those
  pub record IsPast (left : List X) (index : ℕ) : Type 0 where
    pub done : List X
    pub parts : all ≡ done ++ left
    pub count : index ≡ length done
    pub absent : Has item done → ⊥

  pub finding_begins : (left : List X) → left ≡ all → IsPast left 0
  finding_begins left is = record { done = []; parts = sym is; count = refl; absent = λ h. h }

  pub finding_goes_on : (was left : List X) (e : X) (i j : ℕ) → was ≡ e ∷ left → e ≢ item → j ≡ i + 1 → IsPast was i → IsPast left j
  finding_goes_on was left e i j is other next h = record {
    done = h.done ++ e ∷ [];
    parts = h.parts ∙ ap (λ l. h.done ++ l) is ∙ sym (append_assoc h.done (e ∷ []) left);
    count = next ∙ ap (λ n. n + 1) h.count ∙ sym (longer h.done e);
    absent = λ has. ⊎_elim h.absent (λ r. ⊎_elim (λ same. other (sym same)) (λ none. none) r) (has_either h.done (e ∷ []) item has);
  }
    where
      longer : (xs : List X) (x : X) → length (xs ++ x ∷ []) ≡ length xs + 1
      longer [] x = refl
      longer (y ∷ xs) x = let e = longer xs x in omega arith

  pub found_here : (was left : List X) (e : X) (i : ℕ) → was ≡ e ∷ left → e ≡ item → IsPast was i → slice_get all i ≡ Some item
  found_here was left e i is same h =
      subst (λ l. slice_get l i ≡ Some item) (sym (h.parts ∙ ap (λ l. h.done ++ l) is))
      (subst (λ k. slice_get (h.done ++ e ∷ left) k ≡ Some item) (sym h.count) (get-middle h.done left e ∙ ap Some same))

  pub not_nowhere : (left : List X) (i k : ℕ) → left ≡ [] → slice_get all k ≡ Some item → IsPast left i → ⊥
  not_nowhere left i k is here h = h.absent (subst (Has item) (h.parts ∙ ap (λ l. h.done ++ l) is ∙ append-nil h.done) (at_has all k item here))
