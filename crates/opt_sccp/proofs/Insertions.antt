-- Lists with others put before their members.
use Rattle.std.proofs.Common.{◌≡◌, ◌≢◌, ◌⊎◌, inl, inr, ⊎_elim, ℕ, zero, suc, List, [], ◌∷◌, ◌++◌, Some, slice_get, insert, refl, sym, ap, ◌∙◌, subst, append_assoc}
use Rattle.ir_trees.proofs.Members.{Has, Once}

module _ {X : Type 0} where
  -- each member with what is put before it
  abbrev pub with_before : (X → List X) → List X → List X
  with_before before [] = []
  with_before before (x ∷ xs) = before x ++ (x ∷ with_before before xs)

  -- an index behind a list
  abbrev pub behind : List X → ℕ → ℕ
  behind [] k = k
  behind (x ∷ xs) k = suc (behind xs k)

  pub get_behind : (xs ys : List X) (k : ℕ) → slice_get (xs ++ ys) (behind xs k) ≡ slice_get ys k
  get_behind [] ys k = refl
  get_behind (x ∷ xs) ys k = get_behind xs ys k

  -- what stands behind a list that comes first
  pub listed_at : (list front rest : List X) (k : ℕ) (x : X) → list ≡ front ++ rest → slice_get rest k ≡ Some x → slice_get list (behind front k) ≡ Some x
  listed_at list front rest k x e h = ap (λ zs. slice_get zs (behind front k)) e ∙ get_behind front rest k ∙ h

  pub insert_behind : (xs ys : List X) (k : ℕ) (c : X) → insert (xs ++ ys) (behind xs k) c ≡ xs ++ insert ys k c
  insert_behind [] ys k c = refl
  insert_behind (x ∷ xs) ys k c = ap (λ l. x ∷ l) (insert_behind xs ys k c)

  pub same_before : (before after : X → List X) (xs : List X) → ((x : X) → Has x xs → after x ≡ before x) → with_before after xs ≡ with_before before xs
  same_before before after [] h = refl
  same_before before after (x ∷ xs) h = let rest = same_before before after xs (λ y g. h y (inr g)) in λ i. h x (inl refl) i ++ (x ∷ rest i)

  module _ (decide : (x y : X) → (x ≡ y) ⊎ (x ≢ y)) (mark new : X) (before after : X → List X)
      (here : after mark ≡ before mark ++ new ∷ []) (others : (x : X) → x ≢ mark → after x ≡ before x) where
    abbrev pub IsOneMore : List X → Type 0
    IsOneMore xs = (k : ℕ) × (slice_get (with_before before xs) k ≡ Some mark) × (with_before after xs ≡ insert (with_before before xs) k new)

    at_mark : (x : X) (xs : List X) → Once (x ∷ xs) → x ≡ mark → IsOneMore (x ∷ xs)
    at_mark x xs once e =
        let same = same_before before after xs (λ y g. others y (λ q. once.0 (subst (λ z. Has z xs) (q ∙ sym e) g))) in
        let grown : after x ≡ before x ++ new ∷ [] = ap after e ∙ here ∙ ap (λ y. before y ++ new ∷ []) (sym e) in (
          behind (before x) zero,
          get_behind (before x) (x ∷ with_before before xs) zero ∙ ap Some e,
          (λ i. grown i ++ (x ∷ same i)) ∙ append_assoc (before x) (new ∷ []) (x ∷ with_before before xs) ∙ sym (insert_behind (before x) (x ∷ with_before before xs) zero new),
        )

    later : (x : X) (xs : List X) → x ≢ mark → IsOneMore xs → IsOneMore (x ∷ xs)
    later x xs ne g = (
      behind (before x) (suc g.0),
      get_behind (before x) (x ∷ with_before before xs) (suc g.0) ∙ g.1,
      (λ i. others x ne i ++ (x ∷ g.2 i)) ∙ sym (insert_behind (before x) (x ∷ with_before before xs) (suc g.0) new),
    )

    -- one more right before the mark
    pub one_more : (xs : List X) → Once xs → Has mark xs → IsOneMore xs
    one_more [] once has = absurd has
    one_more (x ∷ xs) once has = ⊎_elim
        (λ (e : x ≡ mark). at_mark x xs once e)
        (λ (ne : x ≢ mark). later x xs ne (one_more xs once.1 (⊎_elim (λ s. absurd (ne (sym s))) (λ r. r) has)))
        (decide x mark)
