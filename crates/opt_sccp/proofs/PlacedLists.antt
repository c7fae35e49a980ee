-- What was put in for a value, in a list of what was put in.
use Rattle.std.proofs.Common.{◌≡◌, ◌≢◌, ◌⊎◌, inl, inr, ⊎_elim, ℕ, zero, suc, Bool, true, false, cond, List, [], ◌∷◌, ◌++◌, map, Option, Some, None, slice_get, refl, sym, ap, ◌∙◌}
use Rattle.ir_program.specs.Replacing.{same_value}
use Rattle.ir_program.specs.declared.handles.Value.{Value}
use Rattle.ir_program.proofs.used.Renaming.{value-test}
use Rattle.ir_trees.proofs.Members.{Has as Among}
use Rattle.opt_trees.specs.Occurrences.{Has}
use Rattle.opt_sccp.specs.declared.putting.Made.{Made}
use Rattle.opt_sccp.specs.Made.{made_of}
use Rattle.opt_sccp.specs.Placed.{Placed, placed_for}
use Rattle.opt_sccp.proofs.PutTrees.{constant_in}

module _ {X : Type 0} where
  pub has_index : (xs : List X) (x : X) → Has x xs → (k : ℕ) × (slice_get xs k ≡ Some x)
  has_index [] x h = absurd h
  has_index (y ∷ ys) x h = ⊎_elim (λ s. (zero, ap Some (sym s))) (λ r. let g = has_index ys x r in (suc g.0, g.1)) h

  pub index_has : (xs : List X) (k : ℕ) (x : X) → slice_get xs k ≡ Some x → Has x xs
  index_has [] k x h = cc
  index_has (y ∷ ys) zero x h = let s : Some y ≡ Some x = h in let q : x ≡ y = cc in inl q
  index_has (y ∷ ys) (suc k) x h = inr (index_has ys k x h)

  pub has_front : (xs ys : List X) (x : X) → Has x xs → Has x (xs ++ ys)
  has_front [] ys x h = absurd h
  has_front (y ∷ xs) ys x h = ⊎_elim (λ s. inl s) (λ r. inr (has_front xs ys x r)) h

  pub has_last : (xs : List X) (x y : X) → Has x (xs ++ y ∷ []) → Has x xs ⊎ (x ≡ y)
  has_last [] x y h = ⊎_elim (λ s. inr s) (λ r. absurd r) h
  has_last (z ∷ xs) x y h = ⊎_elim (λ s. inl (inl s)) (λ r. ⊎_elim (λ a. inl (inr a)) (λ b. inr b) (has_last xs x y r)) h

  pub last_has : (xs : List X) (y : X) → Has y (xs ++ y ∷ [])
  last_has [] y = inl refl
  last_has (x ∷ xs) y = inr (last_has xs y)

  pub among : (xs : List X) (x : X) → Has x xs → Among x xs
  among [] x h = h
  among (y ∷ xs) x h = ⊎_elim (λ s. inl s) (λ r. inr (among xs x r)) h

  pub from_among : (xs : List X) (x : X) → Among x xs → Has x xs
  from_among [] x h = h
  from_among (y ∷ xs) x h = ⊎_elim (λ s. inl s) (λ r. inr (from_among xs x r)) h

pub has_map : {X Y : Type 0} (f : X → Y) (xs : List X) (x : X) → Has x xs → Has (f x) (map f xs)
has_map f [] x h = absurd h
has_map f (y ∷ xs) x h = ⊎_elim (λ s. inl (ap f s)) (λ r. inr (has_map f xs x r)) h

-- the first that there is
abbrev pub first_of_two : {X : Type 0} → Option X → Option X → Option X
first_of_two None p = p
first_of_two (Some x) p = Some x

module _ {O A : Type 0} where
  abbrev pub made_in : List (Placed O A) → List (Made A)
  made_in ps = map (λ (x : Placed O A). x.made) ps

  -- what was put in alone
  abbrev pub alone : Placed O A → Value → Option (Placed O A)
  alone x v = cond (same_value v x.made.value) (Some x) None

  pub alone_is : (x : Placed O A) (v : Value) → v ≡ x.made.value → alone x v ≡ Some x
  alone_is x v e = ap (λ b. cond b (Some x) None) (value-test.yes v x.made.value e)

  pub alone_not : (x : Placed O A) (v : Value) → v ≢ x.made.value → alone x v ≡ None
  alone_not x v ne = ap (λ b. cond b (Some x) None) (value-test.no v x.made.value ne)

  two_tested : (b : Bool) (y : Placed O A) (o p : Option (Placed O A)) → cond b (Some y) (first_of_two o p) ≡ first_of_two (cond b (Some y) o) p
  two_tested true y o p = refl
  two_tested false y o p = refl

  -- one more at the end
  pub placed_more : (ps : List (Placed O A)) (x : Placed O A) (v : Value) → placed_for (ps ++ x ∷ []) v ≡ first_of_two (placed_for ps v) (alone x v)
  placed_more [] x v = refl
  placed_more (y ∷ ps) x v = ap (λ o. cond (same_value v y.made.value) (Some y) o) (placed_more ps x v) ∙ two_tested (same_value v y.made.value) y (placed_for ps v) (alone x v)

  -- what is found is of the list, and is for the value
  pub placed_has : (ps : List (Placed O A)) (v : Value) (x : Placed O A) → placed_for ps v ≡ Some x → Has x ps × (x.made.value ≡ v)
  placed_has [] v x h = cc
  placed_has (y ∷ ps) v x h = ⊎_elim
      (λ (e : v ≡ y.made.value).
      let f : Some y ≡ Some x = ap (λ b. cond b (Some y) (placed_for ps v)) (sym (value-test.yes v y.made.value e)) ∙ h in
      let q : x ≡ y = cc in (inl q, ap (λ (z : Placed O A). z.made.value) q ∙ sym e))
      (λ (ne : v ≢ y.made.value).
      let g = placed_has ps v x (ap (λ b. cond b (Some y) (placed_for ps v)) (sym (value-test.no v y.made.value ne)) ∙ h) in (inr g.0, g.1))
      (value-test.decide v y.made.value)

  none_or : (o : Option (Placed O A)) → ((x : Placed O A) → o ≡ Some x → ⊥) → o ≡ None
  none_or None h = refl
  none_or (Some x) h = absurd (h x refl)

  pub placed_none : (ps : List (Placed O A)) (v : Value) → ((x : Placed O A) → Has x ps → x.made.value ≢ v) → placed_for ps v ≡ None
  placed_none ps v h = none_or (placed_for ps v) (λ x e. let g = placed_has ps v x e in h x g.0 g.1)

  -- what is of the list is found, or another for the same value
  pub placed_found : (ps : List (Placed O A)) (x : Placed O A) → Has x ps → (y : Placed O A) × (placed_for ps x.made.value ≡ Some y)
  placed_found [] x h = absurd h
  placed_found (y ∷ ps) x h = ⊎_elim
      (λ (e : x.made.value ≡ y.made.value). (y, ap (λ b. cond b (Some y) (placed_for ps x.made.value)) (value-test.yes x.made.value y.made.value e)))
      (λ (ne : x.made.value ≢ y.made.value). ⊎_elim
      (λ (s : x ≡ y). absurd (ne (ap (λ (z : Placed O A). z.made.value) s)))
      (λ r. let g = placed_found ps x r in (g.0, ap (λ b. cond b (Some y) (placed_for ps x.made.value)) (value-test.no x.made.value y.made.value ne) ∙ g.1)) h)
      (value-test.decide x.made.value y.made.value)

  tested : (b : Bool) (x : Placed O A) (o : Option (Placed O A)) → cond b (Some x.made.constant) (constant_in o) ≡ constant_in (cond b (Some x) o)
  tested true x o = refl
  tested false x o = refl

  -- the constants are those of what was put in
  pub made_is : (ps : List (Placed O A)) (v : Value) → made_of (made_in ps) v ≡ constant_in (placed_for ps v)
  made_is [] v = refl
  made_is (x ∷ ps) v = ap (λ o. cond (same_value v x.made.value) (Some x.made.constant) o) (made_is ps v) ∙ tested (same_value v x.made.value) x (placed_for ps v)
