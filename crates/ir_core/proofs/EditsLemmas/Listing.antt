-- The uses at the places of a list are gathered one after another.
use Rattle.std.proofs.Common.{◌≡◌, ◌≢◌, ℕ, ◌<◌, ◌+◌, ⊎_elim, List, [], ◌∷◌, ◌++◌, length, Option, Some, None, IfSome, IfNone, MatchOption, slice_get, sym, ap, ◌∙◌, subst, arith}
use Rattle.std.proofs.lemmas.Bool.{cases_eq}
use Rattle.std.proofs.lemmas.Option.{slice_get_within}
use Rattle.std.proofs.lemmas.List.{length-append}
use Rattle.ir_program.specs.Uses.{IsUseIn}
use Rattle.ir_program.specs.declared.handles.Ptr.{Ptr}
use Rattle.ir_program.specs.declared.handles.Operation.{Operation}
use Rattle.ir_program.specs.declared.handles.Use.{Use}
use Rattle.ir_core.specs.declared.edits.edit.Entity.{Entity}
use Rattle.ir_core.specs.declared.edits.edit.PlaceAt.{PlaceAt}
use Rattle.ir_core.specs.edits.Naming.{operation_named, IsListed}
use Rattle.ir_core.specs.edits.UseEdits.{AreListedUses}
use Rattle.ir_core.proofs.EditsLemmas.Lists.{before-last, last-one}

-- what is not the last element is one before
before : {X : Type 0} (xs : List X) (x : X) (k : ℕ) (y : X) → k ≢ length xs → slice_get (xs ++ x ∷ []) k ≡ Some y → k < length xs
before xs x k y ne e = omega (arith, ne, slice_get_within (xs ++ x ∷ []) k y e, length-append xs (x ∷ []))

module _ {X : Type 0} (made : List (Option Entity)) (places : List PlaceAt) (rows : Ptr Operation → List X) (x : X) where
  -- the uses of x at the first n places
  pub record ListedSoFar (n : ℕ) (us : List (Use X)) : Type 0 where
    pub sound : (k : ℕ) (u : Use X) → slice_get us k ≡ Some u → IsUseIn rows u × (u.def ≡ x) × IsListed made places u.user_op u.index
    pub all : (u : Use X) → IsUseIn rows u → u.def ≡ x → (j : ℕ) (at : PlaceAt) → j < n → slice_get places j ≡ Some at → operation_named made at.user_op ≡ Some u.user_op → at.index ≡ u.index
        → (k : ℕ) × (slice_get us k ≡ Some u)

  same-use : (u w : Use X) → u.user_op ≡ w.user_op → u.index ≡ w.index → u.def ≡ w.def → u ≡ w
  same-use u w p i d = λ t. record { user_op = p t; index = i t; def = d t }

  -- the place holds a use of x
  pub one-more : (n : ℕ) (at : PlaceAt) (us more : List (Use X)) (w : Use X) → slice_get places n ≡ Some at → more ≡ us ++ w ∷ []
      → (operation_named made at.user_op ≡ Some w.user_op) × (w.index ≡ at.index) × (w.def ≡ x) × (slice_get (rows w.user_op) w.index ≡ Some x) → ListedSoFar n us → ListedSoFar (n + 1) more
  one-more n at us more w here grown found so = record {
    sound = λ k u e. let e' : slice_get (us ++ w ∷ []) k ≡ Some u = ap (λ l. slice_get l k) (sym grown) ∙ e in ⊎_elim
        (λ (last : k ≡ length us). let s : Some w ≡ Some u = sym (last-one us w) ∙ ap (slice_get (us ++ w ∷ [])) (sym last) ∙ e' in let q : w ≡ u = cc in
        subst (λ y. IsUseIn rows y × (y.def ≡ x) × IsListed made places y.user_op y.index) q (found.3 ∙ ap Some (sym found.2), found.2, (n, at, here, found.0, sym found.1)))
        (λ ne. let lt : k < length us = before us w k u ne e' in so.sound k u (sym (before-last us w k lt) ∙ e'))
        (cases_eq k (length us));
    all = λ u i d j a lt e o p. ⊎_elim
        (λ (same : j ≡ n). let s : Some at ≡ Some a = sym here ∙ ap (slice_get places) (sym same) ∙ e in let q : at ≡ a = cc in
        let o' : Some w.user_op ≡ Some u.user_op = sym found.0 ∙ ap (λ (y : PlaceAt). operation_named made y.user_op) q ∙ o in
        let h : w.user_op ≡ u.user_op = cc in
        (length us, ap (λ l. slice_get l (length us)) grown ∙ last-one us w ∙ ap Some (same-use w u h (found.1 ∙ ap (λ (y : PlaceAt). y.index) q ∙ p) (found.2 ∙ sym d))))
        (λ ne. let k = so.all u i d j a (omega (arith, lt, ne)) e o p in (k.0, ap (λ l. slice_get l k.0) grown ∙ before-last us w k.0 (slice_get_within us k.0 u k.1) ∙ k.1))
        (cases_eq j n);
  }

  -- the place holds none
  pub none-more : (n : ℕ) (at : PlaceAt) (us : List (Use X)) → slice_get places n ≡ Some at
      → ((p : Ptr Operation) → operation_named made at.user_op ≡ Some p → slice_get (rows p) at.index ≡ Some x → ⊥) → ListedSoFar n us → ListedSoFar (n + 1) us
  none-more n at us here missing so = record {
    sound = so.sound;
    all = λ u i d j a lt e o p. ⊎_elim
        (λ (same : j ≡ n). let s : Some at ≡ Some a = sym here ∙ ap (slice_get places) (sym same) ∙ e in let q : at ≡ a = cc in
        absurd (missing u.user_op (ap (λ (y : PlaceAt). operation_named made y.user_op) q ∙ o) (ap (slice_get (rows u.user_op)) (ap (λ (y : PlaceAt). y.index) q ∙ p) ∙ i ∙ ap Some d)))
        (λ ne. so.all u i d j a (omega (arith, lt, ne)) e o p)
        (cases_eq j n);
  }

  -- the place was looked at
  pub one-place : (n : ℕ) (at : PlaceAt) (us more : List (Use X)) (found : Option (Use X)) → slice_get places n ≡ Some at → MatchOption found (more ≡ us) (λ u. more ≡ us ++ u ∷ [])
      → IfSome found (λ u. (operation_named made at.user_op ≡ Some u.user_op) × (u.index ≡ at.index) × (u.def ≡ x) × (slice_get (rows u.user_op) u.index ≡ Some x))
      → IfNone found ((p : Ptr Operation) → operation_named made at.user_op ≡ Some p → slice_get (rows p) at.index ≡ Some x → ⊥)
      → ListedSoFar n us → ListedSoFar (n + 1) more
  one-place n at us more (Some u) here grown found missing so = one-more n at us more u here grown found so
  one-place n at us more None here grown found missing so = subst (ListedSoFar (n + 1)) (sym grown) (none-more n at us here missing so)

  pub none-yet : ListedSoFar 0 []
  none-yet = record {
    sound = λ k u e. absurd (omega (arith, slice_get_within [] k u e));
    all = λ u i d j at lt e o p. absurd (omega (arith, lt));
  }

  pub listed-all : (us : List (Use X)) (n : ℕ) → length places ≡ n → ListedSoFar n us → AreListedUses made places rows x us
  listed-all us n len so = record {
    sound = so.sound;
    all = λ u i d l. so.all u i d l.0 l.1 (omega (arith, len, slice_get_within places l.0 l.1 l.2)) l.2 l.3 l.4;
  }
