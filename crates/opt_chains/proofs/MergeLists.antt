-- Lists but for their last, and without what is picked.
use Rattle.std.proofs.Common.{◌≡◌, ◌≢◌, ◌⊎◌, inl, inr, ⊎_elim, ℕ, zero, suc, Bool, true, false, cond, List, [], ◌∷◌, ◌++◌, length, Option, Some, None, IsSome, remove, slice_get, refl, sym, ap, ◌∙◌, subst}
use Rattle.std.specs.Prelude.{if◌then◌else◌}
use Rattle.ir_program.specs.Replacing.{same_block}
use Rattle.ir_program.specs.declared.handles.Ptr.{Ptr}
use Rattle.ir_program.specs.declared.handles.BasicBlock.{BasicBlock}
use Rattle.ir_program.proofs.made.Frames.{same_or_not}
use Rattle.ir_trees.proofs.HandleTests.{block_yes, block_no}
use Rattle.ir_trees.proofs.Members.{Has, Once, at_has}
use Rattle.opt_chains.specs.Merging.{front, without}

pub none_listed : {X : Type 0} (k : ℕ) (x : X) → slice_get [] k ≡ Some x → ⊥
none_listed k x h = cc

pub nothing : {X : Type 0} (o : Option X) → o ≡ None → IsSome o → ⊥
nothing None e h = cc
nothing (Some x) e h = cc

pub something : {X : Type 0} (o : Option X) → IsSome o → (x : X) × (o ≡ Some x)
something (Some x) h = (x, refl)
something None h = cc

pub same_some : {X : Type 0} (o : Option X) (x y : X) → o ≡ Some x → o ≡ Some y → x ≡ y
same_some o x y h g = let e : Some x ≡ Some y = sym h ∙ g in cc

pub true_or_false : (b : Bool) → (b ≡ true) ⊎ (b ≡ false)
true_or_false true = inl refl
true_or_false false = inr refl

pub not_true : (b : Bool) → (b ≡ true → ⊥) → b ≡ false
not_true true h = absurd (h refl)
not_true false h = refl

module _ {X : Type 0} where
  -- the last of a list
  pub last_at : (xs : List X) (x : X) → slice_get (xs ++ x ∷ []) (length xs) ≡ Some x
  last_at [] x = refl
  last_at (y ∷ ys) x = last_at ys x

  pub remove_last : (xs : List X) (x : X) → remove (xs ++ x ∷ []) (length xs) ≡ xs
  remove_last [] x = refl
  remove_last (y ∷ ys) x = ap (λ l. y ∷ l) (remove_last ys x)

  pub front_last : (xs : List X) (x : X) → front (xs ++ x ∷ []) ≡ xs
  front_last [] x = refl
  front_last (y ∷ []) x = refl
  front_last (y ∷ (z ∷ zs)) x = ap (λ l. y ∷ l) (front_last (z ∷ zs) x)

  -- the front of two lists
  pub front_both : (xs ys : List X) (x : X) → front (xs ++ (ys ++ x ∷ [])) ≡ xs ++ ys
  front_both xs ys x = ap front (assoc xs ys x) ∙ front_last (xs ++ ys) x where
    assoc : (us vs : List X) (y : X) → us ++ (vs ++ y ∷ []) ≡ (us ++ vs) ++ y ∷ []
    assoc [] vs y = refl
    assoc (u ∷ us) vs y = ap (λ l. u ∷ l) (assoc us vs y)

  pub in_front : (xs : List X) (x : X) → Has x (front xs) → Has x xs
  in_front [] x h = h
  in_front (y ∷ []) x h = absurd h
  in_front (y ∷ (z ∷ zs)) x h = ⊎_elim (λ e. inl e) (λ r. inr (in_front (z ∷ zs) x r)) h

  pub without_none : (picks : X → Bool) (xs : List X) → ((x : X) → Has x xs → picks x ≡ false) → without picks xs ≡ xs
  without_none picks [] none = refl
  without_none picks (x ∷ xs) none = rw (none x (inl refl)) (ap (λ l. x ∷ l) (without_none picks xs (λ y h. none y (inr h))))

  -- without those that are picked, and then without those that others pick
  pub without_both : (p q both : X → Bool) (xs : List X) → ((x : X) → both x ≡ cond (q x) true (p x)) → without q (without p xs) ≡ without both xs
  without_both p q both [] e = refl
  without_both p q both (x ∷ xs) e = by_case (p x) (without_both p q both xs e) ∙ ap (λ s. if s then without both xs else x ∷ without both xs) (sym (e x)) where
    left : (s : Bool) (us vs : List X) → us ≡ vs → (if s then us else x ∷ us) ≡ (if cond s true false then vs else x ∷ vs)
    left true us vs h = h
    left false us vs h = ap (λ l. x ∷ l) h

    gone : (s : Bool) (us vs : List X) → us ≡ vs → us ≡ (if cond s true true then vs else x ∷ vs)
    gone true us vs h = h
    gone false us vs h = h

    by_case : (a : Bool) → without q (without p xs) ≡ without both xs → without q (if a then without p xs else x ∷ without p xs) ≡ (if cond (q x) true a then without both xs else x ∷ without both xs)
    by_case true ih = gone (q x) (without q (without p xs)) (without both xs) ih
    by_case false ih = left (q x) (without q (without p xs)) (without both xs) ih

-- a handle is in a list at some index, or not in it
pub found_or_not : {E : Type 0} (p : Ptr E) (xs : List (Ptr E)) → ((k : ℕ) × (slice_get xs k ≡ Some p)) ⊎ (Has p xs → ⊥)
found_or_not p [] = inr (λ h. h)
found_or_not p (x ∷ xs) = ⊎_elim
    (λ (e : p ≡ x). inl (zero, ap Some (sym e)))
    (λ (ne : p ≢ x). ⊎_elim (λ r. inl (suc r.0, r.1)) (λ none. inr (λ h. ⊎_elim ne none h)) (found_or_not p xs))
    (same_or_not p x)

-- of a member that comes once, taking it out by its index is leaving it out
pub left_out : (a : Ptr BasicBlock) (ps : List (Ptr BasicBlock)) (k : ℕ) → Once ps → slice_get ps k ≡ Some a → without (λ p. same_block p a) ps ≡ remove ps k
left_out a [] k once h = cc
left_out a (p ∷ ps) zero once h =
    let s : Some p ≡ Some a = h in
    let e : p ≡ a = cc in
    rw (block_yes p a e) (without_none (λ q. same_block q a) ps (λ q has. block_no q a (λ same. once.0 (subst (λ x. Has x ps) (same ∙ sym e) has))))
left_out a (p ∷ ps) (suc k) once h =
    rw (block_no p a (λ e. once.0 (subst (λ x. Has x ps) (sym e) (at_has ps k a h)))) (ap (λ l. p ∷ l) (left_out a ps k once.1 h))
