-- The operations among the first of a list.
use Rattle.std.proofs.Common.{◌≡◌, ◌⊎◌, inl, inr, ⊎_elim, ℕ, zero, suc, ◌+◌, Bool, true, false, cond, List, [], ◌∷◌, take, Some, slice_get, refl, sym, ap, ◌∙◌, subst, add-one}
use Rattle.ir_program.specs.declared.handles.Ptr.{Ptr}
use Rattle.ir_program.specs.declared.handles.Operation.{Operation}
use Rattle.ir_program.proofs.made.Frames.{same_or_not}
use Rattle.ir_trees.specs.ListRewrites.{same_operation, is_among}
use Rattle.ir_trees.proofs.HandleTests.{operation_yes, operation_no}
use Rattle.opt_trees.specs.Occurrences.{Has}

-- those that are picked, and one more
abbrev pub and_also : Ptr Operation → (Ptr Operation → Bool) → Ptr Operation → Bool
and_also a picks p = cond (same_operation p a) true (picks p)

pub also_it : (a : Ptr Operation) (picks : Ptr Operation → Bool) → and_also a picks a ≡ true
also_it a picks = rw (operation_yes a a refl) refl

pub also_picked : (a : Ptr Operation) (picks : Ptr Operation → Bool) (p : Ptr Operation) → picks p ≡ true → and_also a picks p ≡ true
also_picked a picks p h = one_or_other (same_operation p a) where
  one_or_other : (b : Bool) → cond b true (picks p) ≡ true
  one_or_other true = refl
  one_or_other false = h

pub it_or_picked : (a : Ptr Operation) (picks : Ptr Operation → Bool) (p : Ptr Operation) → and_also a picks p ≡ true → (p ≡ a) ⊎ (picks p ≡ true)
it_or_picked a picks p h = ⊎_elim
    (λ e. inl e)
    (λ ne. inr (sym (ap (λ b. cond b true (picks p)) (operation_no p a ne)) ∙ h))
    (same_or_not p a)

-- among a list is in it
pub among_has : (ps : List (Ptr Operation)) (p : Ptr Operation) → is_among ps p ≡ true → Has p ps
among_has [] p h = let f : false ≡ true = h in cc
among_has (q ∷ ps) p h = ⊎_elim (λ e. inl e) (λ t. inr (among_has ps p t)) (it_or_picked q (is_among ps) p h)

pub has_among : (ps : List (Ptr Operation)) (p : Ptr Operation) → Has p ps → is_among ps p ≡ true
has_among [] p h = absurd h
has_among (q ∷ ps) p h = ⊎_elim
    (λ (e : p ≡ q). subst (λ x. and_also x (is_among ps) p ≡ true) e (also_it p (is_among ps)))
    (λ t. also_picked q (is_among ps) p (has_among ps p t))
    h

-- one more of the list
among_next : (ps : List (Ptr Operation)) (i : ℕ) (a : Ptr Operation) → slice_get ps i ≡ Some a → (p : Ptr Operation) → is_among (take (suc i) ps) p ≡ and_also a (is_among (take i ps)) p
among_next [] i a h p = cc
among_next (q ∷ ps) zero a h p = let s : Some q ≡ Some a = h in let e : q ≡ a = cc in ap (λ x. cond (same_operation p x) true false) e
among_next (q ∷ ps) (suc i) a h p = ap (λ b. cond (same_operation p q) true b) (among_next ps i a h p) ∙ swapped (same_operation p q) (same_operation p a) (is_among (take i ps) p) where
  swapped : (x y z : Bool) → cond x true (cond y true z) ≡ cond y true (cond x true z)
  swapped true true z = refl
  swapped true false z = refl
  swapped false true z = refl
  swapped false false z = refl

pub among_more : (ps : List (Ptr Operation)) (i : ℕ) (a : Ptr Operation) → slice_get ps i ≡ Some a → and_also a (is_among (take i ps)) ≡ is_among (take (i + 1) ps)
among_more ps i a h = rw (add-one i) (λ j p. sym (among_next ps i a h p) j)
