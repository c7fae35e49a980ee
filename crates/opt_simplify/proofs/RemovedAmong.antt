-- The blocks among the first of a list.
use Rattle.std.proofs.Common.{◌≡◌, ◌⊎◌, inl, inr, ⊎_elim, ℕ, zero, suc, ◌+◌, Bool, true, false, cond, List, [], ◌∷◌, take, Some, slice_get, refl, sym, ap, ◌∙◌, subst, add-one}
use Rattle.ir_program.specs.declared.handles.Ptr.{Ptr}
use Rattle.ir_program.specs.declared.handles.BasicBlock.{BasicBlock}
use Rattle.ir_program.proofs.made.Frames.{same_or_not}
use Rattle.ir_program.specs.Replacing.{same_block}
use Rattle.ir_trees.proofs.HandleTests.{block_yes, block_no}
use Rattle.opt_trees.specs.Occurrences.{Has}
use Rattle.opt_simplify.specs.Removed.{is_listed}

-- those that are picked, and one more
abbrev pub and_also : Ptr BasicBlock → (Ptr BasicBlock → Bool) → Ptr BasicBlock → Bool
and_also a picks p = cond (same_block p a) true (picks p)

pub also_it : (a : Ptr BasicBlock) (picks : Ptr BasicBlock → Bool) → and_also a picks a ≡ true
also_it a picks = rw (block_yes a a refl) refl

pub also_picked : (a : Ptr BasicBlock) (picks : Ptr BasicBlock → Bool) (p : Ptr BasicBlock) → picks p ≡ true → and_also a picks p ≡ true
also_picked a picks p h = one_or_other (same_block p a) where
  one_or_other : (b : Bool) → cond b true (picks p) ≡ true
  one_or_other true = refl
  one_or_other false = h

pub it_or_picked : (a : Ptr BasicBlock) (picks : Ptr BasicBlock → Bool) (p : Ptr BasicBlock) → and_also a picks p ≡ true → (p ≡ a) ⊎ (picks p ≡ true)
it_or_picked a picks p h = ⊎_elim
    (λ e. inl e)
    (λ ne. inr (sym (ap (λ b. cond b true (picks p)) (block_no p a ne)) ∙ h))
    (same_or_not p a)

-- among a list is in it
pub among_has : (ps : List (Ptr BasicBlock)) (p : Ptr BasicBlock) → is_listed ps p ≡ true → Has p ps
among_has [] p h = let f : false ≡ true = h in cc
among_has (q ∷ ps) p h = ⊎_elim (λ e. inl e) (λ t. inr (among_has ps p t)) (it_or_picked q (is_listed ps) p h)

pub has_among : (ps : List (Ptr BasicBlock)) (p : Ptr BasicBlock) → Has p ps → is_listed ps p ≡ true
has_among [] p h = absurd h
has_among (q ∷ ps) p h = ⊎_elim
    (λ (e : p ≡ q). subst (λ x. and_also x (is_listed ps) p ≡ true) e (also_it p (is_listed ps)))
    (λ t. also_picked q (is_listed ps) p (has_among ps p t))
    h

-- one more of the list
among_next : (ps : List (Ptr BasicBlock)) (i : ℕ) (a : Ptr BasicBlock) → slice_get ps i ≡ Some a → (p : Ptr BasicBlock) → is_listed (take (suc i) ps) p ≡ and_also a (is_listed (take i ps)) p
among_next [] i a h p = cc
among_next (q ∷ ps) zero a h p = let s : Some q ≡ Some a = h in let e : q ≡ a = cc in ap (λ x. cond (same_block p x) true false) e
among_next (q ∷ ps) (suc i) a h p = ap (λ b. cond (same_block p q) true b) (among_next ps i a h p) ∙ swapped (same_block p q) (same_block p a) (is_listed (take i ps) p) where
  swapped : (x y z : Bool) → cond x true (cond y true z) ≡ cond y true (cond x true z)
  swapped true true z = refl
  swapped true false z = refl
  swapped false true z = refl
  swapped false false z = refl

pub among_more : (ps : List (Ptr BasicBlock)) (i : ℕ) (a : Ptr BasicBlock) → slice_get ps i ≡ Some a → and_also a (is_listed (take i ps)) ≡ is_listed (take (i + 1) ps)
among_more ps i a h = rw (add-one i) (λ j p. sym (among_next ps i a h p) j)

pub has_taken : (ps : List (Ptr BasicBlock)) (i : ℕ) (p : Ptr BasicBlock) → Has p (take i ps) → Has p ps
has_taken [] zero p h = h
has_taken [] (suc i) p h = h
has_taken (q ∷ ps) zero p h = absurd h
has_taken (q ∷ ps) (suc i) p h = ⊎_elim (λ e. inl e) (λ t. inr (has_taken ps i p t)) h
