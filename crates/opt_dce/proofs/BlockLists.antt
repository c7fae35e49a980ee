-- Lists of operations without those that are picked, and blocks with such lists.
use Rattle.std.proofs.Common.{◌≡◌, ◌≢◌, ◌⊎◌, inl, inr, ⊎_elim, ℕ, zero, suc, Bool, true, false, cond, List, [], ◌∷◌, Option, Some, None, is_some, option_map, unwrap_or, slice_get, remove, refl, sym, ap, ◌∙◌, subst}
use Rattle.std.specs.Prelude.{if◌then◌else◌}
use Rattle.ir_program.specs.Lists.{operations_in}
use Rattle.ir_program.specs.Program.{Program, BlockView, block_at}
use Rattle.ir_program.specs.declared.handles.Ptr.{Ptr}
use Rattle.ir_program.specs.declared.handles.Operation.{Operation}
use Rattle.ir_program.specs.declared.handles.BasicBlock.{BasicBlock}
use Rattle.ir_program.proofs.made.Frames.{same_or_not}
use Rattle.ir_trees.specs.ListRewrites.{same_operation}
use Rattle.ir_trees.proofs.HandleTests.{operation_yes, operation_no}
use Rattle.ir_trees.proofs.Members.{Has, Once, at_has, once_of}
use Rattle.opt_inside.proofs.Around.{HasLists}
use Rattle.opt_dce.specs.Steps.{without, without_operations}
use Rattle.opt_dce.proofs.Among.{and_also}
use Rattle.opt_dce.proofs.Picking.{without_none}

-- a handle is in a list at some index, or not in it
pub found_or_not : {E : Type 0} (p : Ptr E) (xs : List (Ptr E)) → ((k : ℕ) × (slice_get xs k ≡ Some p)) ⊎ (Has p xs → ⊥)
found_or_not p [] = inr (λ h. h)
found_or_not p (x ∷ xs) = ⊎_elim
    (λ (e : p ≡ x). inl (zero, ap Some (sym e)))
    (λ (ne : p ≢ x). ⊎_elim (λ r. inl (suc r.0, r.1)) (λ none. inr (λ h. ⊎_elim ne none h)) (found_or_not p xs))
    (same_or_not p x)

-- without those that are picked, and then without one more
pub without_both : (a : Ptr Operation) (picks : Ptr Operation → Bool) (ps : List (Ptr Operation)) → without (λ p. same_operation p a) (without picks ps) ≡ without (and_also a picks) ps
without_both a picks [] = refl
without_both a picks (p ∷ ps) = by_case (picks p) (without_both a picks ps) where
  gone : (s : Bool) (x y z : List (Ptr Operation)) → x ≡ y → x ≡ (if cond s true true then y else z)
  gone true x y z e = e
  gone false x y z e = e

  left : (s : Bool) (x y : List (Ptr Operation)) → x ≡ y → (if s then x else p ∷ x) ≡ (if cond s true false then y else p ∷ y)
  left true x y e = e
  left false x y e = ap (λ l. p ∷ l) e

  by_case : (b : Bool) → without (λ q. same_operation q a) (without picks ps) ≡ without (and_also a picks) ps
      → without (λ q. same_operation q a) (if b then without picks ps else p ∷ without picks ps) ≡ (if cond (same_operation p a) true b then without (and_also a picks) ps else p ∷ without (and_also a picks) ps)
  by_case true e = gone (same_operation p a) (without (λ q. same_operation q a) (without picks ps)) (without (and_also a picks) ps) (p ∷ without (and_also a picks) ps) e
  by_case false e = left (same_operation p a) (without (λ q. same_operation q a) (without picks ps)) (without (and_also a picks) ps) e

-- leaving out twice what is picked is leaving it out
pub without_twice : {X : Type 0} (picks : X → Bool) (xs : List X) → without picks (without picks xs) ≡ without picks xs
without_twice picks [] = refl
without_twice picks (x ∷ xs) = by_case (picks x) refl (without_twice picks xs) where
  by_case : (b : Bool) → picks x ≡ b → without picks (without picks xs) ≡ without picks xs → without picks (if b then without picks xs else x ∷ without picks xs) ≡ (if b then without picks xs else x ∷ without picks xs)
  by_case true e ih = ih
  by_case false e ih = rw e (ap (λ l. x ∷ l) ih)

-- of a member that comes once, taking it out by its index is leaving it out
pub left_out : (a : Ptr Operation) (ps : List (Ptr Operation)) (k : ℕ) → Once ps → slice_get ps k ≡ Some a → without (λ p. same_operation p a) ps ≡ remove ps k
left_out a [] k once h = cc
left_out a (p ∷ ps) zero once h =
    let s : Some p ≡ Some a = h in
    let e : p ≡ a = cc in
    rw (operation_yes p a e) (without_none (λ q. same_operation q a) ps (λ q has. operation_no q a (λ same. once.0 (subst (λ x. Has x ps) (same ∙ sym e) has))))
left_out a (p ∷ ps) (suc k) once h =
    rw (operation_no p a (λ e. once.0 (subst (λ x. Has x ps) (sym e) (at_has ps k a h)))) (ap (λ l. p ∷ l) (left_out a ps k once.1 h))

-- members of a list without those that are picked
pub was_there : (picks : Ptr Operation → Bool) (ps : List (Ptr Operation)) (p : Ptr Operation) → Has p (without picks ps) → Has p ps
was_there picks [] p h = h
was_there picks (q ∷ ps) p h = by_case (picks q) (was_there picks ps p) h where
  by_case : (b : Bool) → (Has p (without picks ps) → Has p ps) → Has p (if b then without picks ps else q ∷ without picks ps) → Has p (q ∷ ps)
  by_case true ih h = inr (ih h)
  by_case false ih h = ⊎_elim (λ e. inl e) (λ r. inr (ih r)) h

pub is_left : (picks : Ptr Operation → Bool) (ps : List (Ptr Operation)) (p : Ptr Operation) → picks p ≡ false → Has p ps → Has p (without picks ps)
is_left picks [] p out h = h
is_left picks (q ∷ ps) p out h = by_case (picks q) refl (is_left picks ps p out) h where
  by_case : (b : Bool) → picks q ≡ b → (Has p ps → Has p (without picks ps)) → Has p (q ∷ ps) → Has p (if b then without picks ps else q ∷ without picks ps)
  by_case true e ih h = ⊎_elim (λ (s : p ≡ q). let f : picks q ≡ false = sym (ap picks s) ∙ out in cc) (λ r. ih r) h
  by_case false e ih h = ⊎_elim (λ s. inl s) (λ r. inr (ih r)) h

module _ {B : Type 0} where
  pub all_left : (o : Option (BlockView B)) → o ≡ option_map (without_operations (λ p. false)) o
  all_left None = refl
  all_left (Some v) = ap (λ ps. Some (record v { operations = ps })) (sym (without_none (λ p. false) v.operations (λ p has. refl)))

  pub there_still : (picks : Ptr Operation → Bool) (o : Option (BlockView B)) → is_some (option_map (without_operations picks) o) ≡ is_some o
  there_still picks None = refl
  there_still picks (Some v) = refl

  pub list_left : (picks : Ptr Operation → Bool) (o : Option (BlockView B)) → unwrap_or (option_map (λ (v : BlockView B). v.operations) (option_map (without_operations picks) o)) [] ≡ without picks (unwrap_or (option_map (λ (v : BlockView B). v.operations) o) [])
  list_left picks None = refl
  list_left picks (Some v) = refl

  pub arguments_left : (picks : Ptr Operation → Bool) (o : Option (BlockView B)) → unwrap_or (option_map (λ (v : BlockView B). v.arguments) (option_map (without_operations picks) o)) [] ≡ unwrap_or (option_map (λ (v : BlockView B). v.arguments) o) []
  arguments_left picks None = refl
  arguments_left picks (Some v) = refl

  -- twice, and for one operation more
  pub left_twice : (picks : Ptr Operation → Bool) (o : Option (BlockView B)) → option_map (without_operations picks) (option_map (without_operations picks) o) ≡ option_map (without_operations picks) o
  left_twice picks None = refl
  left_twice picks (Some v) = ap (λ ps. Some (record v { operations = ps })) (without_twice picks v.operations)

  pub one_more_left : (a : Ptr Operation) (picks : Ptr Operation → Bool) (o : Option (BlockView B)) → option_map (without_operations (λ p. same_operation p a)) (option_map (without_operations picks) o) ≡ option_map (without_operations (and_also a picks)) o
  one_more_left a picks None = refl
  one_more_left a picks (Some v) = ap (λ ps. Some (record v { operations = ps })) (without_both a picks v.operations)

  -- lists that are the same make the same block
  pub with_list : (f g : List (Ptr Operation) → List (Ptr Operation)) (o : Option (BlockView B)) → f (unwrap_or (option_map (λ (v : BlockView B). v.operations) o) []) ≡ g (unwrap_or (option_map (λ (v : BlockView B). v.operations) o) [])
      → option_map (λ (v : BlockView B). record v { operations = f v.operations }) o ≡ option_map (λ (v : BlockView B). record v { operations = g v.operations }) o
  with_list f g None e = refl
  with_list f g (Some v) e = ap (λ ps. Some (record v { operations = ps })) e

  same_view : (o : Option (BlockView B)) → o ≡ option_map (λ (v : BlockView B). record v { operations = v.operations }) o
  same_view None = refl
  same_view (Some v) = refl

module _ {O B : Type 0} (c : Program O B) (a : Ptr Operation) (b : Ptr BasicBlock) where
  -- the block that the operation stands in, without it
  pub holder_left : HasLists c → (k : ℕ) → slice_get (operations_in c b) k ≡ Some a → option_map (λ (v : BlockView B). record v { operations = remove v.operations k }) (block_at c b) ≡ option_map (without_operations (λ p. same_operation p a)) (block_at c b)
  holder_left lists k here = with_list (λ ps. remove ps k) (without (λ p. same_operation p a)) (block_at c b)
      (sym (left_out a (operations_in c b) k (once_of (operations_in c b) (λ i j q x y. (lists.operations_once q b b i j x y).1)) here))

  -- a block that it doesn't stand in
  pub other_left : (Has a (operations_in c b) → ⊥) → block_at c b ≡ option_map (without_operations (λ p. same_operation p a)) (block_at c b)
  other_left none = same_view (block_at c b) ∙ with_list (λ ps. ps) (without (λ p. same_operation p a)) (block_at c b)
      (sym (without_none (λ p. same_operation p a) (operations_in c b) (λ p has. operation_no p a (λ e. none (subst (λ q. Has q (operations_in c b)) e has)))))
