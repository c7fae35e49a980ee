-- What items keep and count, by numbers and by names.
use Rattle.std.proofs.Common.{◌≡◌, ◌⊎◌, inl, inr, ⊎_elim, ℕ, zero, suc, ◌+◌, ◌<◌, List, [], ◌∷◌, ◌++◌, Option, None, Some, Bool, true, false, length, get_or, map, refl, sym, ap, ◌∙◌, subst, arith}
use Rattle.std.specs.Prelude.{slice_get}
use Rattle.std.proofs.lemmas.Option.{same_Some, none-some, slice_get_within}
use Rattle.opt_rows.specs.declared.dead_problem.Definer.{Definer}
use Rattle.opt_rows.specs.declared.dead_problem.Definer.TheVariants.{Result, Argument as ByArgument, Outside}
use Rattle.opt_rows.specs.declared.dead_problem.Operand.{Operand}
use Rattle.opt_rows.specs.DeadCandidates.{Candidate, around_of}
use Rattle.opt_rows.specs.declared.dead_problem.Argument.{Argument}
use Rattle.opt_rows.specs.declared.dead_problem.DeadProblem.{DeadProblem}
use Rattle.opt_rows.specs.Dead.{NumberedItem, Whole, Slot, IsInOperation, itself, further, IsBelow, IsInner, ItemMakes, CountsForItem, ItemMayGo, IsDeadItem, dies, IsExcusedOperand, by_operation, by_argument, IsDeadProblem}
use Rattle.opt_steps.specs.DeadPlaces.{ValueUse, IsValueUse, around_of_argument, around_operation, around_definer, slot, items, maker, IsAtOrAround, PlaceKeeps, IsKnownDefiner}
use Rattle.opt_solvers.specs.DeadRows.{slot_of, Excuses}
use Rattle.opt_solvers.specs.DeadUses.{held, held_operation, held_argument, first_uses}
use Rattle.opt_steps.proofs.DeadLists.{there_is}
use Rattle.opt_steps.proofs.DeadCrossing.{around_there, in_below}
use Rattle.opt_steps.proofs.DeadKeeping.{argument_there, around_definer_number, user_number}

held_zero : (b : Bool) → held b ≡ 0 → b ≡ true
held_zero true e = refl
held_zero false e = absurd (omega (arith, e))

argument_use : (vs : List Argument) (v : ℕ) (c : Argument) → slice_get vs v ≡ Some c → get_or (map held_argument vs) v 0 ≡ held c.may_go
argument_use [] v c e = absurd (none-some c e)
argument_use (d ∷ vs) zero c e = ap (λ (x : Argument). held x.may_go) (same_Some d c e)
argument_use (d ∷ vs) (suc v) c e = argument_use vs v c e

first_argument : (cs : List Candidate) (vs : List Argument) (v n : ℕ) (c : Argument) → n ≡ length cs + v → slice_get vs v ≡ Some c → get_or (map held_operation cs ++ map held_argument vs) n 0 ≡ held c.may_go
first_argument [] vs v n c q e = let z : n ≡ v = omega (arith, q) in ap (λ k. get_or (map held_argument vs) k 0) z ∙ argument_use vs v c e
first_argument (d ∷ cs) vs v zero c q e = absurd (omega (arith, q))
first_argument (d ∷ cs) vs v (suc n) c q e = first_argument cs vs v n c (omega (arith, q)) e

first_operation : (cs : List Candidate) (vs : List Argument) (a : ℕ) (c : Candidate) → slice_get cs a ≡ Some c → get_or (map held_operation cs ++ map held_argument vs) a 0 ≡ held c.may_go
first_operation [] vs a c e = absurd (none-some c e)
first_operation (d ∷ cs) vs zero c e = ap (λ (x : Candidate). held x.may_go) (same_Some d c e)
first_operation (d ∷ cs) vs (suc a) c e = first_operation cs vs a c e

module _ (p : DeadProblem) where
  abbrev pub number : NumberedItem → ℕ
  number (Whole a) = a
  number (Slot v) = slot p v

  -- there is such an item
  abbrev pub IsItem : NumberedItem → Type 0
  IsItem (Whole a) = a < length p.operations
  IsItem (Slot v) = v < length p.arguments.items

  pub item_within : (x : NumberedItem) → IsItem x → number x < items p
  item_within (Whole a) h = omega (arith, h)
  item_within (Slot v) h = omega (arith, h)

  -- what may go is an item without a first use, and the other way round
  pub may_item : (x : NumberedItem) → ItemMayGo p x → IsItem x
  may_item (Whole a) (c, e, m) = slice_get_within p.operations a c e
  may_item (Slot v) (c, e, m) = slice_get_within p.arguments.items v c e

  pub may_unused : (x : NumberedItem) → ItemMayGo p x → get_or (first_uses p) (number x) 0 ≡ 0
  may_unused (Whole a) (c, e, m) = first_operation p.operations p.arguments.items a c e ∙ ap held m
  may_unused (Slot v) (c, e, m) = first_argument p.operations p.arguments.items v (slot p v) c refl e ∙ ap held m

  pub unused_may : (x : NumberedItem) → IsItem x → get_or (first_uses p) (number x) 0 ≡ 0 → ItemMayGo p x
  unused_may (Whole a) h z = let c = there_is p.operations a h in (c.0, c.1, held_zero c.0.may_go (sym (first_operation p.operations p.arguments.items a c.0 c.1) ∙ z))
  unused_may (Slot v) h z = let c = there_is p.arguments.items v h in (c.0, c.1, held_zero c.0.may_go (sym (first_argument p.operations p.arguments.items v (slot p v) c.0 refl c.1) ∙ z))

  below_around : (a i : ℕ) → IsBelow p a i → IsAtOrAround p (around_operation p i) a
  below_around a i b = (b.parent, ap around_of b.there ∙ b.around, b.inside)

  around_below : (a i : ℕ) → IsAtOrAround p (around_operation p i) a → IsBelow p a i
  around_below a i (j, e, r) = let c = around_there p i j e in record { candidate = c.0; there = c.1; parent = j; around = c.2; inside = r }

  inner_around : (a : ℕ) (d : Definer) → IsInner p a d → IsAtOrAround p (around_definer p d) a
  inner_around a (Result b) h = below_around a b h
  inner_around a (ByArgument v) h = (h.parent, ap around_of_argument h.there ∙ h.around, h.inside)
  inner_around a Outside h = absurd h

  around_inner : (a : ℕ) (d : Definer) → IsAtOrAround p (around_definer p d) a → IsInner p a d
  around_inner a (Result b) r = around_below a b r
  around_inner a (ByArgument v) (j, e, r) = let c = argument_there p v j e in record { argument = c.0; there = c.1; parent = j; around = c.2; inside = r }
  around_inner a Outside (j, e, r) = absurd (none-some j e)

  -- what an operand counts for, its place keeps
  pub counts_keeps : (x : NumberedItem) (i : ℕ) (o : Operand) → CountsForItem p x o.definer i → PlaceKeeps p (Some i) o.definer (number x)
  counts_keeps (Whole a) i o c = ⊎_elim (λ e. inl (ap (maker p) e)) (λ (n, f). inr (inner_around a o.definer n, (λ u. f (around_below a i u)))) c
  counts_keeps (Slot v) i o c = inl (ap (maker p) c)

  pub makes_keeps : (x : NumberedItem) (d : Definer) → ItemMakes p x d → PlaceKeeps p None d (number x)
  makes_keeps (Whole a) d m = ⊎_elim (λ e. inl (ap (maker p) e)) (λ n. inr (inner_around a d n, (λ (j, e, r). none-some j e))) m
  makes_keeps (Slot v) d m = inl (ap (maker p) m)

  made_whole : (a : ℕ) (d : Definer) → a < length p.operations → maker p d ≡ Some a → d ≡ Result a
  made_whole a (Result b) h m = ap Result (same_Some b a m)
  made_whole a (ByArgument v) h m = absurd (let s = same_Some (slot p v) a m in omega (arith, s, h))
  made_whole a Outside h m = absurd (none-some a m)

  made_slot : (v : ℕ) (d : Definer) → IsKnownDefiner p d → maker p d ≡ Some (slot p v) → d ≡ ByArgument v
  made_slot v (Result b) h m = absurd (let s = same_Some b (slot p v) m in omega (arith, s, h))
  made_slot v (ByArgument w) h m = let s = same_Some (slot p w) (slot p v) m in ap ByArgument (omega (arith, s))
  made_slot v Outside h m = absurd (none-some (slot p v) m)

  -- the item is an operation in a dead one, or a dead argument
  abbrev pub IsGone : ℕ → Type 0
  IsGone x = ((a : ℕ) × IsInOperation p a x × IsDeadItem p (Whole a)) ⊎ ((v : ℕ) × (x ≡ slot p v) × IsDeadItem p (Slot v))

  abbrev pub IsExcusedPlace : ValueUse → Type 0
  IsExcusedPlace q = (i : ℕ) × (q.user ≡ Some i) × IsExcusedOperand p i q.operand

  pub dead_item : (x : NumberedItem) → IsDeadItem p x → IsItem x
  dead_item x (dies _ m n f) = may_item x m

  module _ (ok : IsDeadProblem p) where
    not_slot : (v : ℕ) (d : Definer) → IsKnownDefiner p d → IsAtOrAround p (around_definer p d) (slot p v) → ⊥
    not_slot v d h (j, e, r) = let l = around_definer_number p ok d h j e in let b = in_below p ok (slot p v) j r in omega (arith, l, b)

    -- what a place keeps, its operand counts for
    pub keeps_counts : (x : NumberedItem) (i : ℕ) (o : Operand) → IsItem x → IsKnownDefiner p o.definer → PlaceKeeps p (Some i) o.definer (number x) → CountsForItem p x o.definer i
    keeps_counts (Whole a) i o h k c = ⊎_elim (λ m. inl (made_whole a o.definer h m)) (λ (n, f). inr (around_inner a o.definer n, (λ b. f (below_around a i b)))) c
    keeps_counts (Slot v) i o h k c = ⊎_elim (λ m. made_slot v o.definer k m) (λ (n, f). absurd (not_slot v o.definer k n)) c

    pub keeps_makes : (x : NumberedItem) (d : Definer) → IsItem x → IsKnownDefiner p d → PlaceKeeps p None d (number x) → ItemMakes p x d
    keeps_makes (Whole a) d h k c = ⊎_elim (λ m. inl (made_whole a d h m)) (λ (n, f). inr (around_inner a d n)) c
    keeps_makes (Slot v) d h k c = ⊎_elim (λ m. made_slot v d k m) (λ (n, f). absurd (not_slot v d k n)) c

    in_number : (a x : ℕ) → IsInOperation p a x → a < length p.operations → x < length p.operations
    in_number a x itself h = h
    in_number a x (further _ j c e q r) h = slice_get_within p.operations x c e

    -- what excuses a place is its user or the argument that it is forwarded to
    pub excused_by : (q : ValueUse) (x : ℕ) → IsValueUse p q → Excuses p q x → IsGone x → IsExcusedPlace q
    excused_by q x h e g = ⊎_elim (λ u. by_user u g) (λ s. forwarded q.operand.argument refl s h) e
      where
        by_user : q.user ≡ Some x → IsGone x → IsExcusedPlace q
        by_user u (inl (a, r, d)) = (x, u, by_operation x q.operand a r d)
        by_user u (inr (v, t, d)) = absurd (let n = user_number p ok q h x u in omega (arith, n, t))

        argument : (i v : ℕ) → q.user ≡ Some i → q.operand.argument ≡ Some v → x ≡ slot p v → IsGone x → IsExcusedPlace q
        argument i v u t s (inl (a, r, d)) = absurd (let n = in_number a x r (dead_item (Whole a) d) in omega (arith, n, s))
        argument i v u t s (inr (w, z, d)) = let k : w ≡ v = omega (arith, s, z) in (i, u, by_argument i q.operand v t (subst (λ n. IsDeadItem p (Slot n)) k d))

        forwarded : (o : Option ℕ) → q.operand.argument ≡ o → slot_of p o ≡ Some x → IsValueUse p q → IsExcusedPlace q
        forwarded None t s i = absurd (none-some x s)
        forwarded (Some v) t s i = ⊎_elim (λ r. argument r.0 v r.1 t (sym (same_Some (slot p v) x s)) g) (λ r. absurd (none-some v (sym r.1 ∙ t))) i
