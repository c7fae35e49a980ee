-- Tables of what is forwarded to arguments and of what is in operations, and what an item excuses by them.
use Rattle.std.proofs.Common.{◌≡◌, ◌⊎◌, inl, inr, ⊎_elim, ℕ, zero, suc, ◌+◌, ◌<◌, ◌≤◌, List, [], ◌∷◌, Option, None, Some, get_or, length, take, replicate, refl, sym, ap, ◌∙◌, subst, arith}
use Rattle.std.specs.Prelude.{Contains, slice_get}
use Rattle.std.proofs.lemmas.Option.{same_Some, none-some, slice_get_within}
use Rattle.opt_rows.specs.declared.dead_problem.Operand.{Operand}
use Rattle.opt_rows.specs.declared.dead_problem.DeadProblem.{DeadProblem}
use Rattle.opt_rows.specs.Dead.{IsDeadProblem}
use Rattle.opt_rows.specs.LinkedRows.{RowsGain}
use Rattle.opt_rows.specs.Rows.{row_at}
use Rattle.opt_rows.specs.DeadCandidates.{all_operands, operands_before}
use Rattle.opt_steps.specs.DeadPlaces.{ValueUse, IsValueUse, all_places, slot, around_operation}
use Rattle.opt_solvers.specs.DeadRows.{slot_of, IsExcusedBy, ForwardsOperand, AreForwardedPlaces, AreInner}
use Rattle.opt_rows.proofs.Lists.{gained_then, gained_as, all_listed, emptied, get_more_left, get_more_last, get_more_cases}
use Rattle.opt_steps.proofs.DeadCrossing.{around_there}
use Rattle.opt_steps.proofs.DeadKeeping.{user_number}
use Rattle.opt_steps.proofs.DeadPlacing.{place_is, user_between, between_user, forwarded_there, there_forwarded}

-- the next operand
pub operands_noted : (a b c : List (List ℕ)) (os : List Operand) (i : ℕ) (o : Operand) → i < length os → o ≡ get_or os i o
    → RowsGain (ForwardsOperand (take i os)) a b → RowsGain (λ v k. (o.argument ≡ Some v) × (k ≡ i)) b c → RowsGain (ForwardsOperand (take (i + 1) os)) a c
operands_noted a b c os i o h e p q = gained_then _ _ _
    (λ v k (x, t, m). (x, get_more_left os i o x k h e t, m))
    (λ v k (m, n). (o, ap (slice_get (take (i + 1) os)) n ∙ get_more_last os i o h e, m))
    (λ v k (x, t, m). ⊎_elim (λ d. inl (x, d, m)) (λ d. inr (ap (λ (y : Operand). y.argument) d.1 ∙ m, d.0)) (get_more_cases os i o x k h e t))
    a b c p q

module _ (p : DeadProblem) where
  -- the operation with this number is one of the first, and directly in the other
  abbrev pub InsideOf : ℕ → ℕ → ℕ → Type 0
  InsideOf n x i = (i < n) × (around_operation p i ≡ Some x)

  -- the next operation
  pub inside_noted : (a b c : List (List ℕ)) (n : ℕ) (around : Option ℕ) → around ≡ around_operation p n
      → RowsGain (InsideOf n) a b → RowsGain (λ x i. (around ≡ Some x) × (i ≡ n)) b c → RowsGain (InsideOf (n + 1)) a c
  inside_noted a b c n around e s t = gained_then _ _ _
      (λ x i (h, q). (omega (arith, h), q))
      (λ x i (q, m). (omega (arith, m), ap (around_operation p) m ∙ sym e ∙ q))
      (λ x i (h, q). ⊎_elim (λ l. inl (l, q)) (λ m. inr (e ∙ ap (around_operation p) (sym m) ∙ q, m)) (below_or i h))
      a b c s t
    where
      below_or : (i : ℕ) → i < n + 1 → (i < n) ⊎ (i ≡ n)
      below_or i h = grind arith

  inside_below : (x i : ℕ) → around_operation p i ≡ Some x → i < length p.operations
  inside_below x i q = let c = around_there p i x q in slice_get_within p.operations i c.0 c.1

  pub inside_listed : (a b : List (List ℕ)) (n : ℕ) → a ≡ replicate (length p.operations) [] → n ≡ length p.operations → RowsGain (InsideOf n) a b → AreInner p b
  inside_listed a b n e l s = all_listed _ (length p.operations) a b (emptied a (length p.operations) e)
      (gained_as (InsideOf n) _ (λ x i (h, q). q) (λ x i q. (subst (λ m. i < m) (sym l) (inside_below x i q), q)) a b s)

  pub operands_listed : (a b : List (List ℕ)) (os : List Operand) → a ≡ replicate (length p.arguments.items) [] → os ≡ all_operands p.operations → RowsGain (ForwardsOperand os) a b → AreForwardedPlaces p b
  operands_listed a b os e l s = all_listed _ (length p.arguments.items) a b (emptied a (length p.arguments.items) e) (subst (λ xs. RowsGain (ForwardsOperand xs) a b) l s)

  slot_past : (o : Option ℕ) (x : ℕ) → slot_of p o ≡ Some x → (v : ℕ) × (o ≡ Some v) × (x ≡ length p.operations + v)
  slot_past None x e = absurd (none-some x e)
  slot_past (Some v) x e = (v, refl, sym (same_Some (slot p v) x e))

  module _ (ok : IsDeadProblem p) where
    -- the rows that are noted in are there
    argument_within : (q : ValueUse) → IsValueUse p q → (v : ℕ) → q.operand.argument ≡ Some v → v < length p.arguments.items
    argument_within q h v e = ⊎_elim (λ r. ok.forwarded r.0 v q.operand r.2 e) (λ r. absurd (none-some v (sym r.1 ∙ e))) h

    pub forward_within : (k : ℕ) (o : Operand) (v : ℕ) → slice_get (all_operands p.operations) k ≡ Some o → o.argument ≡ Some v → v < length p.arguments.items
    forward_within k o v t e =
        let r = there_forwarded p k o t in
        argument_within r.0 (place_is p k r.0 r.1) v (ap (λ (z : Operand). z.argument) r.2 ∙ e)

    -- an operation excuses its operands
    pub operation_excuses : (x k : ℕ) → x < length p.operations → operands_before p.operations x ≤ k → k < operands_before p.operations (suc x) → IsExcusedBy p x k
    operation_excuses x k h f t = let r = between_user p k x h f t in (r.0, r.1, inl r.2)

    pub excused_operands : (x k : ℕ) → x < length p.operations → IsExcusedBy p x k → (operands_before p.operations x ≤ k) × (k < operands_before p.operations (suc x))
    excused_operands x k h (q, t, e) = ⊎_elim
        (λ u. user_between p k q x t u)
        (λ s. absurd (let r = slot_past q.operand.argument x s in let n = r.2 in omega (arith, h, n)))
        e

    module _ (rows : List (List ℕ)) (f : AreForwardedPlaces p rows) (x v : ℕ) (past : x ≡ length p.operations + v) where
      -- an argument excuses what is forwarded to it
      pub argument_excuses : (k : ℕ) → Contains (row_at rows v) k → IsExcusedBy p x k
      argument_excuses k c =
          let r = f.only v k c in let s = there_forwarded p k r.0 r.1 in
          (s.0, s.1, inr (ap (λ (z : Operand). slot_of p z.argument) s.2 ∙ ap (slot_of p) r.2 ∙ ap Some (sym past)))

      pub excused_forwarded : (k : ℕ) → IsExcusedBy p x k → Contains (row_at rows v) k
      excused_forwarded k (q, t, e) = ⊎_elim
          (λ u. absurd (let n = user_number p ok q (place_is p k q t) x u in omega (arith, n, past)))
          (λ s. let r = slot_past q.operand.argument x s in
          let w : r.0 ≡ v = (let n = r.2 in omega (arith, n, past)) in
          f.has v k (q.operand, forwarded_there p k q r.0 t r.1, r.1 ∙ ap Some w))
          e

      pub forwarded_within : (k : ℕ) → Contains (row_at rows v) k → k < length (all_places p)
      forwarded_within k c = let r = argument_excuses k c in slice_get_within (all_places p) k r.0 r.1

  -- nothing is in an argument
  pub none_inside : (rows : List (List ℕ)) (x : ℕ) → AreInner p rows → length p.operations ≤ x → row_at rows x ≡ []
  none_inside rows x f h = past rows x (let l = f.len in omega (arith, h, l))
    where
      past : (rows : List (List ℕ)) (k : ℕ) → length rows ≤ k → row_at rows k ≡ []
      past [] k h = refl
      past (row ∷ rows) zero h = absurd (omega (arith, h))
      past (row ∷ rows) (suc k) h = past rows k (omega (arith, h))

  pub inner_within : (rows : List (List ℕ)) (x i : ℕ) → AreInner p rows → Contains (row_at rows x) i → i < length p.operations
  inner_within rows x i f c = inside_below x i (f.only x i c)
