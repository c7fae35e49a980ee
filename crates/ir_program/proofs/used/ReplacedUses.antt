-- Another in place of what is used at each of several uses, one after another.
use Rattle.std.proofs.Common.{◌≡◌, ◌≢◌, ℕ, zero, suc, ◌+◌, ◌<◌, ◌≤◌, Bool, true, false, eqb, ◌&&◌, ◌||◌, List, [], ◌∷◌, ◌++◌, length, Option, Some, None, option_map, unwrap_or, slice_get, slice_set, ⊎_elim, refl, sym, ap, ◌∙◌, subst, arith}
use Rattle.std.proofs.lemmas.Bool.{eqb-true, eq-eqb, or_right, cases_Bool}
use Rattle.std.proofs.lemmas.Option.{slice_get_within}
use Rattle.ir_arena.specs.declared.arena.Key.{Key}
use Rattle.ir_arena.specs.Arena.{same}
use Rattle.ir_program.specs.Program.{Program, OperationView, operation_at}
use Rattle.ir_program.specs.Edits.{EditsOperation, EditsOperations}
use Rattle.ir_program.specs.Replacing.{with_chosen}
use Rattle.ir_program.specs.Uses.{IsUseIn}
use Rattle.ir_program.specs.Among.{same_place, is_among}
use Rattle.ir_program.specs.declared.handles.Ptr.{Ptr}
use Rattle.ir_program.specs.declared.handles.Operation.{Operation}
use Rattle.ir_program.specs.declared.handles.Use.{Use}
use Rattle.ir_program.proofs.made.Lent.{same_key}
use Rattle.ir_program.proofs.made.Frames.{same_handle, same_or_not}
use Rattle.ir_program.proofs.made.AddSteps.{kept-erased, erased-then}

both : (a b : Bool) → a ≡ true → b ≡ true → (a && b) ≡ true
both true b e f = f
both false b e f = e

left : (a b : Bool) → (a && b) ≡ true → a ≡ true
left true b e = refl
left false b e = e

right : (a b : Bool) → (a && b) ≡ true → b ≡ true
right true b e = e
right false b e = cc

keys-same : (p q : Key) → p ≡ q → same p q ≡ true
keys-same p q e = both (eqb p.slot q.slot) (eqb p.version q.version) (eq-eqb p.slot q.slot (ap (λ (k : Key). k.slot) e)) (eq-eqb p.version q.version (ap (λ (k : Key). k.version) e))

same-keys : (p q : Key) → same p q ≡ true → p ≡ q
same-keys p q e = same_key p q (eqb-true p.slot q.slot (left (eqb p.slot q.slot) (eqb p.version q.version) e)) (eqb-true p.version q.version (right (eqb p.slot q.slot) (eqb p.version q.version) e))

module _ {K : Type 0} where
  pub place-here : (u w : Use K) → u.user_op ≡ w.user_op → u.index ≡ w.index → same_place u w ≡ true
  place-here u w p i = both (same u.user_op.key w.user_op.key) (eqb u.index w.index) (keys-same u.user_op.key w.user_op.key (ap (λ (h : Ptr Operation). h.key) p)) (eq-eqb u.index w.index i)

  pub place-is : (u w : Use K) → same_place u w ≡ true → (u.user_op ≡ w.user_op) × (u.index ≡ w.index)
  place-is u w e = (
    same_handle u.user_op w.user_op (same-keys u.user_op.key w.user_op.key (left (same u.user_op.key w.user_op.key) (eqb u.index w.index) e)),
    eqb-true u.index w.index (right (same u.user_op.key w.user_op.key) (eqb u.index w.index) e),
  )

  pub place-apart : (u w : Use K) → (u.user_op ≡ w.user_op → u.index ≡ w.index → ⊥) → same_place u w ≡ false
  place-apart u w ne = ⊎_elim (λ (t : same_place u w ≡ true). absurd (ne (place-is u w t).0 (place-is u w t).1)) (λ (f : same_place u w ≡ false). f) (cases_Bool (same_place u w))

  pub among-new : (us : List (Use K)) (w u : Use K) → same_place u w ≡ true → is_among (us ++ w ∷ []) u ≡ true
  among-new [] w u e = rw e refl
  among-new (x ∷ us) w u e = or_right (same_place u x) (is_among (us ++ w ∷ []) u) (among-new us w u e)

  pub among-old : (us : List (Use K)) (w u : Use K) → same_place u w ≡ false → is_among (us ++ w ∷ []) u ≡ is_among us u
  among-old [] w u e = rw e refl
  among-old (x ∷ us) w u e = ap (λ b. same_place u x || b) (among-old us w u e)

  chosen-none : (chosen : Use K → Bool) (other : K) (p : Ptr Operation) (k : ℕ) (xs : List K) → ((u : Use K) → chosen u ≡ false) → with_chosen chosen other p k xs ≡ xs
  chosen-none chosen other p k [] none = refl
  chosen-none chosen other p k (x ∷ xs) none =
      let first : chosen (record { user_op = p; index = k; def = x }) ≡ false = none (record { user_op = p; index = k; def = x }) in
      let rest : with_chosen chosen other p (suc k) xs ≡ xs = chosen-none chosen other p (suc k) xs none in
      rw (first, rest) refl

  length-chosen : (chosen : Use K → Bool) (other : K) (p : Ptr Operation) (k : ℕ) (xs : List K) → length (with_chosen chosen other p k xs) ≡ length xs
  length-chosen chosen other p k [] = refl
  length-chosen chosen other p k (x ∷ xs) = ap suc (length-chosen chosen other p (suc k) xs)

  agree : (one two : Use K → Bool) (other : K) (p : Ptr Operation) (k : ℕ) (xs : List K)
      → ((j : ℕ) (y : K) → k ≤ j → one (record { user_op = p; index = j; def = y }) ≡ two (record { user_op = p; index = j; def = y }))
      → with_chosen one other p k xs ≡ with_chosen two other p k xs
  agree one two other p k [] h = refl
  agree one two other p k (x ∷ xs) h =
      let first : one (record { user_op = p; index = k; def = x }) ≡ two (record { user_op = p; index = k; def = x }) = h k x (omega arith) in
      let rest : with_chosen one other p (suc k) xs ≡ with_chosen two other p (suc k) xs = agree one two other p (suc k) xs (λ j y le. h j y (omega (arith, le))) in
      rw (first, rest) refl

  set-chosen : (one two : Use K → Bool) (other : K) (p : Ptr Operation) (k i m : ℕ) (row : List K) (x : K) → m ≡ k + i → slice_get row i ≡ Some x
      → ((y : K) → two (record { user_op = p; index = m; def = y }) ≡ true)
      → ((j : ℕ) (y : K) → j ≢ m → one (record { user_op = p; index = j; def = y }) ≡ two (record { user_op = p; index = j; def = y }))
      → slice_set (with_chosen one other p k row) i other ≡ with_chosen two other p k row
  set-chosen one two other p k i m [] x is here there alike = cc
  set-chosen one two other p k zero m (y ∷ row) x is here there alike =
      let at : m ≡ k = omega (arith, is) in
      let first : two (record { user_op = p; index = k; def = y }) ≡ true = subst (λ (n : ℕ). two (record { user_op = p; index = n; def = y }) ≡ true) at (there y) in
      let rest : with_chosen one other p (suc k) row ≡ with_chosen two other p (suc k) row = agree one two other p (suc k) row (λ j z le. alike j z (λ (e : j ≡ m). omega (arith, le, e, at))) in
      rw (first, rest) refl
  set-chosen one two other p k (suc i) m (y ∷ row) x is here there alike =
      let first : one (record { user_op = p; index = k; def = y }) ≡ two (record { user_op = p; index = k; def = y }) = alike k y (λ (e : k ≡ m). omega (arith, is, e)) in
      let rest : slice_set (with_chosen one other p (suc k) row) i other ≡ with_chosen two other p (suc k) row = set-chosen one two other p (suc k) i m row x (omega (arith, is)) here there alike in
      rw (first, rest) refl

-- operands, or successors: the row of an operation, and the operation with another row
module _ {O K : Type 0} (row : OperationView O → List K) (with_row : OperationView O → List K → OperationView O)
    (read : (o : OperationView O) (xs : List K) → row (with_row o xs) ≡ xs)
    (again : (o : OperationView O) (xs ys : List K) → with_row (with_row o xs) ys ≡ with_row o ys)
    (own : (o : OperationView O) → with_row o (row o) ≡ o)
    (other : K) where
  -- the operation with the other in place of what is used at the chosen uses
  abbrev with_other : (Use K → Bool) → Ptr Operation → OperationView O → OperationView O
  with_other chosen p o = with_row o (with_chosen chosen other p 0 (row o))

  module _ {B : Type 0} where
    abbrev rows_of : Program O B → Ptr Operation → List K
    rows_of c p = unwrap_or (option_map row (operation_at c p)) []

    pub edits-none : (c : Program O B) (chosen : Use K → Bool) → ((u : Use K) → chosen u ≡ false) → EditsOperations c c (with_other chosen)
    edits-none c chosen none = record { edited = λ q. by q (operation_at c q); blocks = λ q. refl; regions = λ q. refl; erased = kept-erased c }
      where
        by : (q : Ptr Operation) (x : Option (OperationView O)) → x ≡ option_map (with_other chosen q) x
        by q None = refl
        by q (Some o) = ap Some (sym (ap (with_row o) (chosen-none chosen other q 0 (row o) none) ∙ own o))

    -- each of the uses still has its index in its row
    pub edits-within : (a b : Program O B) (chosen : Use K → Bool) (w : Use K) → IsUseIn (rows_of a) w → EditsOperations a b (with_other chosen) → w.index < length (rows_of b w.user_op)
    edits-within a b chosen w stands edits = subst (λ (x : Option (OperationView O)). w.index < length (unwrap_or (option_map row x) [])) (sym (edits.edited w.user_op)) (by (operation_at a w.user_op) stands)
      where
        by : (x : Option (OperationView O)) → slice_get (unwrap_or (option_map row x) []) w.index ≡ Some w.def → w.index < length (unwrap_or (option_map row (option_map (with_other chosen w.user_op) x)) [])
        by None h = cc
        by (Some o) h = subst (λ n. w.index < n) (sym (ap length (read o (with_chosen chosen other w.user_op 0 (row o))) ∙ length-chosen chosen other w.user_op 0 (row o))) (slice_get_within (row o) w.index w.def h)

    pub edits-next : (a b c : Program O B) (us : List (Use K)) (w : Use K) → IsUseIn (rows_of a) w → EditsOperations a b (with_other (is_among us))
        → EditsOperation b c w.user_op (λ o. with_row o (slice_set (row o) w.index other)) → EditsOperations a c (with_other (is_among (us ++ w ∷ [])))
    edits-next a b c us w stands first second = record {
      edited = λ q. ⊎_elim
          (λ (e : q ≡ w.user_op). subst (λ (p : Ptr Operation). operation_at c p ≡ option_map (with_other (is_among (us ++ w ∷ [])) p) (operation_at a p)) (sym e)
          (second.edited ∙ ap (option_map (λ o. with_row o (slice_set (row o) w.index other))) (first.edited w.user_op) ∙ here (operation_at a w.user_op) stands))
          (λ (ne : q ≢ w.user_op). second.others q ne ∙ first.edited q ∙ elsewhere q ne (operation_at a q))
          (same_or_not q w.user_op);
      blocks = λ q. second.blocks q ∙ first.blocks q;
      regions = λ q. second.regions q ∙ first.regions q;
      erased = erased-then a b c first.erased second.erased;
    }
      where
        here : (x : Option (OperationView O)) → slice_get (unwrap_or (option_map row x) []) w.index ≡ Some w.def
            → option_map (λ o. with_row o (slice_set (row o) w.index other)) (option_map (with_other (is_among us) w.user_op) x) ≡ option_map (with_other (is_among (us ++ w ∷ [])) w.user_op) x
        here None h = refl
        here (Some o) h = ap Some (
            ap (λ xs. with_row (with_row o (with_chosen (is_among us) other w.user_op 0 (row o))) (slice_set xs w.index other)) (read o (with_chosen (is_among us) other w.user_op 0 (row o)))
            ∙ again o (with_chosen (is_among us) other w.user_op 0 (row o)) _
            ∙ ap (with_row o) (set-chosen (is_among us) (is_among (us ++ w ∷ [])) other w.user_op 0 w.index w.index (row o) w.def (omega arith) h
            (λ y. among-new us w (record { user_op = w.user_op; index = w.index; def = y }) (place-here (record { user_op = w.user_op; index = w.index; def = y }) w refl refl))
            (λ j y ne. sym (among-old us w (record { user_op = w.user_op; index = j; def = y }) (place-apart (record { user_op = w.user_op; index = j; def = y }) w (λ p i. ne i))))))

        elsewhere : (q : Ptr Operation) → q ≢ w.user_op → (x : Option (OperationView O)) → option_map (with_other (is_among us) q) x ≡ option_map (with_other (is_among (us ++ w ∷ [])) q) x
        elsewhere q ne None = refl
        elsewhere q ne (Some o) = ap Some (ap (with_row o) (agree (is_among us) (is_among (us ++ w ∷ [])) other q 0 (row o)
            (λ j y le. sym (among-old us w (record { user_op = q; index = j; def = y }) (place-apart (record { user_op = q; index = j; def = y }) w (λ p i. ne p))))))
