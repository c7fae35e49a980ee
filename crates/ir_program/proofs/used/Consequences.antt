-- What follows of uses where all uses of one are uses of another.
use Rattle.std.proofs.Common.{◌≡◌, ◌≢◌, ℕ, zero, suc, ◌+◌, ◌⊎◌, inl, inr, ⊎_elim, Bool, cond, List, [], ◌∷◌, ◌++◌, map, length, Option, Some, None, option_map, unwrap_or, slice_get, refl, sym, ap, ◌∙◌, subst, arith}
use Rattle.std.proofs.lemmas.List.{length-append, length-map}
use Rattle.std.proofs.lemmas.Option.{slice_get-map, same_Some}
use Rattle.ir_program.specs.Edits.{EditsOperations}
use Rattle.ir_program.specs.Program.{Program, OperationView, operation_at}
use Rattle.ir_program.specs.Replacing.{replacing, retargeting, same_value, same_block}
use Rattle.ir_program.specs.Rows.{operands_at, successors_at}
use Rattle.ir_program.specs.Uses.{IsUseIn, AreUsesIn, IsUseCountIn, IsUsed, IsUseCount, HasPredecessor, IsPredecessorCount}
use Rattle.ir_program.specs.declared.handles.Ptr.{Ptr}
use Rattle.ir_program.specs.declared.handles.Operation.{Operation}
use Rattle.ir_program.specs.declared.handles.BasicBlock.{BasicBlock}
use Rattle.ir_program.specs.declared.handles.Use.{Use}
use Rattle.ir_program.specs.declared.handles.Value.{Value}
use Rattle.ir_program.proofs.used.NamedUses.{from_map, same_use}
use Rattle.ir_program.proofs.used.Renames.{IsTestOf}
use Rattle.ir_program.proofs.used.Renaming.{value-test, block-test}

-- what stands in one list behind another
get_append : {X : Type 0} (xs ys : List X) (i : ℕ) (s : X) → slice_get (xs ++ ys) i ≡ Some s → (slice_get xs i ≡ Some s) ⊎ ((j : ℕ) × (i ≡ length xs + j) × (slice_get ys j ≡ Some s))
get_append [] ys i s h = inr (i, omega arith, h)
get_append (x ∷ xs) ys zero s h = inl h
get_append (x ∷ xs) ys (suc i) s h = elim (get_append xs ys i s h) [ inl e ↦ inl e | inr e ↦ inr (e.0, omega (arith, e.1), e.2) ]

get_left : {X : Type 0} (xs ys : List X) (i : ℕ) (x : X) → slice_get xs i ≡ Some x → slice_get (xs ++ ys) i ≡ Some x
get_left [] ys i x h = cc
get_left (y ∷ xs) ys zero x h = h
get_left (y ∷ xs) ys (suc i) x h = get_left xs ys i x h

get_right : {X : Type 0} (xs ys : List X) (i : ℕ) (x : X) → slice_get ys i ≡ Some x → (j : ℕ) × (slice_get (xs ++ ys) j ≡ Some x)
get_right [] ys i x h = (i, h)
get_right (y ∷ xs) ys i x h = let more = get_right xs ys i x h in (suc more.0, more.1)

-- the same use, of another
abbrev pub of_other : {K : Type 0} → K → Use K → Use K
of_other x u = record { user_op = u.user_op; index = u.index; def = x }

-- rows in which `to` stands in place of each `from`
module _ {K : Type 0} (same : K → K → Bool) (test : IsTestOf same) (from to : K) (ne : from ≢ to)
    (rows new : Ptr Operation → List K) (are : (p : Ptr Operation) → new p ≡ map (λ x. cond (same x from) to x) (rows p)) where
  abbrev put : K → K
  put x = cond (same x from) to x

  -- what stood where something stands now
  stood : (u : Use K) → IsUseIn new u → (x : K) × (slice_get (rows u.user_op) u.index ≡ Some x) × (put x ≡ u.def)
  stood u given = from_map put (rows u.user_op) u.index u.def (ap (λ xs. slice_get xs u.index) (sym (are u.user_op)) ∙ given)

  put-from : put from ≡ to
  put-from = ap (λ b. cond b to from) (test.yes from from refl)

  put-other : (x : K) → x ≢ from → put x ≡ x
  put-other x n = ap (λ b. cond b to x) (test.no x from n)

  stands : (u : Use K) (x : K) → slice_get (rows u.user_op) u.index ≡ Some x → slice_get (new u.user_op) u.index ≡ Some (put x)
  stands u x e = ap (λ xs. slice_get xs u.index) (are u.user_op) ∙ slice_get-map put (rows u.user_op) u.index ∙ ap (option_map put) e

  pub none-left : (u : Use K) → IsUseIn new u → u.def ≡ from → ⊥
  none-left u given is =
      let was = stood u given in
      ⊎_elim
      (λ (e : was.0 ≡ from). ne (sym is ∙ sym was.2 ∙ ap put e ∙ put-from))
      (λ (n : was.0 ≢ from). n (sym (put-other was.0 n) ∙ was.2 ∙ is))
      (test.decide was.0 from)

  -- no place holds both
  apart : (u v : Use K) → IsUseIn rows u → u.def ≡ from → IsUseIn rows v → v.def ≡ to → of_other to u ≡ v → ⊥
  apart u v given is other too e =
      let user : u.user_op ≡ v.user_op = ap (λ (x : Use K). x.user_op) e in
      let index : u.index ≡ v.index = ap (λ (x : Use K). x.index) e in
      ne (same_Some from to (ap Some (sym is) ∙ sym given ∙ ap (λ p. slice_get (rows p) u.index) user ∙ ap (slice_get (rows v.user_op)) index ∙ other ∙ ap Some too))

  module _ (us vs : List (Use K)) (mine : AreUsesIn rows from us) (theirs : AreUsesIn rows to vs) where
    abbrev moved : List (Use K)
    moved = map (of_other to) us

    one_moved : (i j : ℕ) (u : Use K) → slice_get moved i ≡ Some u → slice_get moved j ≡ Some u → i ≡ j
    one_moved i j u e f =
        let a = from_map (of_other to) us i u e in
        let b = from_map (of_other to) us j u f in
        let same_one : a.0 ≡ b.0 = same_use a.0 b.0 (ap (λ (x : Use K). x.user_op) (a.2 ∙ sym b.2)) (ap (λ (x : Use K). x.index) (a.2 ∙ sym b.2)) ((mine.sound i a.0 a.1).1 ∙ sym (mine.sound j b.0 b.1).1) in
        mine.once i j a.0 a.1 (b.1 ∙ ap Some (sym same_one))

    not_both : (i j : ℕ) (u : Use K) → slice_get moved i ≡ Some u → slice_get vs j ≡ Some u → ⊥
    not_both i j u e f =
        let a = from_map (of_other to) us i u e in
        let x = mine.sound i a.0 a.1 in
        let y = theirs.sound j u f in
        apart a.0 u x.0 x.1 y.0 y.1 a.2

    moved-stands : (i : ℕ) (u : Use K) → slice_get moved i ≡ Some u → IsUseIn new u × (u.def ≡ to)
    moved-stands i u e =
        let a = from_map (of_other to) us i u e in
        let x = mine.sound i a.0 a.1 in
        subst (λ z. IsUseIn new z × (z.def ≡ to)) a.2 (stands a.0 from (x.0 ∙ ap Some x.1) ∙ ap Some put-from, refl)

    other-stands : (j : ℕ) (u : Use K) → slice_get vs j ≡ Some u → IsUseIn new u × (u.def ≡ to)
    other-stands j u e =
        let y = theirs.sound j u e in
        (stands u to (y.0 ∙ ap Some y.1) ∙ ap Some (put-other to (λ h. ne (sym h))) ∙ ap Some (sym y.1), y.1)

    pub uses-joined : AreUsesIn new to (moved ++ vs)
    uses-joined = record {
      once = λ i j u e f. ⊎_elim
          (λ a. ⊎_elim (λ b. one_moved i j u a b) (λ b. absurd (not_both i b.0 u a b.2)) (get_append moved vs j u f))
          (λ a. ⊎_elim (λ b. absurd (not_both j a.0 u b a.2)) (λ b. a.1 ∙ ap (λ n. length moved + n) (theirs.once a.0 b.0 u a.2 b.2) ∙ sym b.1) (get_append moved vs j u f))
          (get_append moved vs i u e);
      sound = λ i u e. ⊎_elim (λ a. moved-stands i u a) (λ b. other-stands b.0 u b.2) (get_append moved vs i u e);
      all = λ u given is.
          let was = stood u given in
          ⊎_elim
          (λ (e : was.0 ≡ from).
          let at = mine.all (of_other from u) (was.1 ∙ ap Some e) refl in
          (at.0, get_left moved vs at.0 u (slice_get-map (of_other to) us at.0 ∙ ap (option_map (of_other to)) at.1 ∙ ap Some (same_use (of_other to u) u refl refl (sym is)))))
          (λ (n : was.0 ≢ from).
          let at = theirs.all u (was.1 ∙ ap Some (sym (put-other was.0 n) ∙ was.2)) is in
          get_right moved vs at.0 u at.1)
          (test.decide was.0 from);
    }

  pub counts-joined : (m n : ℕ) → IsUseCountIn rows from m → IsUseCountIn rows to n → IsUseCountIn new to (m + n)
  counts-joined m n (us, mine, is) (vs, theirs, too) =
      (map (of_other to) us ++ vs, uses-joined us vs mine theirs, length-append (map (of_other to) us) vs ∙ ap (λ k. k + length vs) (length-map us (of_other to) ∙ is) ∙ ap (λ k. m + k) too)

module _ {O B : Type 0} (c d : Program O B) where
  module _ (value other : Value) (edits : EditsOperations c d (λ _ o. record o { operands = map (replacing value other) o.operands })) (ne : value ≢ other) where
    all-operands : (p : Ptr Operation) → operands_at d p ≡ map (replacing value other) (operands_at c p)
    all-operands p = ap (λ x. unwrap_or (option_map (λ (w : OperationView O). w.operands) x) []) (edits.edited p) ∙ by (operation_at c p)
      where
        by : (x : Option (OperationView O)) → unwrap_or (option_map (λ (w : OperationView O). w.operands) (option_map (λ (w : OperationView O). record w { operands = map (replacing value other) w.operands }) x)) [] ≡ map (replacing value other) (unwrap_or (option_map (λ (w : OperationView O). w.operands) x) [])
        by None = refl
        by (Some w) = refl

    pub value-unused : IsUsed d value → ⊥
    value-unused (p, o, e, k, f) = none-left same_value value-test value other ne (operands_at c) (operands_at d) all-operands (record { user_op = p; index = k; def = value })
        (ap (λ x. slice_get (unwrap_or (option_map (λ (w : OperationView O). w.operands) x) []) k) e ∙ f) refl

    pub value-counts : (m n : ℕ) → IsUseCount c value m → IsUseCount c other n → IsUseCount d other (m + n)
    value-counts = counts-joined same_value value-test value other ne (operands_at c) (operands_at d) all-operands

  module _ (block other : Ptr BasicBlock) (edits : EditsOperations c d (λ _ o. record o { successors = map (retargeting block other) o.successors })) (ne : block ≢ other) where
    all-successors : (p : Ptr Operation) → successors_at d p ≡ map (retargeting block other) (successors_at c p)
    all-successors p = ap (λ x. unwrap_or (option_map (λ (w : OperationView O). w.successors) x) []) (edits.edited p) ∙ by (operation_at c p)
      where
        by : (x : Option (OperationView O)) → unwrap_or (option_map (λ (w : OperationView O). w.successors) (option_map (λ (w : OperationView O). record w { successors = map (retargeting block other) w.successors }) x)) [] ≡ map (retargeting block other) (unwrap_or (option_map (λ (w : OperationView O). w.successors) x) [])
        by None = refl
        by (Some w) = refl

    pub block-unused : HasPredecessor d block → ⊥
    block-unused (u, given, is) = none-left same_block block-test block other ne (successors_at c) (successors_at d) all-successors u given is

    pub block-counts : (m n : ℕ) → IsPredecessorCount c block m → IsPredecessorCount c other n → IsPredecessorCount d other (m + n)
    block-counts = counts-joined same_block block-test block other ne (successors_at c) (successors_at d) all-successors
