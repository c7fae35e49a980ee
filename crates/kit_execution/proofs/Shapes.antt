-- The machine executes an operation that has as many results, operands and successors as its form asks for, and goes on.
use Rattle.std.proofs.Common.{◌≡◌, ◌≢◌, ℕ, suc, List, [], ◌∷◌, length, Option, Some, None, slice_get, refl, sym, ap, ◌∙◌, subst, arith}
use Rattle.ir_program.specs.declared.handles.Ptr.{Ptr}
use Rattle.ir_program.specs.declared.handles.Operation.{Operation}
use Rattle.ir_program.specs.declared.handles.BasicBlock.{BasicBlock}
use Rattle.ir_program.specs.declared.handles.Value.{Value}
use Rattle.ir_trees.specs.Searched.{Lists}
use Rattle.kit_ops.specs.declared.arithmetic.Arithmetic.{Arithmetic}
use Rattle.kit_ops.specs.declared.arithmetic.Comparison.{Comparison}
use Rattle.kit_flat.specs.Machine as machine
use Rattle.kit_flat.specs.Machine.{MachineOp, Other}
use Rattle.kit_flat.specs.Forms.{Form, Constant, Calculate, Compare, Emit, Call, Br, CondBr, Return, op_of}
use Rattle.kit_places.specs.Store.{op_if}

-- what the machine sees
abbrev pub KitSeen : Type 0
KitSeen = MachineOp Value (Ptr BasicBlock) (Ptr Operation)

none_of : {X : Type 0} (xs : List X) → length xs ≡ 0 → xs ≡ []
none_of [] h = refl
none_of (x ∷ xs) h = absurd (omega arith)

one_of : {X : Type 0} (xs : List X) → length xs ≡ 1 → (x : X) × (xs ≡ x ∷ [])
one_of [] h = absurd (omega arith)
one_of (x ∷ xs) h = (x, ap (λ l. x ∷ l) (none_of xs (omega (arith, h))))

two_of : {X : Type 0} (xs : List X) → length xs ≡ 2 → (x y : X) × (xs ≡ x ∷ y ∷ [])
two_of [] h = absurd (omega arith)
two_of (x ∷ xs) h = let r = one_of xs (omega (arith, h)) in (x, r.0, ap (λ l. x ∷ l) r.1)

some_of : {X : Type 0} (xs : List X) (n : ℕ) → length xs ≡ suc n → (x : X) × (ys : List X) × (xs ≡ x ∷ ys)
some_of [] n h = absurd (omega arith)
some_of (x ∷ xs) n h = (x, xs, refl)

module _ (Behind : Type 0) (Target : Ptr BasicBlock → Type 0) (Callee : Ptr Operation → Type 0) where
  -- the machine executes the operation, and there is what it goes on with: an operation behind this one, a block that it
  -- leads to, a function that it calls
  abbrev pub GoesOn : KitSeen → Type 0
  GoesOn (machine.Constant r n) = Behind
  GoesOn (machine.Calculate f w r x y) = Behind
  GoesOn (machine.Compare f r x y) = Behind
  GoesOn (machine.Emit x) = Behind
  GoesOn (machine.Call rs None xs) = ⊥
  GoesOn (machine.Call rs (Some g) xs) = Callee g × Behind
  GoesOn (machine.Br e) = Target e.target
  GoesOn (machine.CondBr x e d) = Target e.target × Target d.target
  GoesOn (machine.Return xs) = Unit {0}
  GoesOn Other = ⊥

  pub is_executed : (o : KitSeen) → GoesOn o → o ≢ Other
  is_executed o goes other = subst GoesOn other goes

  module _ (rs xs : List Value) (ds : List (Ptr BasicBlock)) where
    -- so does the operation of a form, with these results, operands and successors
    abbrev pub FormGoesOn : Option (Form (Ptr Operation)) → Type 0
    FormGoesOn form = GoesOn (op_if form rs xs ds)

    seen_as : (form : Option (Form (Ptr Operation))) (f : Form (Ptr Operation)) (zs ys : List Value) (es : List (Ptr BasicBlock)) → form ≡ Some f
        → rs ≡ zs → xs ≡ ys → ds ≡ es → GoesOn (op_of f zs ys es) → FormGoesOn form
    seen_as form f zs ys es is a y e goes =
        let form_is : op_if form rs xs ds ≡ op_if (Some f) rs xs ds = ap (λ (o : Option (Form (Ptr Operation))). op_if o rs xs ds) is in
        let lists_are : op_of f rs xs ds ≡ op_of f zs ys es = λ i. op_of f (a i) (y i) (e i) in
        subst GoesOn (sym (form_is ∙ lists_are)) goes

    module _ (form : Option (Form (Ptr Operation))) where
      pub constant_runs : (n : ℕ) → form ≡ Some (Constant n) → length rs ≡ 1 → length xs ≡ 0 → length ds ≡ 0 → Behind → FormGoesOn form
      constant_runs n is a y e behind =
          let r = one_of rs a in
          seen_as form (Constant n) (r.0 ∷ []) [] [] is r.1 (none_of xs y) (none_of ds e) behind

      pub calculation_runs : (f : Arithmetic) (w : ℕ) → form ≡ Some (Calculate f w) → length rs ≡ 1 → length xs ≡ 2 → length ds ≡ 0 → Behind → FormGoesOn form
      calculation_runs f w is a y e behind =
          let r = one_of rs a in
          let p = two_of xs y in
          seen_as form (Calculate f w) (r.0 ∷ []) (p.0 ∷ p.1 ∷ []) [] is r.1 p.2 (none_of ds e) behind

      pub comparison_runs : (f : Comparison) → form ≡ Some (Compare f) → length rs ≡ 1 → length xs ≡ 2 → length ds ≡ 0 → Behind → FormGoesOn form
      comparison_runs f is a y e behind =
          let r = one_of rs a in
          let p = two_of xs y in
          seen_as form (Compare f) (r.0 ∷ []) (p.0 ∷ p.1 ∷ []) [] is r.1 p.2 (none_of ds e) behind

      pub emission_runs : form ≡ Some Emit → length rs ≡ 0 → length xs ≡ 1 → length ds ≡ 0 → Behind → FormGoesOn form
      emission_runs is a y e behind =
          let p = one_of xs y in
          seen_as form Emit [] (p.0 ∷ []) [] is (none_of rs a) p.1 (none_of ds e) behind

      pub call_runs : (g : Ptr Operation) → form ≡ Some (Call (Some g)) → length ds ≡ 0 → Callee g → Behind → FormGoesOn form
      call_runs g is e callee behind = seen_as form (Call (Some g)) rs xs [] is refl refl (none_of ds e) (callee, behind)

      pub branch_runs : form ≡ Some Br → length rs ≡ 0 → length ds ≡ 1 → ((d : Ptr BasicBlock) → Lists ds d → Target d) → FormGoesOn form
      branch_runs is a e targets =
          let d = one_of ds e in
          seen_as form Br [] xs (d.0 ∷ []) is (none_of rs a) refl d.1 (targets d.0 (0, ap (λ l. slice_get l 0) d.1))

      pub conditional_runs : (n k : ℕ) → form ≡ Some (CondBr n) → length rs ≡ 0 → length xs ≡ suc k → length ds ≡ 2
          → ((d : Ptr BasicBlock) → Lists ds d → Target d) → FormGoesOn form
      conditional_runs n k is a y e targets =
          let d = two_of ds e in
          let p = some_of xs k y in
          seen_as form (CondBr n) [] (p.0 ∷ p.1) (d.0 ∷ d.1 ∷ []) is (none_of rs a) p.2 d.2
          (targets d.0 (0, ap (λ l. slice_get l 0) d.2), targets d.1 (1, ap (λ l. slice_get l 1) d.2))

      pub return_runs : form ≡ Some Return → length rs ≡ 0 → length ds ≡ 0 → FormGoesOn form
      return_runs is a e = seen_as form Return [] xs [] is (none_of rs a) refl (none_of ds e) tt
