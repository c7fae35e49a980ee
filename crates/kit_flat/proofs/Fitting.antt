-- The numbers of an operation of a form are in their bounds where those that it is made of are.
use Rattle.std.proofs.Common.{◌≡◌, ℕ, ◌<◌, ◌≤◌, List, [], ◌∷◌, Some, None, subst}
use Rattle.std.proofs.lemmas.List.Elements.{All-head, All-tail, All-take, All-drop}
use Rattle.kit_flat.specs.Machine as machine
use Rattle.kit_flat.specs.Machine.{MachineOp, Other}
use Rattle.kit_flat.specs.declared.flat.Instruction.{Instruction}
use Rattle.kit_flat.specs.declared.flat.Instruction.TheVariants as flat
use Rattle.kit_flat.specs.declared.forming.FlatForm.{FlatForm}
use Rattle.kit_flat.specs.declared.forming.FlatForm.TheVariants as form
use Rattle.kit_flat.specs.View.{op_view}
use Rattle.kit_flat.specs.Sound.{AreBelow, InstructionFits}
use Rattle.kit_flat.specs.Forms.{op_of, form_view}
use Rattle.kit_flat.specs.Formed.{FormFits}
use Rattle.kit_flat.specs.Renames.{TargetsAreInside}

abbrev OpFits : ℕ → ℕ → ℕ → MachineOp ℕ ℕ ℕ → Type 0
OpFits m n b (machine.Constant r k) = (r < n) × Unit {0}
OpFits m n b (machine.Calculate f w r x y) = ((w ≤ 64) × (r < n) × (x < n) × (y < n)) × Unit {0}
OpFits m n b (machine.Compare f r x y) = ((r < n) × (x < n) × (y < n)) × Unit {0}
OpFits m n b (machine.Emit x) = (x < n) × Unit {0}
OpFits m n b (machine.Call rs None xs) = Unit {0}
OpFits m n b (machine.Call rs (Some g) xs) = (AreBelow n rs × AreBelow n xs × (g < m)) × Unit {0}
OpFits m n b (machine.Br e) = AreBelow n e.operands × (e.target < b)
OpFits m n b (machine.CondBr x e d) = ((x < n) × AreBelow n e.operands × AreBelow n d.operands)
    × ((e.target < b) × (d.target < b))
OpFits m n b (machine.Return xs) = AreBelow n xs × Unit {0}
OpFits m n b Other = Unit {0}

module _ (m n b : ℕ) where
  abbrev N : ℕ → Type 0
  N i = i < n

  op_fits : (s : FlatForm) → FormFits m s → (rs xs bs : List ℕ) → AreBelow n rs → AreBelow n xs → AreBelow b bs
      → OpFits m n b (op_of (form_view s) rs xs bs)
  op_fits (form.Constant k) f (r ∷ []) [] [] h l t = (All-head N r [] h, tt)
  op_fits (form.Calculate a w) f (r ∷ []) (x ∷ y ∷ []) [] h l t =
      ((f, All-head N r [] h, All-head N x (y ∷ []) l, All-head N y [] (All-tail N x (y ∷ []) l)), tt)
  op_fits (form.Compare a) f (r ∷ []) (x ∷ y ∷ []) [] h l t =
      ((All-head N r [] h, All-head N x (y ∷ []) l, All-head N y [] (All-tail N x (y ∷ []) l)), tt)
  op_fits form.Emit f [] (x ∷ []) [] h l t = (All-head N x [] l, tt)
  op_fits (form.Call g) f rs xs [] h l t = ((h, l, f), tt)
  op_fits form.Br f [] xs (d ∷ []) h l t = (l, All-head (λ i. i < b) d [] t)
  op_fits (form.CondBr k) f [] (x ∷ xs) (d ∷ e ∷ []) h l t = (
    (All-head N x xs l, All-take N k xs (All-tail N x xs l), All-drop N k xs (All-tail N x xs l)),
    (All-head (λ i. i < b) d (e ∷ []) t, All-head (λ i. i < b) e [] (All-tail (λ i. i < b) d (e ∷ []) t)),
  )
  op_fits form.Return f [] xs [] h l t = (l, tt)
  op_fits s f rs xs bs h l t = tt

  both : (x : Instruction) → OpFits m n b (op_view x) → InstructionFits m n x × TargetsAreInside b x
  both (flat.Constant r k) h = h
  both (flat.Calculate f w r x y) h = h
  both (flat.Compare f r x y) h = h
  both (flat.Emit x) h = h
  both (flat.Call rs g xs) h = h
  both (flat.Br e) h = h
  both (flat.CondBr x e d) h = h
  both (flat.Return xs) h = h

  pub formed_fits : (s : FlatForm) → FormFits m s → (rs xs bs : List ℕ) → AreBelow n rs → AreBelow n xs
      → AreBelow b bs → (x : Instruction) → op_of (form_view s) rs xs bs ≡ op_view x → InstructionFits m n x
      × TargetsAreInside b x
  formed_fits s f rs xs bs h l t x e = both x (subst (OpFits m n b) e (op_fits s f rs xs bs h l t))
