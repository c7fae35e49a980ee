-- What operations are to the machine, by what they have besides their values and blocks.
use Rattle.std.specs.Prelude.{ℕ, List, [], ◌∷◌, take, drop, Option, Some, option_map}
use Rattle.kit_ops.specs.declared.arithmetic.Arithmetic.{Arithmetic}
use Rattle.kit_ops.specs.declared.arithmetic.Comparison.{Comparison}
use Rattle.kit_flat.specs.Machine as machine
use Rattle.kit_flat.specs.Machine.{MachineOp, Other}
use Rattle.kit_flat.specs.declared.forming.FlatForm.{FlatForm}
use Rattle.kit_flat.specs.declared.forming.FlatForm.TheVariants as flat

-- the kind of an operation, with a constant's number, the width of arithmetic, a callee, and how many operands behind
-- the condition are forwarded along the
-- first of two edges
pub data Form (F : Type 0) : Type 0 where
  Constant : (n : ℕ) → Form F
  Calculate : (f : Arithmetic) (w : ℕ) → Form F
  Compare : (f : Comparison) → Form F
  Emit : Form F
  Call : (callee : Option F) → Form F
  Br : Form F
  CondBr : (count : ℕ) → Form F
  Return : Form F

-- the operation of a form with these results, operands and successors. The machine executes it only if it has as many
-- as its form asks for
abbrev pub op_of : {V B F : Type 0} → Form F → List V → List V → List B → MachineOp V B F
op_of (Constant n) (r ∷ []) [] [] = machine.Constant r n
op_of (Calculate f w) (r ∷ []) (x ∷ y ∷ []) [] = machine.Calculate f w r x y
op_of (Compare f) (r ∷ []) (x ∷ y ∷ []) [] = machine.Compare f r x y
op_of Emit [] (x ∷ []) [] = machine.Emit x
op_of (Call callee) rs xs [] = machine.Call rs callee xs
op_of Br [] xs (b ∷ []) = machine.Br (record { target = b; operands = xs })
op_of (CondBr n) [] (x ∷ xs) (b ∷ d ∷ []) = machine.CondBr x (record { target = b; operands = take n xs })
    (record { target = d; operands = drop n xs })
op_of Return [] xs [] = machine.Return xs
op_of _ _ _ _ = Other

-- a form with another name of its callee
abbrev pub rename_form : {F G : Type 0} → (F → G) → Form F → Form G
rename_form h (Constant n) = Constant n
rename_form h (Calculate f w) = Calculate f w
rename_form h (Compare f) = Compare f
rename_form h Emit = Emit
rename_form h (Call callee) = Call (option_map h callee)
rename_form h Br = Br
rename_form h (CondBr n) = CondBr n
rename_form h Return = Return

-- what a form in the code is
abbrev pub form_view : FlatForm → Form ℕ
form_view (flat.Constant n) = Constant n
form_view (flat.Calculate f w) = Calculate f w
form_view (flat.Compare f) = Compare f
form_view flat.Emit = Emit
form_view (flat.Call callee) = Call (Some callee)
form_view flat.Br = Br
form_view (flat.CondBr n) = CondBr n
form_view flat.Return = Return
