-- What the code makes of a form.
use Rattle.std.specs.Prelude.{◌≡◌, ℕ, ◌<◌, ◌≤◌, List, Option, Some, None}
use Rattle.kit_flat.specs.Machine.{Other}
use Rattle.kit_flat.specs.View.{op_view}
use Rattle.kit_flat.specs.Forms.{op_of, form_view}
use Rattle.kit_flat.specs.declared.forming.FlatForm.{FlatForm}
use Rattle.kit_flat.specs.declared.forming.FlatForm.TheVariants as form
use Rattle.kit_flat.specs.declared.flat.Instruction.{Instruction}

-- the instruction is the operation of the form with these results, operands and successors; there is none only if the
-- machine doesn't execute it
abbrev pub IsFormed : FlatForm → List ℕ → List ℕ → List ℕ → Option Instruction → Type 0
IsFormed shape rs xs bs None = op_of (form_view shape) rs xs bs ≡ Other
IsFormed shape rs xs bs (Some x) = op_of (form_view shape) rs xs bs ≡ op_view x

-- a width is at most that of a number, and a callee is one of m functions
abbrev pub FormFits : ℕ → FlatForm → Type 0
FormFits m (form.Constant n) = Unit {0}
FormFits m (form.Calculate f w) = w ≤ 64
FormFits m (form.Compare f) = Unit {0}
FormFits m form.Emit = Unit {0}
FormFits m (form.Call g) = g < m
FormFits m form.Br = Unit {0}
FormFits m (form.CondBr n) = Unit {0}
FormFits m form.Return = Unit {0}
