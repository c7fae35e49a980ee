-- Kinds by their names.
use Rattle.std.specs.Prelude.{ℕ, List, [], ◌∷◌, Option, Some, None, if◌then◌else◌}
use Rattle.std.specs.Str.{bytes_eq}
use Rattle.kit_ops.specs.declared.kinds.KitOp.{KitOp}
use Rattle.kit_ops.specs.declared.kinds.KitOp.TheVariants as ops
use Rattle.kit_ops.specs.Arithmetic.{operators}
use Rattle.kit_ops.specs.Table.{row_of}

-- the first of the kinds that has this name
abbrev pub first_named : {K : Type 0} → (K → List ℕ) → List K → List ℕ → Option K
first_named name [] text = None
first_named name (k ∷ ks) text = if bytes_eq (name k) text then Some k else first_named name ks text

-- all kinds of operations
abbrev pub all_kinds : List KitOp
all_kinds = ops.Module ∷ ops.Func ∷ ops.Constant ∷ ops.ForwardRef ∷ ops.Br ∷ ops.CondBr ∷ ops.Call ∷ ops.Emit ∷ ops.Return
    ∷ operators

-- the kind of operations with a name
abbrev pub kind_named : List ℕ → Option KitOp
kind_named = first_named (λ k. (row_of k).name) all_kinds
