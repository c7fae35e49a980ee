-- Arithmetic and comparisons: what they are called, their numbers, and what they give for numbers of 1 to 64 bits.
use Rattle.std.specs.Prelude.{ℕ, zero, suc, ◌+◌, ◌-◌, ◌*◌, ◌/◌, ◌%◌, ◌^◌, Bool, true, false, not, Option, Some, None}
use Rattle.std.specs.Prelude.{List, [], ◌∷◌, codes, nat_eq, nat_lt, nat_le}
use Rattle.kit_ops.specs.declared.arithmetic.Arithmetic.{Arithmetic}
use Rattle.kit_ops.specs.declared.arithmetic.Arithmetic.TheVariants.{Add, Sub, Mul, Div}
use Rattle.kit_ops.specs.declared.arithmetic.Comparison.{Comparison}
use Rattle.kit_ops.specs.declared.arithmetic.Comparison.TheVariants.{Equal, NotEqual, Less, LessOrEqual}
use Rattle.kit_ops.specs.declared.kinds.KitOp.{KitOp}
use Rattle.kit_ops.specs.declared.kinds.KitOp.TheVariants as ops

-- what the operations of arithmetic differ in: their names, and whether they do more than give their results
pub record NameAndEffects : Type 0 where
  pub name : List ℕ
  pub has_effects : Bool

-- a division by zero traps, so no division may be left out
abbrev pub named_arithmetic : Arithmetic → NameAndEffects
named_arithmetic Add = record { name = codes "add"; has_effects = false }
named_arithmetic Sub = record { name = codes "sub"; has_effects = false }
named_arithmetic Mul = record { name = codes "mul"; has_effects = false }
named_arithmetic Div = record { name = codes "div"; has_effects = true }

-- the names of comparisons; `u` says that numbers are compared without a sign
abbrev pub comparison_name : Comparison → List ℕ
comparison_name Equal = codes "eq"
comparison_name NotEqual = codes "ne"
comparison_name Less = codes "ult"
comparison_name LessOrEqual = codes "ule"

-- the operations of two operands, by number: arithmetic and comparisons
abbrev pub operators : List KitOp
operators = ops.Arithmetic Add ∷ ops.Arithmetic Sub ∷ ops.Arithmetic Mul ∷ ops.Arithmetic Div ∷ ops.Comparison Equal
    ∷ ops.Comparison NotEqual ∷ ops.Comparison Less ∷ ops.Comparison LessOrEqual ∷ []

-- their numbers
abbrev pub arithmetic_number : Arithmetic → ℕ
arithmetic_number Add = 0
arithmetic_number Sub = 1
arithmetic_number Mul = 2
arithmetic_number Div = 3

abbrev pub comparison_number : Comparison → ℕ
comparison_number Equal = 4
comparison_number NotEqual = 5
comparison_number Less = 6
comparison_number LessOrEqual = 7

-- the unsigned quotient; a divisor of zero traps
abbrev pub quotient : ℕ → ℕ → Option ℕ
quotient x zero = None
quotient x (suc y) = Some (x / suc y)

-- the result on two numbers of w bits, or none where it traps. All but a quotient are modulo 2 ^ w, so that a negative
-- difference wraps
abbrev pub calc : Arithmetic → ℕ → ℕ → ℕ → Option ℕ
calc Add w x y = Some ((x + y) % 2 ^ w)
calc Sub w x y = Some ((x + (2 ^ w - y % 2 ^ w)) % 2 ^ w)
calc Mul w x y = Some (x * y % 2 ^ w)
calc Div w x y = quotient x y

-- whether the comparison holds of two numbers, which have no sign
abbrev pub compare : Comparison → ℕ → ℕ → Bool
compare Equal x y = nat_eq x y
compare NotEqual x y = not (nat_eq x y)
compare Less x y = nat_lt x y
compare LessOrEqual x y = nat_le x y

-- a truth value as a number of one bit
abbrev pub bit : Bool → ℕ
bit true = 1
bit false = 0
