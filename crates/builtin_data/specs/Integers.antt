-- The bits of integers, and the numbers that they are printed as.
use Rattle.std.specs.Prelude.{ℕ, ℤ, pos, ◌-ℤ◌, ◌*◌, ◌^◌, ◌<◌, ◌≤◌, Bool, true, false, ◌&&◌, cond, nat_le, nat_lt}
use Rattle.ir_names.specs.declared.kinds.Signedness.{Signedness}
use Rattle.ir_names.specs.declared.kinds.Signedness.TheVariants.{Signless, Signed, Unsigned}
use Rattle.builtin_data.specs.declared.types.IntegerType.{IntegerType}

-- numbers of the type have 1 to 64 bits, and these are the bits of one
pub record HasBits (t : IntegerType) (bits : ℕ) : Type 0 where
  pub least : 1 ≤ t.width
  pub most : t.width ≤ 64
  pub below : bits < 2 ^ t.width

-- numbers of so many bits are printed with a sign: signed ones, and signless ones of more than one bit
abbrev pub is_printed_signed : Signedness → ℕ → Bool
is_printed_signed Signed width = true
is_printed_signed Signless width = nat_lt 1 width
is_printed_signed Unsigned width = false

-- the number is printed with a minus: it is printed with a sign, and the highest bit is set
abbrev pub is_printed_below_zero : Signedness → ℕ → ℕ → Bool
is_printed_below_zero s width bits = is_printed_signed s width && nat_le (2 ^ width) (2 * bits)

-- the number that so many bits are printed as: in two's complement where the highest one stands for a sign
abbrev pub printed_number : Signedness → ℕ → ℕ → ℤ
printed_number s width bits = cond (is_printed_below_zero s width bits) (pos bits -ℤ pos (2 ^ width)) (pos bits)
