-- Which numbers an integer type has, and the bits that stand for them.
use Rattle.std.specs.Prelude.{ℕ, ◌-◌, ◌*◌, ◌%◌, ◌^◌, ◌<◌, ◌≤◌, Bool, true, false, ◌&&◌, cond, nat_le, nat_lt}
use Rattle.ir_names.specs.declared.kinds.Signedness.{Signedness}
use Rattle.ir_names.specs.declared.kinds.Signedness.TheVariants.{Signless, Signed, Unsigned}
use Rattle.ir_print.specs.declared.format.Number.{Number}
use Rattle.kit_ops.specs.declared.types.IntegerType.{IntegerType}
use Rattle.kit_ops.specs.declared.attributes.IntegerAttr.{IntegerAttr}
use Rattle.kit_ops.specs.declared.attributes.KitAttr.{KitAttr}
use Rattle.kit_ops.specs.declared.attributes.KitAttr.TheVariants as attrs

-- the type has values: its numbers have 1 to 64 bits
pub record HasValues (t : IntegerType) : Type 0 where
  pub least : 1 ≤ t.width
  pub most : t.width ≤ 64

-- the number is one from -(2^(width - 1)) to 2^width - 1
abbrev pub IsInRange : ℕ → Number → Type 0
IsInRange w n = cond n.is_negative (2 * n.magnitude ≤ 2 ^ w) (n.magnitude < 2 ^ w)

-- the number is one of the type
pub record IsNumberOfType (t : IntegerType) (n : Number) : Type 0 where
  pub values : HasValues t
  pub range : IsInRange t.width n

-- the number modulo 2^width, where it is in range
abbrev pub number_modulo : ℕ → Number → ℕ
number_modulo w n = cond n.is_negative ((2 ^ w - n.magnitude) % 2 ^ w) (n.magnitude % 2 ^ w)

-- numbers of so many bits are printed with a sign: signed ones, and signless ones of more than one bit
abbrev pub is_signed : Signedness → ℕ → Bool
is_signed Signed w = true
is_signed Signless w = nat_lt 1 w
is_signed Unsigned w = false

-- the bits are those of a number of the type
pub record HasFittingBits (a : IntegerAttr) : Type 0 where
  pub values : HasValues a.integer
  pub bits : a.bits < 2 ^ a.integer.width

-- the highest of so many bits is set, and stands for a sign
abbrev pub is_below_zero : Signedness → ℕ → ℕ → Bool
is_below_zero s w bits = is_signed s w && nat_le (2 ^ w) (2 * bits)

-- the number that so many bits stand for
abbrev pub number_of_bits : Signedness → ℕ → ℕ → Number
number_of_bits s w bits = record { is_negative = is_below_zero s w bits; magnitude = cond (is_below_zero s w bits) (2 ^ w - bits) bits }

-- the number that an attribute's bits stand for
abbrev pub printed_number : IntegerAttr → Number
printed_number a = number_of_bits a.integer.signedness a.integer.width a.bits

-- the attribute is an integer with bits of its type
abbrev pub IsFittingInteger : KitAttr → Type 0
IsFittingInteger (attrs.Integer a) = HasFittingBits a
IsFittingInteger _ = ⊥
