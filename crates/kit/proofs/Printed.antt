-- The number that bits stand for has those bits.
use Rattle.std.proofs.Common.{◌≡◌, ℕ, ◌-◌, ◌%◌, ◌^◌, ◌<◌, Bool, true, false, cond, ap, ◌∙◌, arith}
use Rattle.std.proofs.Math.Nat.{mod-eq_of_lt}
use Rattle.kit_ops.specs.declared.attributes.IntegerAttr.{IntegerAttr}
use Rattle.kit.specs.Numbers.{HasFittingBits, is_below_zero, number_modulo, printed_number}

either : (b : Bool) (p bits : ℕ) → bits < p → cond b ((p - cond b (p - bits) bits) % p) (cond b (p - bits) bits % p) ≡ bits
either true p bits h = let back : p - (p - bits) ≡ bits = omega arith in ap (λ n. n % p) back ∙ mod-eq_of_lt h
either false p bits h = mod-eq_of_lt h

pub printed_modulo : (a : IntegerAttr) → HasFittingBits a → number_modulo a.integer.width (printed_number a) ≡ a.bits
printed_modulo a h = either (is_below_zero a.integer.signedness a.integer.width a.bits) (2 ^ a.integer.width) a.bits h.bits
