-- Numbers modulo powers of two: of 64 bits, and then of fewer.
use Rattle.std.proofs.Common.{◌≡◌, ℕ, ◌+◌, ◌-◌, ◌%◌, ◌^◌, ◌≤◌, ap, sym, ◌∙◌, arith}
use Rattle.std.proofs.Math.Pow.{mod-mod-pow}

pub reduced_twice : (n w : ℕ) → w ≤ 64 → n % 2 ^ 64 % 2 ^ w ≡ n % 2 ^ w
reduced_twice n w h =
    let e : 64 - w + w ≡ 64 = omega arith in
    ap (λ k. n % 2 ^ k % 2 ^ w) (sym e) ∙ mod-mod-pow n (64 - w) w
