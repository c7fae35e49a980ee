-- Numbers below a power of two.
use Rattle.std.proofs.Common.{◌≡◌, ℕ, ◌<◌, ◌≤◌, ◌+◌, ◌*◌, ◌/◌, ◌^◌, subst, arith}
use Rattle.std.proofs.Math.Nat.{one-le-pow, pow-le-pow_right, lt-mul-div-succ}

pub wide_fits : (bits width : ℕ) → bits < 2 ^ 64 → 64 ≤ width → bits < 2 ^ width
wide_fits bits width small wide =
    let two : 0 < 2 = omega arith in
    let grows : 2 ^ 64 ≤ 2 ^ width = pow-le-pow_right {n = 2} two {i = 64} {j = width} wide in
    omega (arith, small, grows)

pub shift_fits : (bits width : ℕ) → bits / 2 ^ width ≡ 0 → bits < 2 ^ width
shift_fits bits width none =
    let two : 0 < 2 = omega arith in
    let one : 1 ≤ 2 ^ width = one-le-pow width 2 two in
    let some : 0 < 2 ^ width = omega (arith, one) in
    let below : bits < 2 ^ width * (bits / 2 ^ width + 1) = lt-mul-div-succ bits {b = 2 ^ width} some in
    let there : bits < 2 ^ width * (0 + 1) = subst (λ q. bits < 2 ^ width * (q + 1)) none below in
    omega (arith, there)
