-- What holds of each arithmetic and of each comparison, kind by kind; proofs elsewhere go by these.
use Rattle.std.proofs.Common.{◌≡◌, ℕ, zero, suc, ◌+◌, ◌-◌, ◌*◌, ◌/◌, ◌%◌, ◌^◌, ◌<◌, ◌≤◌, true, false, Option, Some, None}
use Rattle.std.proofs.Common.{refl, ap, sym, subst, ◌∙◌, arith}
use Rattle.std.specs.Prelude.{slice_get}
use Rattle.std.proofs.lemmas.Bool.{false≢true}
use Rattle.std.proofs.lemmas.Nat.{pow_pos}
use Rattle.std.proofs.Math.Nat.{mod-lt, mod-add-mod, mod-add-div', mod-eq_of_lt, add-mod_right, add-mul-mod_self_right, div-le_self}
use Rattle.kit_ops.proofs.Widths.{reduced_twice}
use Rattle.kit_ops.specs.Arithmetic.{named_arithmetic, operators, arithmetic_number, comparison_number}
use Rattle.kit_ops.specs.Arithmetic.{quotient, calc}
use Rattle.kit_ops.specs.Named.{kind_named}
use Rattle.kit_ops.specs.Table.{row_of}
use Rattle.kit_ops.specs.declared.arithmetic.Arithmetic.{Arithmetic}
use Rattle.kit_ops.specs.declared.arithmetic.Arithmetic.TheVariants.{Add, Sub, Mul, Div}
use Rattle.kit_ops.specs.declared.arithmetic.Comparison.{Comparison}
use Rattle.kit_ops.specs.declared.arithmetic.Comparison.TheVariants.{Equal, NotEqual, Less, LessOrEqual}
use Rattle.kit_ops.specs.declared.kinds.KitOp.{KitOp}
use Rattle.kit_ops.specs.declared.kinds.KitOp.TheVariants as ops
use Rattle.kit_ops.specs.contracts.arithmetic.ArithmeticPartialEq.TheImpl as of_arithmetic
use Rattle.kit_ops.specs.contracts.arithmetic.ComparisonPartialEq.TheImpl as of_comparisons

-- ---- what compares equal is the same

pub same_arithmetic : (x y : Arithmetic) → of_arithmetic.eq-value.it x y ≡ true → x ≡ y
same_arithmetic Add Add e = refl
same_arithmetic Sub Sub e = refl
same_arithmetic Mul Mul e = refl
same_arithmetic Div Div e = refl
same_arithmetic x y e = absurd (false≢true e)

pub same_comparison : (x y : Comparison) → of_comparisons.eq-value.it x y ≡ true → x ≡ y
same_comparison Equal Equal e = refl
same_comparison NotEqual NotEqual e = refl
same_comparison Less Less e = refl
same_comparison LessOrEqual LessOrEqual e = refl
same_comparison x y e = absurd (false≢true e)

-- ---- names

-- each kind is found by its name
pub found : (k : KitOp) → kind_named (row_of k).name ≡ Some k
found ops.Module = refl
found ops.Func = refl
found ops.Constant = refl
found ops.ForwardRef = refl
found (ops.Arithmetic Add) = refl
found (ops.Arithmetic Sub) = refl
found (ops.Arithmetic Mul) = refl
found (ops.Arithmetic Div) = refl
found (ops.Comparison Equal) = refl
found (ops.Comparison NotEqual) = refl
found (ops.Comparison Less) = refl
found (ops.Comparison LessOrEqual) = refl
found ops.Br = refl
found ops.CondBr = refl
found ops.Call = refl
found ops.Emit = refl
found ops.Return = refl

-- ---- numbers

pub arithmetic_at : (a : Arithmetic) → slice_get operators (arithmetic_number a) ≡ Some (ops.Arithmetic a)
arithmetic_at Add = refl
arithmetic_at Sub = refl
arithmetic_at Mul = refl
arithmetic_at Div = refl

pub comparison_at : (c : Comparison) → slice_get operators (comparison_number c) ≡ Some (ops.Comparison c)
comparison_at Equal = refl
comparison_at NotEqual = refl
comparison_at Less = refl
comparison_at LessOrEqual = refl

-- the number of an arithmetic or a comparison
abbrev pub operator_number : KitOp → Option ℕ
operator_number (ops.Arithmetic a) = Some (arithmetic_number a)
operator_number (ops.Comparison c) = Some (comparison_number c)
operator_number _ = None

is_operator : (x kind : KitOp) → Some x ≡ Some kind → operator_number kind ≡ operator_number x
is_operator x kind e = let same : kind ≡ x = cc in ap operator_number same

pub numbered : (n : ℕ) (kind : KitOp) → slice_get operators n ≡ Some kind → operator_number kind ≡ Some n
numbered zero kind e = is_operator (ops.Arithmetic Add) kind e
numbered (suc zero) kind e = is_operator (ops.Arithmetic Sub) kind e
numbered (suc (suc zero)) kind e = is_operator (ops.Arithmetic Mul) kind e
numbered (suc (suc (suc zero))) kind e = is_operator (ops.Arithmetic Div) kind e
numbered (suc (suc (suc (suc zero)))) kind e = is_operator (ops.Comparison Equal) kind e
numbered (suc (suc (suc (suc (suc zero))))) kind e = is_operator (ops.Comparison NotEqual) kind e
numbered (suc (suc (suc (suc (suc (suc zero)))))) kind e = is_operator (ops.Comparison Less) kind e
numbered (suc (suc (suc (suc (suc (suc (suc zero))))))) kind e = is_operator (ops.Comparison LessOrEqual) kind e
numbered (suc (suc (suc (suc (suc (suc (suc (suc n)))))))) kind e = cc

-- ---- results

-- the quotient is no greater than what is divided
quotient_below : (x y m n : ℕ) → x < m → quotient x y ≡ Some n → n < m
quotient_below x zero m n h e = absurd (cc e)
quotient_below x (suc y) m n h e =
    let is : x / suc y ≡ n = cc e in
    let few = div-le_self x (suc y) in
    omega (arith, h, is, few)

remainder_below : (x w n : ℕ) → Some (x % 2 ^ w) ≡ Some n → n < 2 ^ w
remainder_below x w n e = let is : x % 2 ^ w ≡ n = cc e in subst (λ k. k < 2 ^ w) is (mod-lt x (pow_pos w))

-- the result on numbers of w bits is one of w bits
pub calc_below : (a : Arithmetic) (w x y n : ℕ) → x < 2 ^ w → calc a w x y ≡ Some n → n < 2 ^ w
calc_below Add w x y n h e = remainder_below (x + y) w n e
calc_below Sub w x y n h e = remainder_below (x + (2 ^ w - y % 2 ^ w)) w n e
calc_below Mul w x y n h e = remainder_below (x * y) w n e
calc_below Div w x y n h e = quotient_below x y (2 ^ w) n h e

-- an operation without effects has a result
pub calc_total : (a : Arithmetic) (w x y : ℕ) → (named_arithmetic a).has_effects ≡ false →
    (n : ℕ) × (calc a w x y ≡ Some n)
calc_total Add w x y h = ((x + y) % 2 ^ w, refl)
calc_total Sub w x y h = ((x + (2 ^ w - y % 2 ^ w)) % 2 ^ w, refl)
calc_total Mul w x y h = (x * y % 2 ^ w, refl)
calc_total Div w x y h = absurd (cc h)

-- ---- differences

-- what is left of a sum, less one part, is the other part
sum_less : (r y m : ℕ) → zero < m → (r + y + (m - y % m)) % m ≡ r % m
sum_less r y m h =
    let l = mod-lt y h in
    let d = mod-add-div' y m in
    let e : r + y + (m - y % m) ≡ r + suc (y / m) * m = omega (arith, d, l) in
    ap (λ n. n % m) e ∙ add-mul-mod_self_right r (suc (y / m)) m

-- the difference r of x and y, modulo 2 ^ 64, and then modulo a smaller power
wraps : (x y r w : ℕ) → w ≤ 64 → (r + y) % 2 ^ 64 ≡ x → r % 2 ^ w ≡ (x + (2 ^ w - y % 2 ^ w)) % 2 ^ w
wraps x y r w h e =
    let k = 2 ^ w - y % 2 ^ w in
    let a : x % 2 ^ w ≡ (r + y) % 2 ^ w = ap (λ n. n % 2 ^ w) (sym e) ∙ reduced_twice (r + y) w h in
    sym (sum_less r y (2 ^ w) (pow_pos w))
    ∙ sym (mod-add-mod (r + y) (2 ^ w) k)
    ∙ ap (λ n. (n + k) % 2 ^ w) (sym a)
    ∙ mod-add-mod x (2 ^ w) k

undone : (x y : ℕ) → x < 2 ^ 64 → y < 2 ^ 64 → ((x + (2 ^ 64 - y)) % 2 ^ 64 + y) % 2 ^ 64 ≡ x
undone x y h k =
    let e : x + (2 ^ 64 - y) + y ≡ x + 2 ^ 64 = omega arith in
    mod-add-mod (x + (2 ^ 64 - y)) (2 ^ 64) y ∙ ap (λ n. n % 2 ^ 64) e ∙ add-mod_right x (2 ^ 64) ∙ mod-eq_of_lt h

-- a difference modulo 2 ^ 64, and then modulo a smaller power, is that modulo the smaller power
pub difference_reduced : (x y w : ℕ) → w ≤ 64 → x < 2 ^ 64 → y < 2 ^ 64 →
    (x + (2 ^ 64 - y)) % 2 ^ 64 % 2 ^ w ≡ (x + (2 ^ w - y % 2 ^ w)) % 2 ^ w
difference_reduced x y w h k l = wraps x y ((x + (2 ^ 64 - y)) % 2 ^ 64) w h (undone x y k l)
