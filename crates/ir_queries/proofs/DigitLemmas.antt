-- The digits of numbers.
use Rattle.std.proofs.Common.{◌≡◌, ℕ, ◌<◌, ◌+◌, ◌*◌, ◌-◌, ◌%◌, ◌^◌, Bool, true, false, ◌&&◌, ◌||◌, nat_le, List, [], ◌∷◌, ◌++◌, refl, sym, ap, ◌∙◌, arith, decimal}
use Rattle.std.proofs.Math.Nat.{mod-lt}
use Rattle.std.proofs.lemmas.Bool.{le-leb}
use Rattle.std.proofs.lemmas.Fmt.{decimal_by_steps_wide}
use Rattle.std.specs.List.{list_all}
use Rattle.ir_names.specs.Text.{is_first_code, is_later_code}
use Rattle.ir_names.proofs.Identifiers.{all_append}

-- the number that digits write, behind those of `so_far`
number_after : ℕ → List ℕ → ℕ
number_after so_far [] = so_far
number_after so_far (d ∷ ds) = number_after (so_far * 10 + (d - 48)) ds

one_more : (so_far d : ℕ) (ds : List ℕ) → number_after so_far (ds ++ d ∷ []) ≡ number_after so_far ds * 10 + (d - 48)
unfolding number_after
one_more so_far d [] = refl
one_more so_far d (e ∷ ds) = one_more (so_far * 10 + (e - 48)) d ds

-- a number is that which its digits write
read_back : (n : ℕ) → n < 10 ^ 64 → number_after 0 (decimal n) ≡ n
unfolding number_after
read_back = decimal_by_steps_wide (λ m ds. number_after 0 ds ≡ m) (λ m low. omega arith) (λ m ds high read. one_more 0 (48 + m % 10) ds ∙ omega (arith, read))

-- so different numbers have different digits
pub decimal_same : (m n : ℕ) → m < 10 ^ 64 → n < 10 ^ 64 → decimal m ≡ decimal n → m ≡ n
decimal_same m n m-low n-low same = sym (read_back m m-low) ∙ ap (number_after 0) same ∙ read_back n n-low

-- each number of 64 bits, and the next, is below this
pub low_enough : (n : ℕ) → n < 2 ^ 64 → n < 10 ^ 64
low_enough n low = omega (arith, low)

pub next_low : (n : ℕ) → n < 2 ^ 64 → n + 1 < 10 ^ 64
next_low n low = omega (arith, low)

both : (a b : Bool) → a ≡ true → b ≡ true → (a && b) ≡ true
both true b h k = k
both false b h k = cc

other : (a b : Bool) → b ≡ true → (a || b) ≡ true
other true b h = refl
other false b h = h

digit_later : (d : ℕ) → d < 10 → is_later_code (48 + d) ≡ true
digit_later d low = other (is_first_code (48 + d)) _ (both (nat_le 48 (48 + d)) (nat_le (48 + d) 57) (le-leb 48 (48 + d) (omega arith)) (le-leb (48 + d) 57 (omega (arith, low))))

one_later : (d : ℕ) → d < 10 → list_all is_later_code ((48 + d) ∷ []) ≡ true
one_later d low = both (is_later_code (48 + d)) true (digit_later d low) refl

-- the digits of a number can stand behind the first code of an identifier
pub digits_later : (n : ℕ) → n < 10 ^ 64 → list_all is_later_code (decimal n) ≡ true
digits_later = decimal_by_steps_wide (λ m ds. list_all is_later_code ds ≡ true) one_later (λ m ds l h. all_append is_later_code ds ((48 + m % 10) ∷ []) h (one_later (m % 10) (mod-lt m (omega arith))))

pub wide_later : (n : ℕ) → n < 2 ^ 128 → list_all is_later_code (decimal n) ≡ true
wide_later n fits = digits_later n (omega (arith, fits))
