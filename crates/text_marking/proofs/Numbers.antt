-- The number that digits write.
use Rattle.std.proofs.Common.{◌≡◌, ℕ, ◌+◌, ◌-◌, ◌*◌, ◌^◌, ◌<◌, ◌≤◌, List, length, take, slice_index, true, arith, refl, ap, ◌∙◌, None, Some}
use Rattle.std.proofs.lemmas.List.{take_all}
use Rattle.std.proofs.lemmas.Bool.{le-ltb, lt-ltb}
use Rattle.std.proofs.lemmas.Bool.Decides.{nat_tests}
use Rattle.std.proofs.lemmas.Str.{digit_value_digit}
use Rattle.std.proofs.lemmas.Str.Parse.{digits_value-take-le}
use Rattle.std.proofs.lemmas.Int.Digits.{digits_value_more}
use Rattle.std.specs.Str.Parse.{digits_value}
use Rattle.ir_tokens.specs.Tokens.{is_digit}
use Rattle.text_marking.specs.Marks.{number_in_64_bits}

-- a digit is between `0` and `9`
pub digit_low : (c : ℕ) → is_digit c ≡ true → 48 ≤ c
digit_low c d = grind (arith, nat_tests)

pub digit_high : (c : ℕ) → is_digit c ≡ true → c ≤ 57
digit_high c d = grind (arith, nat_tests)

-- one digit more
pub value_more : (ds : List ℕ) (i : ℕ) → i < length ds → is_digit (slice_index ds i) ≡ true
    → digits_value 10 (take (i + 1) ds) ≡ digits_value 10 (take i ds) * 10 + (slice_index ds i - 48)
value_more ds i inside digit =
    let value = digit_value_digit (slice_index ds i) (digit_low _ digit, digit_high _ digit) in
    let more = digits_value_more 10 ds i inside in
    omega arith

-- digits of which some first ones write 2^64 or more have no number
pub too_large : (ds : List ℕ) (i : ℕ) → (digits_value 10 (take i ds) < 2 ^ 64 → ⊥) → number_in_64_bits ds ≡ None
too_large ds i large =
    let front = digits_value-take-le 10 ds i (omega arith) in
    let past : 2 ^ 64 ≤ digits_value 10 ds = omega arith in
    rw (le-ltb (digits_value 10 ds) (2 ^ 64) past) refl

-- the same where ten times the number of some digits is as large
pub too_large_times : (ds : List ℕ) (i n : ℕ) → n ≡ digits_value 10 (take i ds) → i < length ds → is_digit (slice_index ds i) ≡ true
    → (n * 10 < 2 ^ 64 → ⊥) → number_in_64_bits ds ≡ None
too_large_times ds i n is inside digit large =
    let more = value_more ds i inside digit in
    too_large ds (i + 1) (omega arith)

-- and where it is with the next digit
pub too_large_more : (ds : List ℕ) (i n : ℕ) → n ≡ digits_value 10 (take i ds) → i < length ds → is_digit (slice_index ds i) ≡ true
    → (n * 10 + (slice_index ds i - 48) < 2 ^ 64 → ⊥) → number_in_64_bits ds ≡ None
too_large_more ds i n is inside digit large =
    let more = value_more ds i inside digit in
    too_large ds (i + 1) (omega arith)

-- digits that write less have one
pub small_enough : (ds : List ℕ) (i n : ℕ) → n ≡ digits_value 10 (take i ds) → length ds ≤ i → n < 2 ^ 64 → number_in_64_bits ds ≡ Some n
small_enough ds i n is all small =
    let whole : take i ds ≡ ds = take_all i ds all in
    let value : n ≡ digits_value 10 ds = is ∙ ap (digits_value 10) whole in
    let below : digits_value 10 ds < 2 ^ 64 = omega arith in
    rw (lt-ltb (digits_value 10 ds) (2 ^ 64) below, value) refl
