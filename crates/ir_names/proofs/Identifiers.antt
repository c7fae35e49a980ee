-- Texts of identifiers, one behind the other.
use Rattle.std.proofs.Common.{◌≡◌, ◌<◌, ℕ, ◌+◌, ◌^◌, ◌%◌, nat_le, nat_eq, ⊎_elim, get_or, length, zero, suc, Bool, true, false, cond, ◌&&◌, ◌||◌, List, [], ◌∷◌, ◌++◌, map, refl, arith, mod-lt}
use Rattle.std.specs.Fmt.{decimal}
use Rattle.std.proofs.lemmas.Fmt.{decimal_by_steps}
use Rattle.std.specs.List.{list_all}
use Rattle.std.proofs.lemmas.Bool.{and_parts, or_cases, eqb-true, leb-true, false≢true, le-leb}
use Rattle.ir_names.specs.Text.{is_first_code, is_later_code, is_identifier, is_digit_code, clean_code, clean_text}

and_true : (a b : Bool) → a ≡ true → b ≡ true → (a && b) ≡ true
and_true true b h k = k
and_true false b h k = absurd (false≢true h)

or_true : (a b : Bool) → a ≡ true → (a || b) ≡ true
or_true true b h = refl
or_true false b h = absurd (false≢true h)

-- what all of both lists pass, all of the joined list pass
pub all_append : {A : Type 0} (f : A → Bool) (xs ys : List A) → list_all f xs ≡ true → list_all f ys ≡ true → list_all f (xs ++ ys) ≡ true
all_append f [] ys h k = k
all_append f (x ∷ xs) ys h k =
    let parts = and_parts (f x) (list_all f xs) h in
    and_true (f x) (list_all f (xs ++ ys)) parts.0 (all_append f xs ys parts.1 k)

-- an identifier with codes behind it that can stand there is one
pub identifier_append : (xs ys : List ℕ) → is_identifier xs ≡ true → list_all is_later_code ys ≡ true → is_identifier (xs ++ ys) ≡ true
identifier_append [] ys h k = absurd (false≢true h)
identifier_append (c ∷ cs) ys h k =
    let parts = and_parts (is_first_code c) (list_all is_later_code cs) h in
    and_true (is_first_code c) (list_all is_later_code (cs ++ ys)) parts.0 (all_append is_later_code cs ys parts.1 k)

-- each code of an identifier can stand behind the first
pub identifier_later : (xs : List ℕ) → is_identifier xs ≡ true → list_all is_later_code xs ≡ true
identifier_later [] h = absurd (false≢true h)
identifier_later (c ∷ cs) h =
    let parts = and_parts (is_first_code c) (list_all is_later_code cs) h in
    and_true (is_later_code c) (list_all is_later_code cs) (or_true (is_first_code c) _ parts.0) parts.1

-- a clean code can stand behind the first
later_clean : (b : Bool) (c : ℕ) → is_later_code c ≡ b → is_later_code (cond b c 95) ≡ true
later_clean true c e = e
later_clean false c e = refl

all_clean : (cs : List ℕ) → list_all is_later_code (map clean_code cs) ≡ true
all_clean [] = refl
all_clean (c ∷ cs) = and_true (is_later_code (clean_code c)) (list_all is_later_code (map clean_code cs)) (later_clean (is_later_code c) c refl) (all_clean cs)

-- where it is no digit, an identifier can begin with it
first_clean : (a b : Bool) (c : ℕ) → is_first_code c ≡ a → is_digit_code c ≡ b → b ≡ false → is_first_code (cond (a || b) c 95) ≡ true
first_clean true b c e d h = e
first_clean false true c e d h = let f : true ≡ false = h in cc
first_clean false false c e d h = refl

clean_from : (b : Bool) (c : ℕ) (cs : List ℕ) → is_digit_code c ≡ b → is_identifier (cond b (95 ∷ []) [] ++ clean_code c ∷ map clean_code cs) ≡ true
clean_from true c cs e = all_clean (c ∷ cs)
clean_from false c cs e = and_true (is_first_code (clean_code c)) (list_all is_later_code (map clean_code cs)) (first_clean (is_first_code c) (is_digit_code c) c refl refl e) (all_clean cs)

-- a clean text is an identifier
pub clean_valid : (cs : List ℕ) → is_identifier (clean_text cs) ≡ true
clean_valid [] = refl
clean_valid (c ∷ cs) = clean_from (is_digit_code c) c cs refl

or_other : (a b : Bool) → b ≡ true → (a || b) ≡ true
or_other true b h = refl
or_other false b h = h

-- a digit can stand behind the first code of an identifier
digit_later : (d : ℕ) → d < 10 → is_later_code (48 + d) ≡ true
digit_later d low = or_other (is_first_code (48 + d)) _ (and_true (nat_le 48 (48 + d)) (nat_le (48 + d) 57) (le-leb 48 (48 + d) (omega arith)) (le-leb (48 + d) 57 (omega (arith, low))))

one_later : (d : ℕ) → d < 10 → list_all is_later_code ((48 + d) ∷ []) ≡ true
one_later d low = and_true (is_later_code (48 + d)) true (digit_later d low) refl

-- and so can the digits of a number
pub decimal_later : (n : ℕ) → n < 2 ^ 64 → list_all is_later_code (decimal n) ≡ true
decimal_later = decimal_by_steps (λ m ds. list_all is_later_code ds ≡ true) one_later (λ m ds l h. all_append is_later_code ds ((48 + m % 10) ∷ []) h (one_later (m % 10) (mod-lt m (omega arith))))

-- ---- each code of an identifier is below 128

range_small : (low c high : ℕ) → high < 128 → (nat_le low c && nat_le c high) ≡ true → c < 128
range_small low c high less h = let le = leb-true c high (and_parts (nat_le low c) (nat_le c high) h).1 in omega (arith, le, less)

first_small : (c : ℕ) → is_first_code c ≡ true → c < 128
first_small c h = ⊎_elim
    (λ a. ⊎_elim (λ b. range_small 97 c 122 (omega arith) b) (λ b. range_small 65 c 90 (omega arith) b) (or_cases (nat_le 97 c && nat_le c 122) (nat_le 65 c && nat_le c 90) a))
    (λ e. let same = eqb-true c 95 e in omega (arith, same))
    (or_cases ((nat_le 97 c && nat_le c 122) || (nat_le 65 c && nat_le c 90)) (nat_eq c 95) h)

later_small : (c : ℕ) → is_later_code c ≡ true → c < 128
later_small c h = ⊎_elim (λ f. first_small c f) (λ d. range_small 48 c 57 (omega arith) d) (or_cases (is_first_code c) (nat_le 48 c && nat_le c 57) h)

all_small : (cs : List ℕ) (i d : ℕ) → list_all is_later_code cs ≡ true → i < length cs → get_or cs i d < 128
all_small [] i d h lt = absurd (omega arith)
all_small (c ∷ cs) zero d h lt = later_small c (and_parts (is_later_code c) (list_all is_later_code cs) h).0
all_small (c ∷ cs) (suc i) d h lt = all_small cs i d (and_parts (is_later_code c) (list_all is_later_code cs) h).1 (omega arith)

pub identifier_small : (cs : List ℕ) (i d : ℕ) → is_identifier cs ≡ true → i < length cs → get_or cs i d < 128
identifier_small cs i d h lt = all_small cs i d (identifier_later cs h) lt
