-- Names of values and blocks as they are printed.
use Rattle.std.proofs.Common.{◌≡◌, ℕ, ◌+◌, ◌<◌, ◌^◌, Bool, true, false, ◌&&◌, nat_le, List, [], ◌∷◌, ◌++◌, Option, Some, None, refl, sym, ap, subst, ◌∙◌, arith}
use Rattle.std.specs.Prelude.{codes}
use Rattle.std.specs.Char.{digit_value}
use Rattle.std.specs.List.{list_all}
use Rattle.std.specs.Fmt.{decimal}
use Rattle.std.specs.Str.Parse.{AllDigits, digits_value}
use Rattle.std.proofs.lemmas.Bool.Decides.{nat_tests}
use Rattle.std.proofs.lemmas.Fmt.{decimal_injective, decimal_is_IsNumeral, decimal_is_IsNumeral_wide}
use Rattle.std.proofs.lemmas.List.{append_assoc, append_cancel_right}
use Rattle.ir_names.specs.declared.identifier.Identifier.{Identifier}
use Rattle.ir_names.specs.Identifier.{text_of}
use Rattle.ir_names.specs.Text.{is_first_code, is_later_code, is_identifier}
use Rattle.ir_print.specs.Printed.{value_name, label_front, block_name}
use Rattle.ir_formats.proofs.Booleans.{both_hold}

-- ---- digits

abbrev pub is_digit_code : ℕ → Bool
is_digit_code c = nat_le 48 c && nat_le c 57

digit_is : (c : ℕ) → digit_value c < 10 → is_digit_code c ≡ true
digit_is c h = grind (arith, nat_tests)

digit_later : (c : ℕ) → is_digit_code c ≡ true → is_later_code c ≡ true
digit_later c h = grind (arith, nat_tests)

all_digits : (ds : List ℕ) → AllDigits 10 ds → list_all is_digit_code ds ≡ true
all_digits [] h = refl
all_digits (c ∷ cs) h = rw (digit_is c h.0) (all_digits cs h.1)

pub decimal_all : (n : ℕ) → n < 2 ^ 64 → list_all is_digit_code (decimal n) ≡ true
decimal_all n h = all_digits (decimal n) (decimal_is_IsNumeral n h).0.1

-- the same of a slot that is counted from 1
slot_all : (slot : ℕ) → slot < 2 ^ 64 → list_all is_digit_code (decimal (slot + 1)) ≡ true
slot_all slot h = all_digits (decimal (slot + 1)) (decimal_is_IsNumeral_wide (slot + 1) (omega (arith, h))).0.1

slot_injective : (slot other : ℕ) → slot < 2 ^ 64 → other < 2 ^ 64 → decimal (slot + 1) ≡ decimal (other + 1) → slot ≡ other
slot_injective slot other h k e =
    let one : slot + 1 ≡ other + 1 =
    sym (decimal_is_IsNumeral_wide (slot + 1) (omega (arith, h))).1 ∙ ap (digits_value 10) e ∙ (decimal_is_IsNumeral_wide (other + 1) (omega (arith, k))).1 in
    omega (arith, one)

later_digits : (ds : List ℕ) → list_all is_digit_code ds ≡ true → list_all is_later_code ds ≡ true
later_digits [] h = refl
later_digits (c ∷ cs) h = let b = both_hold (is_digit_code c) (list_all is_digit_code cs) h in rw (digit_later c b.0) (later_digits cs b.1)

decimal_later : (n : ℕ) → n < 2 ^ 64 → list_all is_later_code (decimal n) ≡ true
decimal_later n h = later_digits (decimal n) (decimal_all n h)

-- ---- identifiers

later_append : (xs ys : List ℕ) → list_all is_later_code xs ≡ true → list_all is_later_code ys ≡ true → list_all is_later_code (xs ++ ys) ≡ true
later_append [] ys h k = k
later_append (c ∷ cs) ys h k = let b = both_hold (is_later_code c) (list_all is_later_code cs) h in rw b.0 (later_append cs ys b.1 k)

identifier_append : (xs ys : List ℕ) → is_identifier xs ≡ true → list_all is_later_code ys ≡ true → is_identifier (xs ++ ys) ≡ true
identifier_append [] ys h k = absurd (let t : false ≡ true = h in cc)
identifier_append (c ∷ cs) ys h k = let b = both_hold (is_first_code c) (list_all is_later_code cs) h in rw b.0 (later_append cs ys b.1 k)

pub value_name_identifier : (n : ℕ) → n < 2 ^ 64 → is_identifier (value_name n) ≡ true
value_name_identifier n h = decimal_later n h

-- the number of a block with its version
abbrev own_name : ℕ → ℕ → List ℕ
own_name slot version = codes "block" ++ (decimal (slot + 1) ++ (codes "v" ++ decimal version))

own_later : (slot version : ℕ) → slot < 2 ^ 64 → version < 2 ^ 64 → list_all is_later_code (decimal (slot + 1) ++ (codes "v" ++ decimal version)) ≡ true
own_later slot version h k = later_append (decimal (slot + 1)) (codes "v" ++ decimal version) (later_digits (decimal (slot + 1)) (slot_all slot h)) (decimal_later version k)

pub block_name_identifier : (given : Option Identifier) (slot version : ℕ) → slot < 2 ^ 64 → version < 2 ^ 64 → is_identifier (block_name (label_front given) slot version) ≡ true
block_name_identifier None slot version h k = own_later slot version h k
block_name_identifier (Some id) slot version h k =
    subst (λ cs. is_identifier cs ≡ true) (sym (append_assoc (text_of id) (codes "_") (own_name slot version)))
    (identifier_append (text_of id) (codes "_" ++ own_name slot version) id.valid (own_later slot version h k))

-- ---- names of different values and blocks differ

pub value_name_injective : (n m : ℕ) → n < 2 ^ 64 → m < 2 ^ 64 → value_name n ≡ value_name m → n ≡ m
value_name_injective n m h k e = decimal_injective n m h k (let tails : decimal n ≡ decimal m = cc in tails)

tail_of : {x y : ℕ} {xs ys : List ℕ} → x ∷ xs ≡ y ∷ ys → xs ≡ ys
tail_of e = cc

no_k : (xs ds : List ℕ) → list_all is_digit_code (xs ++ 107 ∷ ds) ≡ true → ⊥
no_k [] ds h = let t : false ≡ true = h in cc
no_k (x ∷ xs) ds h = no_k xs ds (both_hold (is_digit_code x) (list_all is_digit_code (xs ++ 107 ∷ ds)) h).1

-- what stands after the last `k`
after_k : (xs ys ds es : List ℕ) → list_all is_digit_code ds ≡ true → list_all is_digit_code es ≡ true → xs ++ 107 ∷ ds ≡ ys ++ 107 ∷ es → ds ≡ es
after_k [] [] ds es d e h = tail_of h
after_k [] (y ∷ ys) ds es d e h = absurd (no_k ys es (subst (λ zs. list_all is_digit_code zs ≡ true) (tail_of h) d))
after_k (x ∷ xs) [] ds es d e h = absurd (no_k xs ds (subst (λ zs. list_all is_digit_code zs ≡ true) (sym (tail_of h)) e))
after_k (x ∷ xs) (y ∷ ys) ds es d e h = after_k xs ys ds es d e (tail_of h)

name_split : (front : List ℕ) (slot version : ℕ) → block_name front slot version ≡ ((front ++ codes "bloc") ++ 107 ∷ decimal (slot + 1)) ++ (codes "v" ++ decimal version)
name_split front slot version =
    sym (append_assoc (front ++ codes "bloc") (107 ∷ decimal (slot + 1)) (codes "v" ++ decimal version)
    ∙ append_assoc front (codes "bloc") (107 ∷ (decimal (slot + 1) ++ (codes "v" ++ decimal version))))

-- with one version, blocks of one name are in one slot
pub block_name_injective : (front back : List ℕ) (slot other version : ℕ) → slot < 2 ^ 64 → other < 2 ^ 64 → block_name front slot version ≡ block_name back other version → slot ≡ other
block_name_injective front back slot other version h k e =
    let fronts : (front ++ codes "bloc") ++ 107 ∷ decimal (slot + 1) ≡ (back ++ codes "bloc") ++ 107 ∷ decimal (other + 1) =
    append_cancel_right _ _ (codes "v" ++ decimal version) (sym (name_split front slot version) ∙ e ∙ name_split back other version) in
    slot_injective slot other h k
    (after_k (front ++ codes "bloc") (back ++ codes "bloc") (decimal (slot + 1)) (decimal (other + 1)) (slot_all slot h) (slot_all other k) fronts)
