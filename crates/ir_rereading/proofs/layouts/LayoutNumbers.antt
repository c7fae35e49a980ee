-- The numbers that decimal digits write are read again, and so are all leaves.
use Rattle.std.proofs.Common.{◌≡◌, ℕ, ◌+◌, ◌-◌, ◌*◌, ◌%◌, ◌<◌, ◌≤◌, ◌^◌, ◌==◌, List, [], ◌∷◌, ◌++◌, Bool, true, false, ◌||◌, if◌then◌else◌, arith, refl, ap, sym, ◌∙◌}
use Rattle.std.proofs.lemmas.Fmt.{decimal_by_steps}
use Rattle.std.proofs.lemmas.Bool.{eqb-true}
use Rattle.std.specs.Fmt.{decimal}
use Rattle.ir_names.specs.declared.kinds.Signedness.{Signedness}
use Rattle.ir_names.specs.declared.kinds.Signedness.TheVariants.{Signless, Signed, Unsigned}
use Rattle.ir_print.specs.Layout.{width_text, number_text, escaped, leaf_text}
use Rattle.ir_print.specs.Pieces.{Leaf, name, number, unsigned, width, quoted, mark}
use Rattle.ir_print.specs.Shapes.{sort_of, IsInRange}
use Rattle.ir_formats.proofs.Booleans.{neither_holds}
use Rattle.ir_forest.specs.Meaning.{digits_from, digits, number_in, width_in, unescaped, leaf_in}

digits_append : (xs ys : List ℕ) (v : ℕ) → digits_from v (xs ++ ys) ≡ digits_from (digits_from v xs) ys
digits_append [] ys v = refl
digits_append (x ∷ xs) ys v = digits_append xs ys (10 * v + (x - 48))

-- the first character is no `-` (45)
abbrev BeginsPlain : List ℕ → Type 0
BeginsPlain [] = ⊥
BeginsPlain (c ∷ cs) = 48 ≤ c

begins_append : (xs ys : List ℕ) → BeginsPlain xs → BeginsPlain (xs ++ ys)
begins_append [] ys h = absurd h
begins_append (x ∷ xs) ys h = h

-- the digits write this number
abbrev IsDecimal : ℕ → List ℕ → Type 0
IsDecimal n cs = (digits cs ≡ n) × BeginsPlain cs

decimal_is : (n : ℕ) → n < 2 ^ 64 → IsDecimal n (decimal n)
decimal_is n h = decimal_by_steps IsDecimal
    (λ n h. (omega arith, omega arith))
    (λ n ds h d. (digits_append ds ((48 + n % 10) ∷ []) 0 ∙ (ap (λ z. 10 * z + (48 + n % 10 - 48)) d.0 ∙ omega (arith, h)), begins_append ds ((48 + n % 10) ∷ []) d.1))
    n h

plain_number : (cs : List ℕ) (n : ℕ) → IsDecimal n cs → number_in cs ≡ number false n
plain_number [] n h = absurd h.1
plain_number (c ∷ cs) n h =
    let other : (c == 45) ≡ false = go (c == 45) refl in
    ap (λ (b : Bool). if b then number true (digits cs) else number false (digits (c ∷ cs))) other ∙ ap (number false) h.0
  where
    go : (x : Bool) → (c == 45) ≡ x → (c == 45) ≡ false
    go true e = let same = eqb-true c 45 e in let low : 48 ≤ c = h.1 in absurd (omega (arith, same, low))
    go false e = e

number_again : (negative : Bool) (n : ℕ) → n < 2 ^ 64 → number_in (number_text negative n) ≡ number negative n
number_again true n h = ap (number true) (decimal_is n h).0
number_again false n h = plain_number (decimal n) n (decimal_is n h)

width_again : (sign : Signedness) (n : ℕ) → n < 2 ^ 32 → width_in (width_text sign n) ≡ width sign n
width_again Signless n h = ap (width Signless) (decimal_is n (omega (arith, h))).0
width_again Signed n h = ap (width Signed) (decimal_is n (omega (arith, h))).0
width_again Unsigned n h = ap (width Unsigned) (decimal_is n (omega (arith, h))).0

-- what is escaped is read as it was
unescaped_again : (cs : List ℕ) → unescaped (escaped cs ++ 34 ∷ []) ≡ cs
unescaped_again [] = refl
unescaped_again (c ∷ cs) = go (c == 34 || c == 92) (c == 92) (c == 34) refl refl refl (unescaped_again cs)
  where
    go : (b d e : Bool) → (c == 34 || c == 92) ≡ b → (c == 92) ≡ d → (c == 34) ≡ e → unescaped (escaped cs ++ 34 ∷ []) ≡ cs → unescaped ((if b then 92 ∷ c ∷ escaped cs else c ∷ escaped cs) ++ 34 ∷ []) ≡ c ∷ cs
    go true d e special back front h = ap (λ z. c ∷ z) h
    go false true e special back front h = let wrong : true ≡ false = (sym back ∙ (neither_holds (c == 34) (c == 92) special).1) in cc
    go false false true special back front h = let wrong : true ≡ false = (sym front ∙ (neither_holds (c == 34) (c == 92) special).0) in cc
    go false false false special back front h = rw (back, front) (ap (λ z. c ∷ z) h)

-- what a leaf is spelled as says the leaf
pub leaf_again : (x : Leaf) → IsInRange x → leaf_in (sort_of x) (leaf_text x) ≡ x
leaf_again (name cs) h = refl
leaf_again (number negative magnitude) h = number_again negative magnitude h
leaf_again (unsigned magnitude) h = ap (λ n. unsigned n) (decimal_is magnitude h).0
leaf_again (width sign bits) h = width_again sign bits h
leaf_again (quoted cs) h = ap (λ z. quoted z) (unescaped_again cs)
leaf_again (mark n) h = ap (λ k. mark k) (decimal_is n h).0
