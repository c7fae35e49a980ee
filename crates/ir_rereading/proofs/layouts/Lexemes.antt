-- Characters with their tokens one after the other, and those tokens at their places.
use Rattle.std.proofs.Common.{◌≡◌, ◌≢◌, ℕ, zero, suc, ◌+◌, ◌-◌, ◌<◌, ◌≤◌, Bool, true, false, not, ◌&&◌, ◌||◌, ◌==◌, List, [], ◌∷◌, ◌++◌, length, map, take, drop, slice_index, slice_range, refl, sym, ap, ◌∙◌, subst, arith, codes, nat_le, if◌then◌else◌}
use Rattle.std.specs.Char.{is_whitespace}
use Rattle.std.specs.List.{list_all}
use Rattle.std.specs.Str.{IsAscii}
use Rattle.std.proofs.lemmas.List.{append_assoc, get_or-append-add, length-append, drop-drop}
use Rattle.std.proofs.Math.Seq.{drop-append_seam, take-append_seam}
use Rattle.std.proofs.lemmas.Str.{IsAscii-append}
use Rattle.std.proofs.lemmas.Str.Ascii.{IsAscii-nil, IsAscii-cons}
use Rattle.std.proofs.Math.ListN.{get_or-append}
use Rattle.std.proofs.lemmas.Bool.{eqb-false}
use Rattle.std.proofs.lemmas.Bool.Decides.{nat_tests}
use Rattle.ir_tokens.specs.declared.tokens.TokenKind.{TokenKind}
use Rattle.ir_tokens.specs.declared.tokens.TokenKind.TheVariants as kinds
use Rattle.ir_tokens.specs.declared.tokens.Token as place
use Rattle.ir_tokens.specs.Tokens.{is_letter, is_digit, is_name_char, is_sign, AreAllOfKind, IsName, AreDigits, ClosesText, IsInMemory, Spells, NoLonger, ReadsAs}
use Rattle.ir_formats.specs.Words as words
use Rattle.ir_rereading.proofs.layouts.Marks.{kind_of_text, has_dot, behind_minus, other_kind}
use Rattle.ir_print.specs.Layout.{escaped, in_quotes}
use Rattle.ir_tokens.specs.Tokens.ClosesText.{closing, plain, escaped as escaped_text}
use Rattle.ir_tokens.proofs.TokenLongest.{text_longest, name_longest, dotted_longest, digits_longest, negative_longest, mark_longest, arrow_longest, sign_longest}
use Rattle.ir_tokens.proofs.TokenSteps.{gap_more, token_more, spells_after}
use Rattle.ir_formats.proofs.Between.{digit_visible, sign_visible}
use Rattle.ir_formats.proofs.Booleans.{both_hold, neither_holds}

-- ---- tests

pub falls : (b : Bool) → not b ≡ true → b ≡ false
falls true h = absurd (let t : false ≡ true = h in cc)
falls false h = refl

pub clash : (b : Bool) → b ≡ true → b ≡ false → ⊥
clash b e f = let t : true ≡ false = sym e ∙ f in cc

-- ---- tokens without places

-- the characters of a token, by its form
pub data Lexeme : Type 0 where
  Word : List ℕ → Lexeme
  Dotted : (front back : List ℕ) → Lexeme
  Digits : List ℕ → Lexeme
  Negative : List ℕ → Lexeme
  -- a mark, by its digits
  Marked : List ℕ → Lexeme
  Sign : ℕ → Lexeme
  Arrow : Lexeme
  -- a text in quotes, by the characters that it says
  Quoted : List ℕ → Lexeme

-- its characters
abbrev pub text_of : Lexeme → List ℕ
text_of (Word name) = name
text_of (Dotted front back) = front ++ 46 ∷ back
text_of (Digits digits) = digits
text_of (Negative digits) = 45 ∷ digits
text_of (Marked digits) = 33 ∷ digits
text_of (Sign c) = c ∷ []
text_of Arrow = 45 ∷ 62 ∷ []
text_of (Quoted cs) = in_quotes cs

-- a letter, then letters and digits
abbrev pub is_name : List ℕ → Bool
is_name [] = false
is_name (c ∷ cs) = is_letter c && list_all is_name_char cs

-- one digit or more
abbrev pub are_digits : List ℕ → Bool
are_digits [] = false
are_digits (c ∷ cs) = is_digit c && list_all is_digit cs

-- the characters are those of such a token
abbrev pub is_spelled : Lexeme → Bool
is_spelled (Word name) = is_name name
is_spelled (Dotted front back) = is_name front && is_name back
is_spelled (Digits digits) = are_digits digits
is_spelled (Negative digits) = are_digits digits
is_spelled (Marked digits) = are_digits digits
is_spelled (Sign c) = is_sign c
is_spelled Arrow = true
is_spelled (Quoted cs) = true

-- the test holds of the first character, if there is one
abbrev pub begins : (ℕ → Bool) → List ℕ → Bool
begins test [] = false
begins test (c ∷ cs) = test c

-- the second text begins with the first
abbrev pub has_front : List ℕ → List ℕ → Bool
has_front [] cs = true
has_front (x ∷ xs) [] = false
has_front (x ∷ xs) (c ∷ cs) = x == c && has_front xs cs

-- with a `<` (60) before it this isn't `<in-memory>`
abbrev pub is_fresh : List ℕ → Bool
is_fresh cs = not (has_front (codes "in-memory>") cs)

-- A character that is in no word and no number (`.` is 46).
abbrev pub is_break : ℕ → Bool
is_break c = not (is_name_char c) && not (c == 46)

-- The characters begin with a break, and not with `-m` (45 and 109): they stop every token.
abbrev pub is_clean : List ℕ → Bool
is_clean [] = true
is_clean (c ∷ cs) = is_break c && not (c == 45 && begins (λ d. 109 == d) cs)

-- no longer token begins where this one does, if these characters come next
abbrev pub stops : Lexeme → List ℕ → Bool
stops (Sign c) cs = is_fresh cs
stops Arrow cs = true
stops _ cs = is_clean cs

-- a space or the end of a line
abbrev pub is_blank : ℕ → Bool
is_blank c = c == 32 || c == 10

-- The characters are these tokens, each the longest, with spaces and line ends before, between and after them.
pub data Lexes : List ℕ → List (List ℕ) → Type 0 where
  ended : Lexes [] []
  skipped : {cs : List ℕ} {xs : List (List ℕ)} (c : ℕ) → is_blank c ≡ true → Lexes cs xs → Lexes (c ∷ cs) xs
  taken : {cs : List ℕ} {xs : List (List ℕ)} (t : Lexeme) (x : List ℕ) → text_of t ≡ x → is_spelled t ≡ true → stops t cs ≡ true → Lexes cs xs → Lexes (x ++ cs) (x ∷ xs)

-- ---- the kind of a token

-- the kind of a token of this form
abbrev pub kind_of : Lexeme → TokenKind
kind_of (Word w) = kinds.Name
kind_of (Dotted f b) = kinds.Dotted
kind_of (Digits d) = kinds.Digits
kind_of (Negative d) = kinds.Negative
kind_of (Marked d) = kinds.Mark
kind_of (Sign c) = kinds.Sign c
kind_of Arrow = kinds.Arrow
kind_of (Quoted cs) = kinds.Text

not_bad : (t : Lexeme) → kind_of t ≢ kinds.Bad
not_bad (Word w) e = cc
not_bad (Dotted f b) e = cc
not_bad (Digits d) e = cc
not_bad (Negative d) e = cc
not_bad (Marked d) e = cc
not_bad (Sign c) e = cc
not_bad Arrow e = cc
not_bad (Quoted cs) e = cc

letter_name : (c : ℕ) → is_letter c ≡ true → is_name_char c ≡ true
letter_name c h = grind (arith, nat_tests)

name_no_dot : (c : ℕ) → is_name_char c ≡ true → (c == 46) ≡ false
name_no_dot c h = grind (arith, nat_tests)

digit_no_letter : (c : ℕ) → is_digit c ≡ true → is_letter c ≡ false
digit_no_letter c h = grind (arith, nat_tests)

digit_no_greater : (c : ℕ) → is_digit c ≡ true → (c == 62) ≡ false
digit_no_greater c h = grind (arith, nat_tests)

sign_no_letter : (c : ℕ) → is_sign c ≡ true → is_letter c ≡ false
sign_no_letter c h = grind (arith, nat_tests)

sign_no_digit : (c : ℕ) → is_sign c ≡ true → is_digit c ≡ false
sign_no_digit c h = grind (arith, nat_tests)

sign_no_minus : (c : ℕ) → is_sign c ≡ true → (c == 45) ≡ false
sign_no_minus c h = grind (arith, nat_tests)

sign_no_quote : (c : ℕ) → is_sign c ≡ true → (c == 34) ≡ false
sign_no_quote c h = grind (arith, nat_tests)

sign_no_mark : (c : ℕ) → is_sign c ≡ true → (c == 33) ≡ false
sign_no_mark c h = grind (arith, nat_tests)

no_dots : (cs : List ℕ) → list_all is_name_char cs ≡ true → has_dot cs ≡ false
no_dots [] h = refl
no_dots (c ∷ cs) h = let b = both_hold (is_name_char c) (list_all is_name_char cs) h in rw (name_no_dot c b.0) (no_dots cs b.1)

or_true : (a b : Bool) → b ≡ true → (a || b) ≡ true
or_true true b h = refl
or_true false b h = h

a_dot : (f b : List ℕ) → has_dot (f ++ 46 ∷ b) ≡ true
a_dot [] b = refl
a_dot (c ∷ f) b = or_true (c == 46) _ (a_dot f b)

a_word : (l d e : Bool) (k : TokenKind) → l ≡ true → d ≡ e → (if l then (if d then kinds.Dotted else kinds.Name) else k) ≡ (if e then kinds.Dotted else kinds.Name)
a_word true d e k h g = ap (λ b. if b then kinds.Dotted else kinds.Name) g
a_word false d e k h g = absurd (let t : false ≡ true = h in cc)

-- the kind of what begins with no letter
abbrev other_sort : ℕ → List ℕ → TokenKind
other_sort c cs = if is_digit c then kinds.Digits else (if c == 45 then behind_minus cs else other_kind c)

-- the kind of a token is seen from its characters
pub sort_is : (t : Lexeme) → is_spelled t ≡ true → kind_of_text (text_of t) ≡ kind_of t
sort_is (Word []) h = absurd (let t : false ≡ true = h in cc)
sort_is (Word (c ∷ w)) h =
    let b = both_hold (is_letter c) (list_all is_name_char w) h in
    a_word (is_letter c) (has_dot w) false (other_sort c w) b.0 (no_dots w b.1)
sort_is (Dotted [] b) h = absurd (let t : false ≡ true = h in cc)
sort_is (Dotted (c ∷ f) b) h =
    let l = (both_hold (is_letter c) (list_all is_name_char f) (both_hold (is_name (c ∷ f)) (is_name b) h).0).0 in
    a_word (is_letter c) (has_dot (f ++ 46 ∷ b)) true (other_sort c (f ++ 46 ∷ b)) l (a_dot f b)
sort_is (Digits []) h = absurd (let t : false ≡ true = h in cc)
sort_is (Digits (c ∷ d)) h =
    let g = (both_hold (is_digit c) (list_all is_digit d) h).0 in
    rw (digit_no_letter c g, g) refl
sort_is (Negative []) h = absurd (let t : false ≡ true = h in cc)
sort_is (Negative (c ∷ d)) h =
    let g = (both_hold (is_digit c) (list_all is_digit d) h).0 in
    rw (digit_no_greater c g) refl
sort_is (Marked d) h = refl
sort_is (Sign c) h = rw (sign_no_letter c h, sign_no_digit c h, sign_no_minus c h, sign_no_quote c h, sign_no_mark c h) refl
sort_is Arrow h = refl
sort_is (Quoted cs) h = refl

-- ---- tokens at their places

-- From i on, the whole is these characters.
pub record IsRest (whole : List ℕ) (i : ℕ) (cs : List ℕ) : Type 0 where
  pub at : (n : ℕ) → slice_index whole (i + n) ≡ slice_index cs n
  pub total : length whole ≡ i + length cs
  pub dropped : drop i whole ≡ cs

pub past : (whole : List ℕ) (i : ℕ) (x cs : List ℕ) → IsRest whole i (x ++ cs) → IsRest whole (i + length x) cs
past whole i x cs r = record {
  at = λ n. ap (λ m. slice_index whole m) (regroup n) ∙ r.at (length x + n) ∙ get_or-append-add x cs n 0;
  total = omega (arith, r.total, length-append x cs);
  dropped = sym (drop-drop (length x) i whole) ∙ ap (drop (length x)) r.dropped ∙ drop-append_seam x cs;
}
  where
    regroup : (n : ℕ) → (i + length x) + n ≡ i + (length x + n)
    regroup n = omega arith

inner : (whole : List ℕ) (i : ℕ) (x cs : List ℕ) → IsRest whole i (x ++ cs) → (n : ℕ) → n < length x → slice_index whole (i + n) ≡ slice_index x n
inner whole i x cs r n lt = r.at n ∙ get_or-append x cs 0 n lt

all_at : (p : ℕ → Bool) (x : List ℕ) (n : ℕ) → list_all p x ≡ true → n < length x → p (slice_index x n) ≡ true
all_at p [] n h lt = absurd (let z : n < 0 = lt in omega arith)
all_at p (c ∷ cs) zero h lt = (both_hold (p c) (list_all p cs) h).0
all_at p (c ∷ cs) (suc n) h lt = all_at p cs n (both_hold (p c) (list_all p cs) h).1 (omega arith)

runs_in : (p : ℕ → Bool) (whole : List ℕ) (i : ℕ) (x cs : List ℕ) → IsRest whole i (x ++ cs) → list_all p x ≡ true → (j : ℕ) → j ≡ i + length x → AreAllOfKind p whole i j
runs_in p whole i x cs r h j e n lo hi =
    let m : i + (n - i) ≡ n = omega arith in
    subst (λ v. p (slice_index whole v) ≡ true) m (rw (inner whole i x cs r (n - i) (omega arith)) (all_at p x (n - i) h (omega arith)))

first_in : (whole : List ℕ) (i c : ℕ) (cs : List ℕ) → IsRest whole i (c ∷ cs) → slice_index whole i ≡ c
first_in whole i c cs r = let e : i ≡ i + 0 = omega arith in ap (λ n. slice_index whole n) e ∙ r.at 0

-- what a clean text begins with is in no name and no number, and is no dot
clean_break : (c : ℕ) (cs : List ℕ) → is_clean (c ∷ cs) ≡ true → (is_name_char c ≡ false) × ((c == 46) ≡ false)
clean_break c cs h =
    let b = both_hold (not (is_name_char c)) (not (c == 46)) (both_hold (is_break c) (not (c == 45 && begins (λ d. 109 == d) cs)) h).0 in
    (falls (is_name_char c) b.0, falls (c == 46) b.1)

stops_name : (whole : List ℕ) (j : ℕ) (cs : List ℕ) → IsRest whole j cs → is_clean cs ≡ true → j < length whole → is_name_char (slice_index whole j) ≡ false
stops_name whole j [] r h lt = absurd (let t : length whole ≡ j + 0 = r.total in omega arith)
stops_name whole j (c ∷ cs) r h lt = ap is_name_char (first_in whole j c cs r) ∙ (clean_break c cs h).0

no_digit : (c : ℕ) → is_name_char c ≡ false → is_digit c ≡ false
no_digit c h = grind (arith, nat_tests)

stops_digit : (whole : List ℕ) (j : ℕ) (cs : List ℕ) → IsRest whole j cs → is_clean cs ≡ true → j < length whole → is_digit (slice_index whole j) ≡ false
stops_digit whole j cs r h lt = no_digit (slice_index whole j) (stops_name whole j cs r h lt)

no_dot : (whole : List ℕ) (j : ℕ) (cs : List ℕ) → IsRest whole j cs → is_clean cs ≡ true → slice_index whole j ≡ 46 → is_letter (slice_index whole (j + 1)) ≡ true → ⊥
no_dot whole j [] r h e l = let z : slice_index whole j ≡ 0 = (let m : j ≡ j + 0 = omega arith in ap (λ n. slice_index whole n) m ∙ r.at 0) in omega arith
no_dot whole j (c ∷ cs) r h e l =
    let ec : c ≡ 46 = sym (first_in whole j c cs r) ∙ e in
    clash (c == 46) (rw ec refl) (clean_break c cs h).1

name_in : (whole : List ℕ) (i : ℕ) (c : ℕ) (w cs : List ℕ) → IsRest whole i ((c ∷ w) ++ cs) → is_letter c && list_all is_name_char w ≡ true → (j : ℕ) → j ≡ i + length (c ∷ w) → IsName whole i j
name_in whole i c w cs r h j e =
    let b = both_hold (is_letter c) (list_all is_name_char w) h in
    ((let l : length (c ∷ w) ≡ suc (length w) = refl in omega arith), rw (first_in whole i c (w ++ cs) r) b.0, runs_in is_name_char whole i (c ∷ w) cs r (rw (letter_name c b.0) b.1) j e)

letter_visible : (c : ℕ) → is_letter c ≡ true → is_whitespace c ≡ false
letter_visible c h = grind (arith, nat_tests)

front_from : (xs cs : List ℕ) → list_all (λ x. not (x == 0)) xs ≡ true → ((n : ℕ) → n < length xs → slice_index cs n ≡ slice_index xs n) → has_front xs cs ≡ true
front_from [] cs z h = refl
front_from (x ∷ xs) [] z h = let e : 0 ≡ x = h 0 (omega arith) in absurd (clash (not (x == 0)) (both_hold (not (x == 0)) (list_all (λ x. not (x == 0)) xs) z).0 (rw (sym e) refl))
front_from (x ∷ xs) (c ∷ cs) z h = let e : c ≡ x = h 0 (omega arith) in let t : (x == c) ≡ true = grind (arith, nat_tests) in
    rw t (front_from xs cs (both_hold (not (x == 0)) (list_all (λ x. not (x == 0)) xs) z).1 (λ n lt. h (suc n) (omega arith)))

-- ---- a token at its place

-- the token, from this place on
abbrev placed : ℕ → Lexeme → place.Token
placed i t = record { kind = kind_of t; start = i; end = i + length (text_of t) }

dotted_length : (f b : List ℕ) → length (f ++ 46 ∷ b) ≡ (length f + 1) + length b
dotted_length f b = let l : length (46 ∷ b) ≡ suc (length b) = refl in omega (arith, length-append f (46 ∷ b))

-- what the characters of a token spell, and that no longer token begins there
pub record IsHere (whole : List ℕ) (i : ℕ) (t : Lexeme) : Type 0 where
  pub visible : is_whitespace (slice_index whole i) ≡ false
  pub spelled : Spells whole i (i + length (text_of t)) (kind_of t)
  pub longest : NoLonger whole i (i + length (text_of t))

not_memory : (whole : List ℕ) (i c : ℕ) (cs : List ℕ) → IsRest whole i (c ∷ cs) → is_fresh cs ≡ true → IsInMemory whole i → ⊥
not_memory whole i c cs r e m =
    clash (has_front (codes "in-memory>") cs) (front_from (codes "in-memory>") cs refl (λ n lt. sym (r.at (suc n)) ∙ m (suc n) (omega arith))) (falls (has_front (codes "in-memory>") cs) e)

-- what is escaped goes up to the closing `"`
quote_closes : (whole : List ℕ) (i j : ℕ) (cs rest : List ℕ) → IsRest whole i ((escaped cs ++ 34 ∷ []) ++ rest) → j ≡ i + length (escaped cs ++ 34 ∷ []) → ClosesText whole i j
quote_closes whole i j [] rest r e = closing (first_in whole i 34 rest r) (omega (arith, e))
quote_closes whole i j (c ∷ cs) rest r e = go (c == 34 || c == 92) (c == 34) (c == 92) refl refl refl (λ i j r e. quote_closes whole i j cs rest r e) r e
  where
    tail : List ℕ
    tail = escaped cs ++ 34 ∷ []

    go : (b f g : Bool) → (c == 34 || c == 92) ≡ b → (c == 34) ≡ f → (c == 92) ≡ g
        → ((i j : ℕ) → IsRest whole i (tail ++ rest) → j ≡ i + length tail → ClosesText whole i j)
        → IsRest whole i (((if b then 92 ∷ c ∷ escaped cs else c ∷ escaped cs) ++ 34 ∷ []) ++ rest)
        → j ≡ i + length ((if b then 92 ∷ c ∷ escaped cs else c ∷ escaped cs) ++ 34 ∷ []) → ClosesText whole i j
    go true f g special front back closes r e =
        let l : length (92 ∷ c ∷ tail) ≡ suc (suc (length tail)) = refl in
        escaped_text (first_in whole i 92 (c ∷ tail ++ rest) r) refl
        (closes (i + 2) j (past whole i (92 ∷ c ∷ []) (tail ++ rest) r) (omega (arith, e, l)))
    go false true g special front back closes r e = let wrong : true ≡ false = sym front ∙ (neither_holds (c == 34) (c == 92) special).0 in cc
    go false false true special front back closes r e = let wrong : true ≡ false = sym back ∙ (neither_holds (c == 34) (c == 92) special).1 in cc
    go false false false special front back closes r e =
        let first : slice_index whole i ≡ c = first_in whole i c (tail ++ rest) r in
        let l : length (c ∷ tail) ≡ suc (length tail) = refl in
        plain (rw first (eqb-false c 34 front)) (rw first (eqb-false c 92 back)) refl
        (closes (i + 1) j (past whole i (c ∷ []) (tail ++ rest) r) (omega (arith, e, l)))

here : (whole : List ℕ) (i : ℕ) (t : Lexeme) (cs : List ℕ) → IsRest whole i (text_of t ++ cs) → is_spelled t ≡ true → stops t cs ≡ true → IsHere whole i t
here whole i (Word []) cs r s e = absurd (let t : false ≡ true = s in cc)
here whole i (Word (c ∷ w)) cs r s e =
    let n = name_in whole i c w cs r s (i + length (c ∷ w)) refl in
    let q = past whole i (c ∷ w) cs r in
    record {
      visible = letter_visible (slice_index whole i) n.1;
      spelled = n;
      longest = name_longest whole i (i + length (c ∷ w)) n.1 n.0 n.2 (stops_name whole _ cs q e) (no_dot whole _ cs q e);
    }
here whole i (Dotted [] b) cs r s e = absurd (let t : false ≡ true = s in cc)
here whole i (Dotted (c ∷ f) []) cs r s e = absurd (let t : false ≡ true = (both_hold (is_letter c && list_all is_name_char f) false s).1 in cc)
here whole i (Dotted (c ∷ f) (d ∷ b)) cs r s e =
    let q = past whole i (text_of (Dotted (c ∷ f) (d ∷ b))) cs r in
    let r' = subst (λ x. IsRest whole i x) (append_assoc (c ∷ f) (46 ∷ d ∷ b) cs) r in
    let at_dot = past whole i (c ∷ f) (46 ∷ (d ∷ b) ++ cs) r' in
    let after_dot = past whole (i + length (c ∷ f)) (46 ∷ []) ((d ∷ b) ++ cs) at_dot in
    let dot : slice_index whole (i + length (c ∷ f)) ≡ 46 = first_in whole (i + length (c ∷ f)) 46 ((d ∷ b) ++ cs) at_dot in
    let w = both_hold (is_letter c && list_all is_name_char f) (is_letter d && list_all is_name_char b) s in
    let l = dotted_length (c ∷ f) (d ∷ b) in
    let n = name_in whole i c f (46 ∷ (d ∷ b) ++ cs) r' w.0 (i + length (c ∷ f)) refl in
    let m = name_in whole ((i + length (c ∷ f)) + 1) d b cs after_dot w.1 (i + length (text_of (Dotted (c ∷ f) (d ∷ b)))) (omega (arith, l)) in
    record {
      visible = letter_visible (slice_index whole i) n.1;
      spelled = (i + length (c ∷ f), n, dot, m);
      longest = dotted_longest whole i (i + length (c ∷ f)) (i + length (text_of (Dotted (c ∷ f) (d ∷ b)))) n.1 n.0 n.2 dot m.0 m.2 (stops_name whole _ cs q e);
    }
here whole i (Digits []) cs r s e = absurd (let t : false ≡ true = s in cc)
here whole i (Digits (c ∷ d)) cs r s e =
    let q = past whole i (c ∷ d) cs r in
    let runs = runs_in is_digit whole i (c ∷ d) cs r s (i + length (c ∷ d)) refl in
    let first : is_digit (slice_index whole i) ≡ true = rw (first_in whole i c (d ++ cs) r) (both_hold (is_digit c) (list_all is_digit d) s).0 in
    let l : length (c ∷ d) ≡ suc (length d) = refl in
    let lt : i < i + length (c ∷ d) = omega arith in
    record {
      visible = digit_visible (slice_index whole i) first;
      spelled = (lt, runs);
      longest = digits_longest whole i (i + length (c ∷ d)) first lt (stops_digit whole _ cs q e);
    }
here whole i (Negative []) cs r s e = absurd (let t : false ≡ true = s in cc)
here whole i (Negative (c ∷ d)) cs r s e =
    let q = past whole i (45 ∷ c ∷ d) cs r in
    let after_minus = past whole i (45 ∷ []) (c ∷ d ++ cs) r in
    let first : slice_index whole i ≡ 45 = first_in whole i 45 (c ∷ d ++ cs) r in
    let l : length (45 ∷ c ∷ d) ≡ suc (suc (length d)) = refl in
    let m : length (c ∷ d) ≡ suc (length d) = refl in
    let digits : AreDigits whole (i + 1) (i + length (45 ∷ c ∷ d)) = (omega arith, runs_in is_digit whole (i + 1) (c ∷ d) cs after_minus s (i + length (45 ∷ c ∷ d)) (omega arith)) in
    record {
      visible = ap is_whitespace first;
      spelled = (first, digits);
      longest = negative_longest whole i (i + length (45 ∷ c ∷ d)) first digits (stops_digit whole _ cs q e);
    }
here whole i (Marked []) cs r s e = absurd (let t : false ≡ true = s in cc)
here whole i (Marked (c ∷ d)) cs r s e =
    let q = past whole i (33 ∷ c ∷ d) cs r in
    let after_mark = past whole i (33 ∷ []) (c ∷ d ++ cs) r in
    let first : slice_index whole i ≡ 33 = first_in whole i 33 (c ∷ d ++ cs) r in
    let l : length (33 ∷ c ∷ d) ≡ suc (suc (length d)) = refl in
    let m : length (c ∷ d) ≡ suc (length d) = refl in
    let digits : AreDigits whole (i + 1) (i + length (33 ∷ c ∷ d)) = (omega arith, runs_in is_digit whole (i + 1) (c ∷ d) cs after_mark s (i + length (33 ∷ c ∷ d)) (omega arith)) in
    record {
      visible = ap is_whitespace first;
      spelled = (first, digits);
      longest = mark_longest whole i (i + length (33 ∷ c ∷ d)) first (omega arith) (stops_digit whole _ cs q e);
    }
here whole i (Sign c) cs r s e =
    let first : slice_index whole i ≡ c = first_in whole i c cs r in
    record {
      visible = sign_visible (slice_index whole i) (rw first s);
      spelled = (s, first, refl);
      longest = sign_longest whole i (rw first s) (λ m. not_memory whole i c cs r e m);
    }
here whole i Arrow cs r s e =
    let first : slice_index whole i ≡ 45 = first_in whole i 45 (62 ∷ cs) r in
    record { visible = ap is_whitespace first; spelled = (first, r.at 1, refl); longest = arrow_longest whole i first (r.at 1) }
here whole i (Quoted q) cs r s e =
    let first : slice_index whole i ≡ 34 = first_in whole i 34 ((escaped q ++ 34 ∷ []) ++ cs) r in
    let l : length (in_quotes q) ≡ suc (length (escaped q ++ 34 ∷ [])) = refl in
    let closes = quote_closes whole (i + 1) (i + length (in_quotes q)) q cs (past whole i (34 ∷ []) ((escaped q ++ 34 ∷ []) ++ cs) r) (omega (arith, l)) in
    record { visible = ap is_whitespace first; spelled = (first, closes); longest = text_longest whole i (i + length (in_quotes q)) first closes }

-- the token's characters stand there
here_text : (whole : List ℕ) (i : ℕ) (t : Lexeme) (cs : List ℕ) → IsRest whole i (text_of t ++ cs) → words.text_of whole (placed i t) ≡ text_of t
here_text whole i t cs r =
    within (nat_le i (i + length (text_of t))) (nat_le (i + length (text_of t)) (length whole)) (starts i (length (text_of t))) (ends _ _ (omega (arith, r.total, length-append (text_of t) cs)))
    ∙ ap (λ n. take n (drop i whole)) (taken_off i (length (text_of t))) ∙ ap (take (length (text_of t))) r.dropped ∙ take-append_seam (text_of t) cs
  where
    within : (a b : Bool) → a ≡ true → b ≡ true → (if a && b then slice_range whole i (i + length (text_of t)) else []) ≡ slice_range whole i (i + length (text_of t))
    within a b h k = rw (h, k) refl

    starts : (m n : ℕ) → nat_le m (m + n) ≡ true
    starts m n = grind (arith, nat_tests)

    ends : (m n : ℕ) → m ≤ n → nat_le m n ≡ true
    ends m n h = grind (arith, nat_tests)

    taken_off : (m n : ℕ) → (m + n) - m ≡ n
    taken_off m n = omega arith

-- From i on these tokens are read, with these characters and of these kinds.
pub record ArePlaced (whole : List ℕ) (i : ℕ) (xs : List (List ℕ)) : Type 0 where
  pub found : List place.Token
  pub read : ReadsAs whole i found
  pub texts : map (words.text_of whole) found ≡ xs
  pub sorts : map (λ (t : place.Token). t.kind) found ≡ map kind_of_text xs

joined : {A : Type 0} (a b : A) (xs ys : List A) → a ≡ b → xs ≡ ys → ◌≡◌ {A = List A} (a ∷ xs) (b ∷ ys)
joined a b xs ys e f = ap (λ x. x ∷ xs) e ∙ ap (λ z. b ∷ z) f

blank_white : (c : ℕ) → is_blank c ≡ true → is_whitespace c ≡ true
blank_white c h = grind (arith, nat_tests)

places : (whole : List ℕ) (i : ℕ) {cs : List ℕ} {xs : List (List ℕ)} → Lexes cs xs → IsRest whole i cs → ArePlaced whole i xs
places whole i ended r = record { found = []; read = λ n lo hi. absurd (let t : length whole ≡ i + 0 = r.total in omega arith); texts = refl; sorts = refl }
places whole i (skipped {cs} c w l) r =
    let p = places whole (i + 1) l (past whole i (c ∷ []) cs r) in
    record { found = p.found; read = gap_more whole i p.found (rw (first_in whole i c cs r) (blank_white c w)) p.read; texts = p.texts; sorts = p.sorts }
places whole i (taken {cs} {xs} t x same s e l) r' =
    let r = subst (λ z. IsRest whole i (z ++ cs)) (sym same) r' in
    let h = here whole i t cs r s e in
    let q = past whole i (text_of t) cs r in
    let p = places whole (i + length (text_of t)) l q in
    let lt = spells_after whole i (i + length (text_of t)) (kind_of t) h.spelled (not_bad t) in
    record {
      found = placed i t ∷ p.found;
      read = token_more whole i (placed i t) p.found refl (record { begins = omega (arith, q.total); visible = h.visible; inside = omega (arith, q.total); spelled = h.spelled; longest = h.longest }) (not_bad t) p.read;
      texts = joined _ x _ xs (here_text whole i t cs r ∙ same) p.texts;
      sorts = joined _ (kind_of_text x) _ (map kind_of_text xs) (sym (sort_is t s) ∙ ap kind_of_text same) p.sorts;
    }

-- The characters of these tokens are read as them.
pub placed_all : {cs : List ℕ} {xs : List (List ℕ)} → Lexes cs xs → ArePlaced cs 0 xs
placed_all {cs} l = places cs 0 l (record { at = λ n. ap (λ m. slice_index cs m) (zero_left n); total = sym (zero_left (length cs)); dropped = refl })
  where
    zero_left : (n : ℕ) → 0 + n ≡ n
    zero_left n = omega arith

-- ---- a line end behind them

begins_line : (cs : List ℕ) → begins (λ d. 109 == d) (cs ++ 10 ∷ []) ≡ begins (λ d. 109 == d) cs
begins_line [] = refl
begins_line (c ∷ cs) = refl

clean_line : (cs : List ℕ) → is_clean cs ≡ true → is_clean (cs ++ 10 ∷ []) ≡ true
clean_line [] h = refl
clean_line (c ∷ cs) h = ap (λ b. is_break c && not (c == 45 && b)) (begins_line cs) ∙ h

front_line : (xs cs : List ℕ) → list_all (λ x. not (x == 10)) xs ≡ true → has_front xs (cs ++ 10 ∷ []) ≡ has_front xs cs
front_line [] cs z = refl
front_line (x ∷ xs) [] z = rw (falls (x == 10) (both_hold (not (x == 10)) (list_all (λ x. not (x == 10)) xs) z).0) refl
front_line (x ∷ xs) (c ∷ cs) z = ap (λ b. x == c && b) (front_line xs cs (both_hold (not (x == 10)) (list_all (λ x. not (x == 10)) xs) z).1)

fresh_line : (cs : List ℕ) → is_fresh cs ≡ true → is_fresh (cs ++ 10 ∷ []) ≡ true
fresh_line cs h = ap not (front_line (codes "in-memory>") cs refl) ∙ h

stops_line : (t : Lexeme) (cs : List ℕ) → stops t cs ≡ true → stops t (cs ++ 10 ∷ []) ≡ true
stops_line (Word w) cs h = clean_line cs h
stops_line (Dotted f b) cs h = clean_line cs h
stops_line (Digits d) cs h = clean_line cs h
stops_line (Negative d) cs h = clean_line cs h
stops_line (Marked d) cs h = clean_line cs h
stops_line (Sign c) cs h = fresh_line cs h
stops_line Arrow cs h = refl
stops_line (Quoted q) cs h = clean_line cs h

-- a line end behind a text adds no token
pub lined : {cs : List ℕ} {xs : List (List ℕ)} → Lexes cs xs → Lexes (cs ++ 10 ∷ []) xs
lined ended = skipped 10 refl ended
lined (skipped c w l) = skipped c w (lined l)
lined (taken {cs} {xs} t x same s e l) = subst (λ z. Lexes z (x ∷ xs)) (sym (append_assoc x cs (10 ∷ []))) (taken t x same s (stops_line t cs e) (lined l))

-- ---- their characters

pub all_ascii : (p : ℕ → Bool) → ((c : ℕ) → p c ≡ true → c < 128) → (cs : List ℕ) → list_all p cs ≡ true → IsAscii cs
all_ascii p low [] h = IsAscii-nil
all_ascii p low (c ∷ cs) h = let b = both_hold (p c) (list_all p cs) h in IsAscii-cons c cs (low c b.0) (all_ascii p low cs b.1)

name_low : (c : ℕ) → is_name_char c ≡ true → c < 128
name_low c h = grind (arith, nat_tests)

digit_low : (c : ℕ) → is_digit c ≡ true → c < 128
digit_low c h = grind (arith, nat_tests)

pub sign_low : (c : ℕ) → is_sign c ≡ true → c < 128
sign_low c h = grind (arith, nat_tests)

name_ascii : (cs : List ℕ) → is_name cs ≡ true → IsAscii cs
name_ascii [] h = IsAscii-nil
name_ascii (c ∷ cs) h = let b = both_hold (is_letter c) (list_all is_name_char cs) h in all_ascii is_name_char name_low (c ∷ cs) (rw (letter_name c b.0) b.1)

digits_ascii : (cs : List ℕ) → are_digits cs ≡ true → IsAscii cs
digits_ascii [] h = IsAscii-nil
digits_ascii (c ∷ cs) h = all_ascii is_digit digit_low (c ∷ cs) h

-- a token that is no text in quotes
abbrev pub is_plain : Lexeme → Bool
is_plain (Quoted cs) = false
is_plain _ = true

pub lexeme_ascii : (t : Lexeme) → is_spelled t ≡ true → is_plain t ≡ true → IsAscii (text_of t)
lexeme_ascii (Word w) h p = name_ascii w h
lexeme_ascii (Dotted f b) h p = let s = both_hold (is_name f) (is_name b) h in IsAscii-append f (46 ∷ b) (name_ascii f s.0) (IsAscii-cons 46 b (omega arith) (name_ascii b s.1))
lexeme_ascii (Digits d) h p = digits_ascii d h
lexeme_ascii (Negative d) h p = IsAscii-cons 45 d (omega arith) (digits_ascii d h)
lexeme_ascii (Marked d) h p = IsAscii-cons 33 d (omega arith) (digits_ascii d h)
lexeme_ascii (Sign c) h p = IsAscii-cons c [] (sign_low c h) IsAscii-nil
lexeme_ascii Arrow h p = IsAscii-cons 45 (62 ∷ []) (omega arith) (IsAscii-cons 62 [] (omega arith) IsAscii-nil)
lexeme_ascii (Quoted cs) h p = absurd (let t : false ≡ true = p in cc)
