-- Tokens by the places at which they begin.
use Rattle.std.proofs.Common.{◌≡◌, ℕ, zero, suc, ◌+◌, ◌-◌, ◌<◌, ◌≤◌, ◌⊎◌, inl, inr, Bool, true, false, if◌then◌else◌}
use Rattle.std.proofs.Common.{List, [], ◌∷◌, ◌++◌, length, Some, slice_get, slice_index, slice_range, arith, refl, sym, ap, ◌∙◌}
use Rattle.std.proofs.Math.Nat.{eq-or-lt_of_le}
use Rattle.std.proofs.Math.Path.{fun_ext}
use Rattle.std.proofs.lemmas.Bool.{le-leb}
use Rattle.std.proofs.lemmas.Bool.Decides.{nat_tests}
use Rattle.std.proofs.lemmas.List.Edits.{between_more}
use Rattle.std.specs.Char.{is_whitespace}
use Rattle.ir_characters.specs.Texts.{trimmed}
use Rattle.ir_characters.proofs.Trimming.{trimmed_white_behind, trimmed_visible_end}
use Rattle.ir_tokens.specs.declared.tokens.TokenKind.{TokenKind}
use Rattle.ir_tokens.specs.declared.tokens.TokenKind.TheVariants.{Name, Dotted, Digits, Negative, Mark, Text, Sign, Arrow, InMemory, Bad}
use Rattle.ir_tokens.specs.declared.tokens.Token.{Token}
use Rattle.ir_tokens.specs.Tokens.{is_name_char, is_digit, is_sign, is_bad, AreAllOfKind, ClosesText, Spells, IsGap, IsToken, LastIfBad}
use Rattle.ir_tokens.specs.Tokens.{ReadsAs, starts_of, text_between}
use Rattle.ir_tokens.specs.Tokens.ClosesText.{closing, plain, escaped}
use Rattle.ir_tokens.proofs.TokenLongest.{closes_after}
use Rattle.ir_formats.specs.Words.{text_of, token_text}

-- ---- the last character of a token

-- what stands in a name is no white space
name_visible : (c : ℕ) → is_name_char c ≡ true → is_whitespace c ≡ false
name_visible c named = grind (arith, nat_tests)

-- a digit is no white space
pub digit_visible : (c : ℕ) → is_digit c ≡ true → is_whitespace c ≡ false
digit_visible c digit = grind (arith, nat_tests)

-- a sign is no white space
pub sign_visible : (c : ℕ) → is_sign c ≡ true → is_whitespace c ≡ false
sign_visible c sign = grind (arith, nat_tests)

-- characters none of which is white space end in no white space
run_ends : (p : ℕ → Bool) → ((c : ℕ) → p c ≡ true → is_whitespace c ≡ false) → (cs : List ℕ) (i j : ℕ) → i < j → AreAllOfKind p cs i j
    → is_whitespace (slice_index cs (j - 1)) ≡ false
run_ends p visible cs i j lt runs = visible (slice_index cs (j - 1)) (runs (j - 1) (omega arith) (omega arith))

-- a text ends in `"`
closes_with : (cs : List ℕ) {i j : ℕ} → ClosesText cs i j → slice_index cs (j - 1) ≡ 34
closes_with cs (closing {i} {j} quote e) = let same : j - 1 ≡ i = omega arith in rw same quote
closes_with cs (plain a b n c) = closes_with cs c
closes_with cs (escaped a n c) = closes_with cs c

-- a token ends in no white space
ends_visible : (cs : List ℕ) (i j : ℕ) (k : TokenKind) → i < j → Spells cs i j k
    → is_whitespace (slice_index cs (j - 1)) ≡ false
ends_visible cs i j Name lt s = run_ends is_name_char name_visible cs i j lt s.2
ends_visible cs i j Dotted lt s = run_ends is_name_char name_visible cs (s.0 + 1) j s.3.0 s.3.2
ends_visible cs i j Digits lt s = run_ends is_digit digit_visible cs i j lt s.1
ends_visible cs i j Negative lt s = run_ends is_digit digit_visible cs (i + 1) j s.1.0 s.1.1
ends_visible cs i j Mark lt s = run_ends is_digit digit_visible cs (i + 1) j s.1.0 s.1.1
ends_visible cs i j Text lt s = rw (closes_with cs s.1) refl
ends_visible cs i j (Sign c) lt s =
    let same : j - 1 ≡ i = omega arith in
    sign_visible (slice_index cs (j - 1)) (ap is_sign (ap (slice_index cs) same ∙ s.1) ∙ s.0)
ends_visible cs i j Arrow lt s = let same : j - 1 ≡ i + 1 = omega arith in rw (same, s.1) refl
ends_visible cs i j InMemory lt s =
    let same : j - 1 ≡ i + 10 = omega arith in
    let last : slice_index cs (i + 10) ≡ 62 = s.0 10 (omega arith) in
    rw (same, last) refl
ends_visible cs i j Bad lt s = absurd (omega arith)

-- a token does not end before it begins
spells_on : (cs : List ℕ) (i j : ℕ) (k : TokenKind) → Spells cs i j k → i ≤ j
spells_on cs i j Name s = omega (arith, s.0)
spells_on cs i j Dotted s = omega (arith, s.1.0, s.3.0)
spells_on cs i j Digits s = omega (arith, s.0)
spells_on cs i j Negative s = omega (arith, s.1.0)
spells_on cs i j Mark s = omega (arith, s.1.0)
spells_on cs i j Text s = let after = closes_after cs s.1 in omega (arith, after)
spells_on cs i j (Sign c) s = omega arith
spells_on cs i j Arrow s = omega arith
spells_on cs i j InMemory s = omega arith
spells_on cs i j Bad s = omega arith

-- ---- parts of a text

-- nothing stands before a place from there on
none_between : (cs : List ℕ) (i j : ℕ) → j ≤ i → slice_range cs i j ≡ []
none_between cs i j le = let same : j - i ≡ 0 = omega arith in rw same refl

-- a part of a text that ends in no white space stays as it is
trimmed_part : (cs : List ℕ) (i j : ℕ) → i ≤ j → j ≤ length cs
    → (i < j → is_whitespace (slice_index cs (j - 1)) ≡ false) → trimmed (slice_range cs i j) ≡ slice_range cs i j
trimmed_part cs i j le inside visible = elim (eq-or-lt_of_le le) [
  | inl e ↦ let none = none_between cs i j (omega arith) in ap trimmed none ∙ sym none
  | inr lt ↦
      let last : j ≡ (j - 1) + 1 = omega arith in
      let more : slice_range cs i j ≡ slice_range cs i (j - 1) ++ slice_index cs (j - 1) ∷ [] =
      ap (slice_range cs i) last ∙ between_more cs i (j - 1) 0 (omega arith) (omega arith) in
      ap trimmed more ∙ (trimmed_visible_end (slice_range cs i (j - 1)) (slice_index cs (j - 1)) (visible lt) ∙ sym more)
]

-- so many white characters behind a part are cut off
trimmed_behind : (cs : List ℕ) (i j n : ℕ) → i ≤ j → j + n ≤ length cs → IsGap cs j (j + n)
    → trimmed (slice_range cs i (j + n)) ≡ trimmed (slice_range cs i j)
trimmed_behind cs i j zero le inside gap = let same : j + zero ≡ j = omega arith in rw same refl
trimmed_behind cs i j (suc n) le inside gap =
    let same : j + suc n ≡ (j + n) + 1 = omega arith in
    let more : slice_range cs i (j + suc n) ≡ slice_range cs i (j + n) ++ slice_index cs (j + n) ∷ [] =
    ap (slice_range cs i) same ∙ between_more cs i (j + n) 0 (omega arith) (omega arith) in
    let white : is_whitespace (slice_index cs (j + n)) ≡ true = gap (j + n) (omega arith) (omega arith) in
    let less = trimmed_white_behind (slice_range cs i (j + n)) (slice_index cs (j + n) ∷ []) (rw white refl) in
    ap trimmed more ∙ (less ∙ trimmed_behind cs i j n le (omega arith) (λ k lo hi. gap k lo (omega arith)))

-- what stands up to a gap, from the part that ends behind the gap
trimmed_gap : (cs : List ℕ) (i j e : ℕ) → i ≤ j → j ≤ e → e ≤ length cs
    → (i < j → is_whitespace (slice_index cs (j - 1)) ≡ false) → IsGap cs j e
    → trimmed (slice_range cs i e) ≡ slice_range cs i j
trimmed_gap cs i j e le on inside visible gap =
    let same : e ≡ j + (e - j) = omega arith in
    let less = trimmed_behind cs i j (e - j) le (omega arith) (λ k lo hi. gap k lo (omega arith)) in
    ap (λ (n : ℕ). trimmed (slice_range cs i n)) same ∙ (less ∙ trimmed_part cs i j le (omega arith) visible)

-- ---- what comes behind a token

-- behind a bad token the first of two facts, and behind any other the second
follows : (k : TokenKind) (p q : Type 0) → LastIfBad k p q → ((is_bad k ≡ true) × p) ⊎ ((is_bad k ≡ false) × q)
follows Bad p q h = inl (refl, h)
follows _ p q h = inr (refl, h)

-- only white space stands from a place to the next one
abbrev IsNext : List ℕ → ℕ → ℕ → Type 0
IsNext cs e n = (e ≤ n) × (n ≤ length cs) × IsGap cs e n

-- only white space stands up to the first token
first_next : (cs : List ℕ) (i : ℕ) (ts : List Token) → i ≤ length cs → ReadsAs cs i ts
    → IsNext cs i (slice_index (starts_of cs ts) 0)
first_next cs i [] le r = (le, omega arith, r)
first_next cs i (t ∷ ts) le r = let begins = r.2.begins in (r.0, omega arith, r.1)

-- where the tokens behind one begin, and where the text of the last one ends
abbrev rest_of : List ℕ → Token → List Token → List ℕ
rest_of cs t ts = if is_bad t.kind then t.end ∷ [] else starts_of cs ts

-- only white space stands behind a token up to the next one
token_next : (cs : List ℕ) (t : Token) (ts : List Token) → t.end ≤ length cs → LastIfBad t.kind (ts ≡ []) (ReadsAs cs t.end ts)
    → IsNext cs t.end (slice_index (rest_of cs t ts) 0)
token_next cs t ts le r = elim (follows t.kind _ _ r) [
  | inl bad ↦ rw (bad.0) (omega arith, le, λ k lo hi. absurd (omega arith))
  | inr more ↦ rw (more.0) (first_next cs t.end ts le more.1)
]

-- what stands from the start of a token to the next one is the token
token_stands : (cs : List ℕ) (t : Token) (n : ℕ) → IsToken cs t → IsNext cs t.end n
    → trimmed (slice_range cs t.start n) ≡ text_of cs t
token_stands cs t n token next =
    let on = spells_on cs t.start t.end t.kind token.spelled in
    let here = le-leb t.start t.end on in
    let inside = le-leb t.end (length cs) token.inside in
    let visible : t.start < t.end → is_whitespace (slice_index cs (t.end - 1)) ≡ false =
    λ lt. ends_visible cs t.start t.end t.kind lt token.spelled in
    rw (here, inside) (trimmed_gap cs t.start t.end n on next.0 next.1 visible next.2)

-- the texts between places with one more in front
between_later : (cs : List ℕ) (s : ℕ) (starts : List ℕ) (k : ℕ) → text_between cs (s ∷ starts) (suc k) ≡ text_between cs starts k
between_later cs s starts k = let same : suc k + 1 ≡ suc (k + 1) = omega arith in rw same refl

-- no text stands between the places where there is only one
between_one : (cs : List ℕ) (s k : ℕ) → text_between cs (s ∷ []) k ≡ []
between_one cs s zero = ap trimmed (none_between cs s 0 (omega arith))
between_one cs s (suc k) = between_later cs s [] k ∙ ap trimmed (none_between cs 0 0 (omega arith))

-- ---- the tokens of a text

-- what stands from one of these places to the next is the text of the token with this number
text_stands : (cs : List ℕ) (i : ℕ) (ts : List Token) (k : ℕ) → ReadsAs cs i ts
    → text_between cs (starts_of cs ts) k ≡ token_text cs ts k
text_stands cs i [] k r = between_one cs (length cs) k
text_stands cs i (t ∷ ts) zero r =
    token_stands cs t (slice_index (rest_of cs t ts) 0) r.2 (token_next cs t ts r.2.inside r.3)
text_stands cs i (t ∷ ts) (suc k) r = between_later cs t.start (rest_of cs t ts) k ∙ elim (follows t.kind _ _ r.3) [
  | inl bad ↦ rw (bad.0, bad.1) (between_one cs t.end k)
  | inr more ↦ rw (more.0) (text_stands cs t.end ts k more.1)
]

-- what stands between the places at which the tokens of a text begin is the texts of the tokens
pub texts_stand : (cs : List ℕ) (ts : List Token) → ReadsAs cs 0 ts → text_between cs (starts_of cs ts) ≡ token_text cs ts
texts_stand cs ts r = fun_ext (λ k. text_stands cs 0 ts k r)

-- there are the places of the tokens, and one behind these
count : (cs : List ℕ) (i : ℕ) (ts : List Token) → ReadsAs cs i ts → length (starts_of cs ts) ≡ length ts + 1
count cs i [] r = refl
count cs i (t ∷ ts) r = elim (follows t.kind _ _ r.3) [
  | inl bad ↦ rw (bad.0, bad.1) refl
  | inr more ↦ let rest = count cs t.end ts more.1 in rw (more.0) (omega (arith, rest))
]

-- there is one place more than tokens
pub many_starts : (cs : List ℕ) (i : ℕ) (ts : List Token) → ReadsAs cs i ts → length (starts_of cs ts) - 1 ≡ length ts
many_starts cs i ts r = let all = count cs i ts r in omega arith

-- each token begins at its place
pub start_at : (cs : List ℕ) (i : ℕ) (ts : List Token) (k : ℕ) → ReadsAs cs i ts → k < length ts
    → (t : Token) × (slice_get ts k ≡ Some t) × (slice_index (starts_of cs ts) k ≡ t.start)
start_at cs i [] k r within = absurd (omega arith)
start_at cs i (t ∷ ts) zero r within = (t, refl, refl)
start_at cs i (t ∷ ts) (suc k) r within = elim (follows t.kind _ _ r.3) [
  | inl bad ↦ absurd (omega (arith, ap length bad.1))
  | inr more ↦ rw (more.0) (start_at cs t.end ts k more.1 (omega arith))
]
