-- What a scan found is the longest token.
use Rattle.std.proofs.Common.{Bool, ◌≡◌, ℕ, ◌+◌, ◌<◌, ◌≤◌, ◌⊎◌, inl, inr, List, length, slice_index, true, false, arith, refl, sym, ◌∙◌, ap, ◌≢◌, ◌==◌}
use Rattle.std.proofs.lemmas.List.{get_or_past}
use Rattle.std.proofs.Math.Nat.{eq-or-lt_of_le}
use native.Mathlib.Decide.{dec_lt}
use Rattle.std.proofs.lemmas.Bool.Decides.{nat_tests}
use Rattle.ir_tokens.specs.declared.tokens.TokenKind.{TokenKind}
use Rattle.ir_tokens.specs.declared.tokens.TokenKind.TheVariants.{Name, Dotted, Digits, Negative, Mark, Text, Sign, Arrow, InMemory, Bad}
use Rattle.ir_tokens.specs.Tokens.{is_letter, is_digit, is_name_char, is_sign, AreAllOfKind, Spells, NoLonger, AreDigits, ClosesText, IsInMemory}
use Rattle.ir_tokens.specs.Tokens.ClosesText.{closing, plain, escaped}

-- ---- characters

letter_not_digit : (c : ℕ) → is_letter c ≡ true → is_digit c ≡ true → ⊥
letter_not_digit c l d = grind (arith, nat_tests)

sign_not_letter : (c : ℕ) → is_sign c ≡ true → is_letter c ≡ true → ⊥
sign_not_letter c s l = grind (arith, nat_tests)

sign_not_digit : (c : ℕ) → is_sign c ≡ true → is_digit c ≡ true → ⊥
sign_not_digit c s l = grind (arith, nat_tests)

-- a test that holds of c and not of d tells them apart
pub apart : (p : ℕ → Bool) (c d : ℕ) → p c ≡ true → p d ≡ false → c ≡ d → ⊥
apart p c d holds fails e = let t : true ≡ false = sym holds ∙ ap p e ∙ fails in cc

-- what a token of this kind begins with
abbrev pub First : TokenKind → ℕ → Type 0
First Name c = is_letter c ≡ true
First Dotted c = is_letter c ≡ true
First Digits c = is_digit c ≡ true
First Negative c = c ≡ 45
First Mark c = c ≡ 33
First Text c = c ≡ 34
First (Sign s) c = is_sign c ≡ true
First Arrow c = c ≡ 45
First InMemory c = c ≡ 60
First Bad c = ⊥

pub first : (cs : List ℕ) (i m : ℕ) (k : TokenKind) → i < m → Spells cs i m k → First k (slice_index cs i)
first cs i m Name lt s = s.1
first cs i m Dotted lt s = s.1.1
first cs i m Digits lt s = s.1 i (omega arith) s.0
first cs i m Negative lt s = s.0
first cs i m Mark lt s = s.0
first cs i m Text lt s = s.0
first cs i m (Sign c) lt s = rw s.1 s.0
first cs i m Arrow lt s = s.0
first cs i m InMemory lt s = grind (arith, s.0 0 (omega arith))
first cs i m Bad lt s = omega arith

-- ---- words

abbrev pub IsWord : TokenKind → Type 0
IsWord Name = Unit {0}
IsWord Dotted = Unit {0}
IsWord _ = ⊥

-- no token but a word begins with a letter
pub word_only : (c : ℕ) (k : TokenKind) → is_letter c ≡ true → First k c → IsWord k
word_only c Name l f = tt
word_only c Dotted l f = tt
word_only c Digits l f = letter_not_digit c l f
word_only c Negative l f = apart is_letter c 45 l refl f
word_only c Mark l f = apart is_letter c 33 l refl f
word_only c Text l f = apart is_letter c 34 l refl f
word_only c (Sign s) l f = sign_not_letter c f l
word_only c Arrow l f = apart is_letter c 45 l refl f
word_only c InMemory l f = apart is_letter c 60 l refl f
word_only c Bad l f = absurd f

-- a run that passes the place where another stopped
past_stop : (p : ℕ → Bool) (cs : List ℕ) (from m j : ℕ) → AreAllOfKind p cs from m → from ≤ j → j < m → p (slice_index cs j) ≡ false → ⊥
past_stop p cs from m j runs lo hi fails = let t : true ≡ false = sym (runs j lo hi) ∙ fails in cc

-- a dot is no part of a name
pub past_dot : (cs : List ℕ) (from m dot : ℕ) → AreAllOfKind is_name_char cs from m → from ≤ dot → dot < m → slice_index cs dot ≡ 46 → ⊥
past_dot cs from m dot runs lo hi e = past_stop is_name_char cs from m dot runs lo hi (rw e refl)

at_least : (a b : ℕ) → ¬ (a < b) → b ≤ a
at_least a b h = omega arith

-- one number lies before another, at it or after it
pub places : (a b : ℕ) → (a < b) ⊎ ((a ≡ b) ⊎ (b < a))
places a b = elim (dec_lt a b) [ yes h ↦ inl h | no h ↦ elim (eq-or-lt_of_le (at_least a b h)) [ inl e ↦ inr (inl (sym e)) | inr h ↦ inr (inr h) ] ]

-- ---- words

name_past : (cs : List ℕ) (i j : ℕ) → i < j → AreAllOfKind is_name_char cs i j → (j < length cs → is_name_char (slice_index cs j) ≡ false)
    → (slice_index cs j ≡ 46 → is_letter (slice_index cs (j + 1)) ≡ true → ⊥) → (m : ℕ) (k : TokenKind) → IsWord k → j < m → m ≤ length cs → Spells cs i m k → ⊥
name_past cs i j lt runs stop no_dot m Name w h le s = past_stop is_name_char cs i m j s.2 (omega arith) h (stop (omega arith))
name_past cs i j lt runs stop no_dot m Dotted w h le s = elim (places s.0 j) [
  | inl before ↦ past_dot cs i j s.0 runs (omega arith) before s.2
  | inr (inl at) ↦ no_dot (rw at at s.2) (rw at at s.3.1)
  | inr (inr after) ↦ past_stop is_name_char cs i s.0 j s.1.2 (omega arith) after (stop (omega arith))
]
name_past cs i j lt runs stop no_dot m _ w h le s = absurd w

pub name_longest : (cs : List ℕ) (i j : ℕ) → is_letter (slice_index cs i) ≡ true → i < j → AreAllOfKind is_name_char cs i j
    → (j < length cs → is_name_char (slice_index cs j) ≡ false) → (slice_index cs j ≡ 46 → is_letter (slice_index cs (j + 1)) ≡ true → ⊥) → NoLonger cs i j
name_longest cs i j l lt runs stop no_dot m k h le s =
    name_past cs i j lt runs stop no_dot m k (word_only (slice_index cs i) k l (first cs i m k (omega arith) s)) h le s

dotted_past : (cs : List ℕ) (i dot j : ℕ) → i < dot → AreAllOfKind is_name_char cs i dot → slice_index cs dot ≡ 46 → dot + 1 < j → AreAllOfKind is_name_char cs (dot + 1) j
    → (j < length cs → is_name_char (slice_index cs j) ≡ false) → (m : ℕ) (k : TokenKind) → IsWord k → j < m → m ≤ length cs → Spells cs i m k → ⊥
dotted_past cs i dot j lt front e more back stop m Name w h le s = past_dot cs i m dot s.2 (omega arith) (omega arith) e
dotted_past cs i dot j lt front e more back stop m Dotted w h le s = elim (places s.0 dot) [
  | inl before ↦ past_dot cs i dot s.0 front (omega arith) before s.2
  | inr (inl at) ↦ past_stop is_name_char cs (s.0 + 1) m j s.3.2 (omega arith) h (stop (omega arith))
  | inr (inr after) ↦ past_dot cs i s.0 dot s.1.2 (omega arith) after e
]
dotted_past cs i dot j lt front e more back stop m _ w h le s = absurd w

pub dotted_longest : (cs : List ℕ) (i dot j : ℕ) → is_letter (slice_index cs i) ≡ true → i < dot → AreAllOfKind is_name_char cs i dot → slice_index cs dot ≡ 46 → dot + 1 < j
    → AreAllOfKind is_name_char cs (dot + 1) j → (j < length cs → is_name_char (slice_index cs j) ≡ false) → NoLonger cs i j
dotted_longest cs i dot j l lt front e more back stop m k h le s =
    dotted_past cs i dot j lt front e more back stop m k (word_only (slice_index cs i) k l (first cs i m k (omega arith) s)) h le s

-- ---- digits

abbrev pub IsDigitsKind : TokenKind → Type 0
IsDigitsKind Digits = Unit {0}
IsDigitsKind _ = ⊥

pub digits_only : (c : ℕ) (k : TokenKind) → is_digit c ≡ true → First k c → IsDigitsKind k
digits_only c Name d f = letter_not_digit c f d
digits_only c Dotted d f = letter_not_digit c f d
digits_only c Digits d f = tt
digits_only c Negative d f = apart is_digit c 45 d refl f
digits_only c Mark d f = apart is_digit c 33 d refl f
digits_only c Text d f = apart is_digit c 34 d refl f
digits_only c (Sign s) d f = sign_not_digit c f d
digits_only c Arrow d f = apart is_digit c 45 d refl f
digits_only c InMemory d f = apart is_digit c 60 d refl f
digits_only c Bad d f = absurd f

digits_past : (cs : List ℕ) (i j : ℕ) → i < j → (j < length cs → is_digit (slice_index cs j) ≡ false)
    → (m : ℕ) (k : TokenKind) → IsDigitsKind k → j < m → m ≤ length cs → Spells cs i m k → ⊥
digits_past cs i j lt stop m Digits w h le s = past_stop is_digit cs i m j s.1 (omega arith) h (stop (omega arith))
digits_past cs i j lt stop m _ w h le s = absurd w

pub digits_longest : (cs : List ℕ) (i j : ℕ) → is_digit (slice_index cs i) ≡ true → i < j → (j < length cs → is_digit (slice_index cs j) ≡ false) → NoLonger cs i j
digits_longest cs i j d lt stop m k h le s =
    digits_past cs i j lt stop m k (digits_only (slice_index cs i) k d (first cs i m k (omega arith) s)) h le s

-- ---- what begins with `-`

abbrev pub IsMinusKind : TokenKind → Type 0
IsMinusKind Negative = Unit {0}
IsMinusKind Arrow = Unit {0}
IsMinusKind _ = ⊥

pub minus_only : (c : ℕ) (k : TokenKind) → c ≡ 45 → First k c → IsMinusKind k
minus_only c Name e f = apart is_letter c 45 f refl e
minus_only c Dotted e f = apart is_letter c 45 f refl e
minus_only c Digits e f = apart is_digit c 45 f refl e
minus_only c Negative e f = tt
minus_only c Mark e f = omega arith
minus_only c Text e f = omega arith
minus_only c (Sign s) e f = apart is_sign c 45 f refl e
minus_only c Arrow e f = tt
minus_only c InMemory e f = omega arith
minus_only c Bad e f = absurd f

negative_past : (cs : List ℕ) (i j : ℕ) → AreDigits cs (i + 1) j → (j < length cs → is_digit (slice_index cs j) ≡ false)
    → (m : ℕ) (k : TokenKind) → IsMinusKind k → j < m → m ≤ length cs → Spells cs i m k → ⊥
negative_past cs i j d stop m Negative w h le s = past_stop is_digit cs (i + 1) m j s.1.1 (omega arith) h (stop (omega arith))
negative_past cs i j d stop m Arrow w h le s = apart is_digit (slice_index cs (i + 1)) 62 (d.1 (i + 1) (omega arith) d.0) refl s.1
negative_past cs i j d stop m _ w h le s = absurd w

pub negative_longest : (cs : List ℕ) (i j : ℕ) → slice_index cs i ≡ 45 → AreDigits cs (i + 1) j → (j < length cs → is_digit (slice_index cs j) ≡ false) → NoLonger cs i j
negative_longest cs i j e d stop m k h le s =
    negative_past cs i j d stop m k (minus_only (slice_index cs i) k e (first cs i m k (omega arith) s)) h le s

arrow_past : (cs : List ℕ) (i : ℕ) → slice_index cs (i + 1) ≡ 62 → (m : ℕ) (k : TokenKind) → IsMinusKind k → i + 2 < m → Spells cs i m k → ⊥
arrow_past cs i e m Negative w h s = apart is_digit (slice_index cs (i + 1)) 62 (s.1.1 (i + 1) (omega arith) s.1.0) refl e
arrow_past cs i e m Arrow w h s = omega arith
arrow_past cs i e m _ w h s = absurd w

pub arrow_longest : (cs : List ℕ) (i : ℕ) → slice_index cs i ≡ 45 → slice_index cs (i + 1) ≡ 62 → NoLonger cs i (i + 2)
arrow_longest cs i e f m k h le s = arrow_past cs i f m k (minus_only (slice_index cs i) k e (first cs i m k (omega arith) s)) h s

lone_minus_past : (cs : List ℕ) (i : ℕ) → is_digit (slice_index cs (i + 1)) ≡ false → slice_index cs (i + 1) ≢ 62 → (m : ℕ) (k : TokenKind) → IsMinusKind k → i < m → Spells cs i m k → ⊥
lone_minus_past cs i d a m Negative w h s = past_stop is_digit cs (i + 1) m (i + 1) s.1.1 (omega arith) s.1.0 d
lone_minus_past cs i d a m Arrow w h s = a s.1
lone_minus_past cs i d a m _ w h s = absurd w

pub lone_minus : (cs : List ℕ) (i : ℕ) → slice_index cs i ≡ 45 → is_digit (slice_index cs (i + 1)) ≡ false → slice_index cs (i + 1) ≢ 62 → NoLonger cs i i
lone_minus cs i e d a m k h le s = lone_minus_past cs i d a m k (minus_only (slice_index cs i) k e (first cs i m k h s)) h s

-- ---- what begins with `!`

abbrev pub IsMarkKind : TokenKind → Type 0
IsMarkKind Mark = Unit {0}
IsMarkKind _ = ⊥

pub mark_only : (c : ℕ) (k : TokenKind) → c ≡ 33 → First k c → IsMarkKind k
mark_only c Name e f = apart is_letter c 33 f refl e
mark_only c Dotted e f = apart is_letter c 33 f refl e
mark_only c Digits e f = apart is_digit c 33 f refl e
mark_only c Negative e f = omega arith
mark_only c Mark e f = tt
mark_only c Text e f = omega arith
mark_only c (Sign s) e f = apart is_sign c 33 f refl e
mark_only c Arrow e f = omega arith
mark_only c InMemory e f = omega arith
mark_only c Bad e f = absurd f

mark_past : (cs : List ℕ) (i j : ℕ) → i < j → (j < length cs → is_digit (slice_index cs j) ≡ false)
    → (m : ℕ) (k : TokenKind) → IsMarkKind k → j < m → m ≤ length cs → Spells cs i m k → ⊥
mark_past cs i j lt stop m Mark w h le s = past_stop is_digit cs (i + 1) m j s.1.1 (omega arith) h (stop (omega arith))
mark_past cs i j lt stop m _ w h le s = absurd w

pub mark_longest : (cs : List ℕ) (i j : ℕ) → slice_index cs i ≡ 33 → i < j → (j < length cs → is_digit (slice_index cs j) ≡ false) → NoLonger cs i j
mark_longest cs i j e lt stop m k h le s = mark_past cs i j lt stop m k (mark_only (slice_index cs i) k e (first cs i m k (omega arith) s)) h le s

lone_mark_past : (cs : List ℕ) (i : ℕ) → is_digit (slice_index cs (i + 1)) ≡ false → (m : ℕ) (k : TokenKind) → IsMarkKind k → Spells cs i m k → ⊥
lone_mark_past cs i d m Mark w s = past_stop is_digit cs (i + 1) m (i + 1) s.1.1 (omega arith) s.1.0 d
lone_mark_past cs i d m _ w s = absurd w

pub lone_mark : (cs : List ℕ) (i : ℕ) → slice_index cs i ≡ 33 → is_digit (slice_index cs (i + 1)) ≡ false → NoLonger cs i i
lone_mark cs i e d m k h le s = lone_mark_past cs i d m k (mark_only (slice_index cs i) k e (first cs i m k h s)) s

-- ---- texts

pub closes_after : (cs : List ℕ) {i j : ℕ} → ClosesText cs i j → i < j
closes_after cs (closing e j) = omega arith
closes_after cs (plain a b n c) = let after = closes_after cs c in omega (arith, after)
closes_after cs (escaped a n c) = let after = closes_after cs c in omega (arith, after)

abbrev pub IsTextKind : TokenKind → Type 0
IsTextKind Text = Unit {0}
IsTextKind _ = ⊥

pub text_only : (c : ℕ) (k : TokenKind) → c ≡ 34 → First k c → IsTextKind k
text_only c Name e f = apart is_letter c 34 f refl e
text_only c Dotted e f = apart is_letter c 34 f refl e
text_only c Digits e f = apart is_digit c 34 f refl e
text_only c Negative e f = omega arith
text_only c Mark e f = omega arith
text_only c Text e f = tt
text_only c (Sign s) e f = apart is_sign c 34 f refl e
text_only c Arrow e f = omega arith
text_only c InMemory e f = omega arith
text_only c Bad e f = absurd f

two_codes : ◌≡◌ {A = ℕ} 34 92 → ⊥
two_codes e = omega arith

-- a text ends at one place
closes_once : (cs : List ℕ) {i j m : ℕ} → ClosesText cs i j → ClosesText cs i m → j ≡ m
closes_once cs (closing a e) (closing b f) = e ∙ sym f
closes_once cs (closing a e) (plain b d n c) = absurd (b a)
closes_once cs (closing a e) (escaped b n c) = absurd (two_codes (sym a ∙ b))
closes_once cs (plain a b n c) (closing d e) = absurd (a d)
closes_once cs (plain a b n c) (plain d e o f) = closes_once cs c (rw (o ∙ sym n) at f)
closes_once cs (plain a b n c) (escaped d e f) = absurd (b d)
closes_once cs (escaped a n c) (closing d e) = absurd (two_codes (sym d ∙ a))
closes_once cs (escaped a n c) (plain d e o f) = absurd (e a)
closes_once cs (escaped a n c) (escaped d o f) = closes_once cs c (rw (o ∙ sym n) at f)

text_past : (cs : List ℕ) (i j : ℕ) → ClosesText cs (i + 1) j → (m : ℕ) (k : TokenKind) → IsTextKind k → j < m → Spells cs i m k → ⊥
text_past cs i j c m Text w h s = let e = closes_once cs c s.1 in omega (arith, e)
text_past cs i j c m _ w h s = absurd w

pub text_longest : (cs : List ℕ) (i j : ℕ) → slice_index cs i ≡ 34 → ClosesText cs (i + 1) j → NoLonger cs i j
text_longest cs i j e c m k h le s =
    let after = closes_after cs c in
    text_past cs i j c m k (text_only (slice_index cs i) k e (first cs i m k (omega (arith, after)) s)) h s

unclosed_past : (cs : List ℕ) (i : ℕ) → ((j : ℕ) → j ≤ length cs → ClosesText cs (i + 1) j → ⊥) → (m : ℕ) (k : TokenKind) → IsTextKind k → m ≤ length cs → Spells cs i m k → ⊥
unclosed_past cs i c m Text w le s = c m le s.1
unclosed_past cs i c m _ w le s = absurd w

pub unclosed : (cs : List ℕ) (i : ℕ) → slice_index cs i ≡ 34 → ((j : ℕ) → j ≤ length cs → ClosesText cs (i + 1) j → ⊥) → NoLonger cs i i
unclosed cs i e c m k h le s = unclosed_past cs i c m k (text_only (slice_index cs i) k e (first cs i m k h s)) le s

-- the steps of a search for the end of a text
pub closes_plain : (cs : List ℕ) (i : ℕ) → slice_index cs i ≢ 34 → slice_index cs i ≢ 92 → (j : ℕ) → ClosesText cs i j → ClosesText cs (i + 1) j
closes_plain cs i a b j (closing e n) = absurd (a e)
closes_plain cs i a b j (plain d e n c) = rw n at c
closes_plain cs i a b j (escaped e n c) = absurd (b e)

pub closes_escaped : (cs : List ℕ) (i : ℕ) → slice_index cs i ≡ 92 → (j : ℕ) → ClosesText cs i j → ClosesText cs (i + 2) j
closes_escaped cs i a j (closing e n) = absurd (two_codes (sym e ∙ a))
closes_escaped cs i a j (plain d e n c) = absurd (e a)
closes_escaped cs i a j (escaped e n c) = rw n at c

pub closes_inside : (cs : List ℕ) (i j : ℕ) → length cs ≤ i → j ≤ length cs → ClosesText cs i j → ⊥
closes_inside cs i j past le c = let after = closes_after cs c in omega (arith, after)

-- ---- signs

abbrev pub IsSignKind : TokenKind → Type 0
IsSignKind (Sign _) = Unit {0}
IsSignKind InMemory = Unit {0}
IsSignKind _ = ⊥

pub sign_only : (c : ℕ) (k : TokenKind) → is_sign c ≡ true → First k c → IsSignKind k
sign_only c Name e f = sign_not_letter c e f
sign_only c Dotted e f = sign_not_letter c e f
sign_only c Digits e f = sign_not_digit c e f
sign_only c Negative e f = apart is_sign c 45 e refl f
sign_only c Mark e f = apart is_sign c 33 e refl f
sign_only c Text e f = apart is_sign c 34 e refl f
sign_only c (Sign s) e f = tt
sign_only c Arrow e f = apart is_sign c 45 e refl f
sign_only c InMemory e f = tt
sign_only c Bad e f = absurd f

sign_past : (cs : List ℕ) (i : ℕ) → (IsInMemory cs i → ⊥) → (m : ℕ) (k : TokenKind) → IsSignKind k → i + 1 < m → Spells cs i m k → ⊥
sign_past cs i a m (Sign c) w h s = omega arith
sign_past cs i a m InMemory w h s = a s.0
sign_past cs i a m _ w h s = absurd w

pub sign_longest : (cs : List ℕ) (i : ℕ) → is_sign (slice_index cs i) ≡ true → (IsInMemory cs i → ⊥) → NoLonger cs i (i + 1)
sign_longest cs i e a m k h le s = sign_past cs i a m k (sign_only (slice_index cs i) k e (first cs i m k (omega arith) s)) h s

in_memory_past : (cs : List ℕ) (i m : ℕ) (k : TokenKind) → IsSignKind k → i + 11 < m → Spells cs i m k → ⊥
in_memory_past cs i m (Sign c) w h s = omega arith
in_memory_past cs i m InMemory w h s = omega arith
in_memory_past cs i m _ w h s = absurd w

pub in_memory_longest : (cs : List ℕ) (i : ℕ) → slice_index cs i ≡ 60 → NoLonger cs i (i + 11)
in_memory_longest cs i e m k h le s = in_memory_past cs i m k (sign_only (slice_index cs i) k (rw e refl) (first cs i m k (omega arith) s)) h s

-- ---- what begins no token

nothing : (c : ℕ) (k : TokenKind) → is_letter c ≡ false → is_digit c ≡ false → c ≢ 45 → c ≢ 33 → c ≢ 34 → is_sign c ≡ false → First k c → ⊥
nothing c Name l d a b t s f = let e : true ≡ false = sym f ∙ l in cc
nothing c Dotted l d a b t s f = let e : true ≡ false = sym f ∙ l in cc
nothing c Digits l d a b t s f = let e : true ≡ false = sym f ∙ d in cc
nothing c Negative l d a b t s f = a f
nothing c Mark l d a b t s f = b f
nothing c Text l d a b t s f = t f
nothing c (Sign x) l d a b t s f = let e : true ≡ false = sym f ∙ s in cc
nothing c Arrow l d a b t s f = a f
nothing c InMemory l d a b t s f = let e : is_sign 60 ≡ false = rw f at s in let e2 : true ≡ false = e in cc
nothing c Bad l d a b t s f = f

pub begins_none : (cs : List ℕ) (i : ℕ) → is_letter (slice_index cs i) ≡ false → is_digit (slice_index cs i) ≡ false → slice_index cs i ≢ 45 → slice_index cs i ≢ 33
    → slice_index cs i ≢ 34 → is_sign (slice_index cs i) ≡ false → NoLonger cs i i
begins_none cs i l d a b t s m k h le sp = nothing (slice_index cs i) k l d a b t s (first cs i m k h sp)

-- ---- for the answers

-- what holds of a character and not of 0 holds inside the text
pub here : (p : ℕ → Bool) (cs : List ℕ) (n : ℕ) → p 0 ≡ false → p (slice_index cs n) ≡ true → n < length cs
here p cs n none some = elim (places n (length cs)) [
  | inl before ↦ before
  | inr (inl at) ↦ absurd (apart p (slice_index cs n) 0 some none (get_or_past cs n 0 (omega arith)))
  | inr (inr after) ↦ absurd (apart p (slice_index cs n) 0 some none (get_or_past cs n 0 (omega arith)))
]

is_greater : (cs : List ℕ) (i : ℕ) → IsInMemory cs i → (slice_index cs (i + 10) == 62) ≡ true
is_greater cs i h = let e : slice_index cs (i + 10) ≡ 62 = h 10 (omega arith) in rw e refl

pub in_memory_begins : (cs : List ℕ) (i : ℕ) → IsInMemory cs i → slice_index cs i ≡ 60
in_memory_begins cs i h = grind (arith, h 0 (omega arith))

pub in_memory_inside : (cs : List ℕ) (i : ℕ) → IsInMemory cs i → i + 11 ≤ length cs
in_memory_inside cs i h = let inside = here (λ c. c == 62) cs (i + 10) refl (is_greater cs i h) in omega (arith, inside)

-- where a name begins, its end lies after its begin
pub goes_on : (cs : List ℕ) (from to : ℕ) → is_letter (slice_index cs from) ≡ true → from ≤ to → (to < length cs → is_name_char (slice_index cs to) ≡ false) → from < to
goes_on cs from to letter le stop = elim (eq-or-lt_of_le le) [
  | inl e ↦
      let named : is_name_char (slice_index cs from) ≡ true = rw letter refl in
      let fails : is_name_char (slice_index cs from) ≡ false = rw e (stop (rw (← e) (here is_letter cs from refl letter))) in
      let t : true ≡ false = sym named ∙ fails in cc
  | inr lt ↦ lt
]
