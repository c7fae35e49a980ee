-- The tokens of a text, by the places of its characters.
use Rattle.std.specs.Prelude.{◌≡◌, ◌≢◌, ℕ, ◌+◌, ◌<◌, ◌≤◌, ◌&&◌, ◌||◌, ◌==◌, nat_le, Bool, true, false, List, [], ◌∷◌, length, slice_index, slice_range, codes, if◌then◌else◌}
use Rattle.ir_characters.specs.Texts.{trimmed}
use Rattle.std.specs.Char.{is_whitespace}
use Rattle.std.specs.List.{list_any}
use Rattle.ir_tokens.specs.declared.tokens.TokenKind.{TokenKind}
use Rattle.ir_tokens.specs.declared.tokens.TokenKind.TheVariants.{Name, Dotted, Digits, Negative, Mark, Text, Sign, Arrow, InMemory, Bad}
use Rattle.ir_tokens.specs.declared.tokens.Token.{Token}

-- ---- characters

-- a letter or `_`
abbrev pub is_letter : ℕ → Bool
is_letter c = (nat_le 97 c && nat_le c 122) || (nat_le 65 c && nat_le c 90) || c == 95

-- a decimal digit
abbrev pub is_digit : ℕ → Bool
is_digit c = nat_le 48 c && nat_le c 57

-- what may stand in a name behind its first letter
abbrev pub is_name_char : ℕ → Bool
is_name_char c = is_letter c || is_digit c

-- one of { } ( ) [ ] < > , ; : = @ ^ ?
abbrev pub is_sign : ℕ → Bool
is_sign c = list_any (λ s. c == s) (codes "{}()[]<>,;:=@^?")

-- ---- what the characters from i to before j spell

-- each of these characters is of this kind
abbrev pub AreAllOfKind : (ℕ → Bool) → List ℕ → ℕ → ℕ → Type 0
AreAllOfKind p cs i j = (k : ℕ) → i ≤ k → k < j → p (slice_index cs k) ≡ true

-- a letter, then letters and digits
abbrev pub IsName : List ℕ → ℕ → ℕ → Type 0
IsName cs i j = (i < j) × (is_letter (slice_index cs i) ≡ true) × AreAllOfKind is_name_char cs i j

-- one digit or more
abbrev pub AreDigits : List ℕ → ℕ → ℕ → Type 0
AreDigits cs i j = (i < j) × AreAllOfKind is_digit cs i j

-- From i on a text goes on, and its closing `"` (34) stands in front of j. A `\` (92) takes the next character with it.
pub data ClosesText (cs : List ℕ) : ℕ → ℕ → Type 0 where
  closing : {i j : ℕ} → slice_index cs i ≡ 34 → j ≡ i + 1 → ClosesText cs i j
  plain : {i n j : ℕ} → slice_index cs i ≢ 34 → slice_index cs i ≢ 92 → n ≡ i + 1 → ClosesText cs n j → ClosesText cs i j
  escaped : {i n j : ℕ} → slice_index cs i ≡ 92 → n ≡ i + 2 → ClosesText cs n j → ClosesText cs i j

-- `<in-memory>` stands at i
abbrev pub IsInMemory : List ℕ → ℕ → Type 0
IsInMemory cs i = (k : ℕ) → k < 11 → slice_index cs (i + k) ≡ slice_index (codes "<in-memory>") k

-- The characters have the form of a token of this kind. `.` is 46, `-` 45, `!` 33, `"` 34 and `>` 62; a bad token has no characters.
abbrev pub Spells : List ℕ → ℕ → ℕ → TokenKind → Type 0
Spells cs i j Name = IsName cs i j
Spells cs i j Dotted = (dot : ℕ) × IsName cs i dot × (slice_index cs dot ≡ 46) × IsName cs (dot + 1) j
Spells cs i j Digits = AreDigits cs i j
Spells cs i j Negative = (slice_index cs i ≡ 45) × AreDigits cs (i + 1) j
Spells cs i j Mark = (slice_index cs i ≡ 33) × AreDigits cs (i + 1) j
Spells cs i j Text = (slice_index cs i ≡ 34) × ClosesText cs (i + 1) j
Spells cs i j (Sign c) = (is_sign c ≡ true) × (slice_index cs i ≡ c) × (j ≡ i + 1)
Spells cs i j Arrow = (slice_index cs i ≡ 45) × (slice_index cs (i + 1) ≡ 62) × (j ≡ i + 2)
Spells cs i j InMemory = IsInMemory cs i × (j ≡ i + 11)
Spells cs i j Bad = j ≡ i

-- ---- the tokens of a text

-- no token from i on goes past j
abbrev pub NoLonger : List ℕ → ℕ → ℕ → Type 0
NoLonger cs i j = (m : ℕ) (other : TokenKind) → j < m → m ≤ length cs → Spells cs i m other → ⊥

-- What begins at i is a token of this kind that ends before this place, and no token from i on is longer.
pub record IsLongestToken (cs : List ℕ) (i : ℕ) (found : TokenKind × ℕ) : Type 0 where
  pub inside : found.1 ≤ length cs
  pub spelled : Spells cs i found.1 found.0
  pub longest : NoLonger cs i found.1

-- The token stands in the text, begins with no white space, and is the longest from its start on.
pub record IsToken (cs : List ℕ) (t : Token) : Type 0 where
  pub begins : t.start < length cs
  pub visible : is_whitespace (slice_index cs t.start) ≡ false
  pub inside : t.end ≤ length cs
  pub spelled : Spells cs t.start t.end t.kind
  pub longest : NoLonger cs t.start t.end

-- nothing but white space from i to before j
abbrev pub IsGap : List ℕ → ℕ → ℕ → Type 0
IsGap cs i j = AreAllOfKind is_whitespace cs i j

-- the first of two facts behind a bad token, and the second behind any other
abbrev pub LastIfBad : TokenKind → Type 0 → Type 0 → Type 0
LastIfBad Bad last more = last
LastIfBad _ last more = more

-- From i on the text is these tokens with white space between them, or up to its first bad token.
abbrev pub ReadsAs : List ℕ → ℕ → List Token → Type 0
ReadsAs cs i [] = IsGap cs i (length cs)
ReadsAs cs i (t ∷ ts) = (i ≤ t.start) × IsGap cs i t.start × IsToken cs t × LastIfBad t.kind (ts ≡ []) (ReadsAs cs t.end ts)

-- ---- places

-- a bad token
abbrev pub is_bad : TokenKind → Bool
is_bad Bad = true
is_bad _ = false

-- Where the tokens of a text begin, and behind these where the text of the last one ends: at the end of the text, or where a bad
-- token stands.
abbrev pub starts_of : List ℕ → List Token → List ℕ
starts_of cs [] = length cs ∷ []
starts_of cs (t ∷ ts) = t.start ∷ (if is_bad t.kind then t.end ∷ [] else starts_of cs ts)

-- The characters of the token with this number, where tokens begin at these places: what stands there up to the next one, without
-- the white space between them.
abbrev pub text_between : List ℕ → List ℕ → ℕ → List ℕ
text_between cs starts k = trimmed (slice_range cs (slice_index starts k) (slice_index starts (k + 1)))

-- the place after these characters, from this line and column on; a line ends after a line feed
abbrev pub place_from : ℕ → ℕ → List ℕ → ℕ × ℕ
place_from line column [] = (line, column)
place_from line column (c ∷ cs) = if c == 10 then place_from (line + 1) 1 cs else place_from line (column + 1) cs

-- the line and the column of the character after this front of a text, from 1
abbrev pub place : List ℕ → ℕ × ℕ
place = place_from 1 1
