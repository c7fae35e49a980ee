-- The kinds of tokens, and which are spelled alike.
use Rattle.std.specs.Prelude.{◌≡◌, ◌↔◌, ℕ, ◌+◌, ◌&&◌, ◌||◌, ◌==◌, nat_lt, nat_le, Bool, true, false, List, [], ◌∷◌, length, map, Some, slice_get, slice_index, slice_range, if◌then◌else◌}
use Rattle.std.specs.List.{list_all}
use Rattle.ir_characters.specs.Texts.{owned_codes}
use Rattle.ir_characters.specs.declared.characters.Characters.{Characters}
use Rattle.ir_tokens.specs.declared.tokens.TokenKind.{TokenKind}
use Rattle.ir_tokens.specs.declared.tokens.TokenKind.TheVariants.{Name, Digits, Negative, Mark, Text}
use Rattle.ir_tokens.specs.declared.tokens.Token.{Token}
use Rattle.ir_formats.specs.declared.rules.Shape.{Shape}
use Rattle.ir_formats.specs.declared.rules.Shape.TheVariants as shapes
use Rattle.ir_tokens.specs.Tokens.{is_digit, starts_of, ReadsAs}
use Rattle.ir_formats.specs.Rules.{number_of, with_word}
use Rattle.std.specs.Option.{option_map_or}

-- the characters of a token of the text
abbrev pub text_of : List ℕ → Token → List ℕ
text_of cs t = if nat_le t.start t.end && nat_le t.end (length cs) then slice_range cs t.start t.end else []

-- the kinds of the shapes
abbrev pub shape_number : Shape → ℕ
shape_number shapes.Name = 0
shape_number shapes.Width = 1
shape_number shapes.Digits = 2
shape_number shapes.Negative = 3
shape_number shapes.Text = 4
shape_number shapes.Mark = 5
shape_number shapes.Other = 6

-- words as characters
abbrev pub spellings : List Characters → List (List ℕ)
spellings words = map owned_codes words

-- one digit or more
abbrev pub are_digits : List ℕ → Bool
are_digits cs = list_all is_digit cs && nat_lt 0 (length cs)

-- what comes behind a first `i`, as a width (`i` is 105)
abbrev pub is_signless_width : List ℕ → Bool
is_signless_width [] = false
is_signless_width (c ∷ cs) = (if c == 105 then are_digits cs else false)

-- `i`, `si` or `ui` with digits behind it (`s` is 115, `u` 117)
abbrev pub is_width : List ℕ → Bool
is_width [] = false
is_width (c ∷ cs) = (if c == 105 then are_digits cs else (if c == 115 || c == 117 then is_signless_width cs else false))

-- `"` (34) and `\` (92) may stand behind a `\`
abbrev pub is_special : ℕ → Bool
is_special c = c == 34 || c == 92

abbrev mutual
  -- Up to the closing `"`, each `\` has a `"` or a `\` behind it.
  pub are_whole : List ℕ → Bool
  are_whole [] = true
  are_whole (c ∷ cs) = if c == 92 then is_whole cs else (if c == 34 then true else are_whole cs)

  -- a character that may stand behind a `\`, and then the same
  pub is_whole : List ℕ → Bool
  is_whole [] = false
  is_whole (c ∷ cs) = is_special c && are_whole cs

-- The same behind the opening `"`. A text with a `\` before another character is no text of the grammar.
abbrev pub is_quotation : List ℕ → Bool
is_quotation [] = false
is_quotation (c ∷ cs) = are_whole cs

-- the kind of a token that is no word of the grammar: names have 0, widths 1, digits 2, negative numbers 3,
-- texts in quotes 4, marks 5 and all others 6
abbrev pub shape_kind : TokenKind → List ℕ → ℕ
shape_kind Name text = if is_width text then 1 else 0
shape_kind Digits text = 2
shape_kind Negative text = 3
shape_kind Text text = if is_quotation text then 4 else 6
shape_kind Mark text = 5
shape_kind _ text = 6

-- the token may be a word of the grammar or a name: it is no number, text or mark
abbrev pub is_spelled : TokenKind → Bool
is_spelled Digits = false
is_spelled Negative = false
is_spelled Mark = false
is_spelled Text = false
is_spelled _ = true

-- the texts of tokens that may be words or names
abbrev pub spelled_texts : List ℕ → List Token → List (List ℕ)
spelled_texts cs [] = []
spelled_texts cs (t ∷ ts) = if is_spelled t.kind then text_of cs t ∷ spelled_texts cs ts else spelled_texts cs ts

-- the number of a token among these texts, or the given one if it is no word and no name
abbrev pub name_number : List (List ℕ) → ℕ → List ℕ → Token → ℕ
name_number all none cs t = if is_spelled t.kind then number_of all (text_of cs t) else none

-- This is the number of a word, of so many, that has a kind of its own. Kinds end at 2^32 - 1, far past those of any dialect, and words
-- past that have none.
abbrev pub has_kind : ℕ → ℕ → Bool
has_kind number words = nat_lt number words && nat_lt number 4294967288

-- the kind of the word of this number, of so many, or of a token that is none of them
abbrev pub word_kind : ℕ → ℕ → ℕ → ℕ
word_kind number words shape = if has_kind number words then number + 7 else shape

-- the kind of a token: a word of the grammar has that of the word, and any other that of its shape
abbrev pub kind_of : List (List ℕ) → List ℕ → Token → ℕ
kind_of words cs t = if is_spelled t.kind
    then word_kind (number_of words (text_of cs t)) (length words) (shape_kind t.kind (text_of cs t))
    else shape_kind t.kind (text_of cs t)

-- the texts with that of a token that may be a word or a name
abbrev pub known_with : List (List ℕ) → List ℕ → Token → List (List ℕ)
known_with known cs t = if is_spelled t.kind then with_word known (text_of cs t) else known

-- two tokens that may be words or names have one number exactly where they have the same characters
abbrev pub AlikeInNumber : List ℕ → List Token → List ℕ → Type 0
AlikeInNumber cs ts numbers = (i j : ℕ) (s t : Token) → slice_get ts i ≡ Some s → slice_get ts j ≡ Some t
    → is_spelled s.kind ≡ true → is_spelled t.kind ≡ true → (slice_index numbers i ≡ slice_index numbers j) ↔ (text_of cs s ≡ text_of cs t)

-- the characters of the token with this number, none behind the last
abbrev pub token_text : List ℕ → List Token → ℕ → List ℕ
token_text cs ts k = option_map_or (text_of cs) (slice_get ts k) []

-- The tokens of a text, up to its end or its first bad one, by where they begin, by their kinds, and by numbers of those that may be
-- words or names.
pub record AreClassified (words : List (List ℕ)) (cs : List ℕ) (ts : List Token) (starts numbers names : List ℕ) : Type 0 where
  pub tokens : ReadsAs cs 0 ts
  pub places : starts ≡ starts_of cs ts
  pub kinds : numbers ≡ map (kind_of words cs) ts
  pub alike : AlikeInNumber cs ts names
  pub many : length names ≡ length ts
