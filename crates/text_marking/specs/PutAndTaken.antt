-- Marks that are put into a text and taken again.
use Rattle.std.specs.Prelude.{◌≡◌, ℕ, ◌^◌, ◌<◌, ◌≤◌, ◌==◌, ◌&&◌, nat_lt, not, Bool, true, false, List, [], ◌∷◌, Option, Some, filter, length, map, slice_index}
use Rattle.std.specs.List.{list_any}
use Rattle.ir_characters.specs.Texts.{owned_codes}
use Rattle.ir_tokens.specs.declared.tokens.TokenKind.{TokenKind}
use Rattle.ir_tokens.specs.declared.tokens.Token.{Token}
use Rattle.ir_tokens.specs.Tokens.{is_bad, is_digit, ReadsAs}
use Rattle.text_marking.specs.declared.taking.Mark.{Mark}
use Rattle.text_marking.specs.declared.taking.MarkedText.{MarkedText}
use Rattle.text_marking.specs.Marks.{token_characters}

-- one of the tokens, which isn't bad, ends at this offset
abbrev pub is_token_end : List Token → ℕ → Bool
is_token_end ts offset = list_any (λ t. not (is_bad t.kind) && t.end == offset) ts

-- Marks can be put in at these offsets of a text that has these tokens: the offsets are in rising order, from this one on.
-- At each a token ends, and no digit follows, which would be one of the mark. The numbers are below 2^64.
abbrev pub CanPut : List ℕ → List Token → ℕ → List (ℕ × ℕ) → Type 0
CanPut cs ts from [] = Unit {0}
CanPut cs ts from (m ∷ ms) = (from ≤ m.0) × (is_token_end ts m.0 ≡ true) × (is_digit (slice_index cs m.0) ≡ false)
    × (m.1 < 2 ^ 64) × CanPut cs ts m.0 ms

-- the kind and the characters of a token
abbrev pub kind_and_characters : List ℕ → Token → TokenKind × List ℕ
kind_and_characters cs t = (t.kind, token_characters cs t)

-- how many tokens begin before this offset
abbrev pub count_before : List Token → ℕ → ℕ
count_before ts offset = length (filter (λ t. nat_lt t.start offset) ts)

-- the number of a mark, and how many other tokens are before it
abbrev pub number_and_tokens : Mark → Option ℕ × ℕ
number_and_tokens m = (m.number, m.tokens_before)

-- what these are of a mark that is put in at an offset
abbrev pub put_number_and_tokens : List Token → ℕ × ℕ → Option ℕ × ℕ
put_number_and_tokens ts m = (Some m.1, count_before ts m.0)

-- What was taken of a text into which these marks were put gives both back: the tokens that the text had without them, in
-- order and with their characters, and the marks, each behind as many tokens as it was put behind.
pub record GivesBack (cs : List ℕ) (ts : List Token) (ms : List (ℕ × ℕ)) (taken : MarkedText) : Type 0 where
  pub tokens : (us : List Token) → ReadsAs (owned_codes taken.bare) 0 us
      → map (kind_and_characters (owned_codes taken.bare)) us ≡ map (kind_and_characters cs) ts
  pub marks : map number_and_tokens taken.marks.items ≡ map (put_number_and_tokens ts) ms
