-- The next token of characters.
use Rattle.std.specs.Prelude.{◌≡◌, ◌≤◌, ◌<◌, ◌+◌, ℕ, Bool, true, false, List, ◌++◌, length, slice_index}
use Rattle.std.specs.Char.{is_whitespace}
use Rattle.std.specs.List.{take_while}
use Rattle.ir_tokens.specs.declared.tokens.TokenKind.{TokenKind}
use Rattle.ir_tokens.specs.Tokens.{AreAllOfKind, ClosesText, IsLongestToken}
use Rattle.text_streams.specs.declared.position.Position.{Position}
use Rattle.text_streams.specs.Positions.{left, LiesBehind}
use Rattle.stream_tokens.specs.declared.lexemes.Lexeme.{Lexeme}
use Rattle.stream_tokens.specs.declared.scan.Scan.{Scan}

-- ---- the next token

-- Behind the white space that the characters begin with this token stands, the longest there, and this is left behind it.
pub record IsNextToken (cs : List ℕ) (kind : TokenKind) (text rest : List ℕ) : Type 0 where
  pub stands : cs ≡ take_while is_whitespace cs ++ (text ++ rest)
  pub longest : IsLongestToken (text ++ rest) 0 (kind, length text)

-- It is the next token from a place on, and it lies between its start and its end.
pub record IsLexeme (from : Position) (token : Lexeme) : Type 0 where
  pub next : IsNextToken (left from) token.kind token.text.items (left token.end)
  pub before : LiesBehind from token.start (take_while is_whitespace (left from))
  pub behind : LiesBehind token.start token.end token.text.items

-- ---- a token that is being read

-- what was taken lies between the start and the place
abbrev pub Stands : Scan → Type 0
Stands s = LiesBehind s.start s.position s.text.items

-- one more character was taken, or there is none
abbrev pub TookOne : Scan → Scan → Bool → Type 0
TookOne old new true = (length old.text.items < length (left old.start)) × (length new.text.items ≡ length old.text.items + 1)
TookOne old new false = (new ≡ old) × (length (left old.start) ≡ length old.text.items)

-- more was taken, each character of this sort, and the next one isn't
pub record Ran (p : ℕ → Bool) (old new : Scan) : Type 0 where
  pub start : new.start ≡ old.start
  pub stands : Stands new
  pub further : length old.text.items ≤ length new.text.items
  pub runs : AreAllOfKind p (left old.start) (length old.text.items) (length new.text.items)
  pub stops : length new.text.items < length (left old.start) → p (slice_index (left old.start) (length new.text.items)) ≡ false

-- what was taken is the longest token at the start, and of this kind
pub record IsFront (old new : Scan) (kind : TokenKind) : Type 0 where
  pub start : new.start ≡ old.start
  pub stands : Stands new
  pub longest : IsLongestToken (left old.start) 0 (kind, length new.text.items)

-- what stands up to the closing quote was taken with it, or there is none
abbrev pub Closes : Scan → Scan → Bool → Type 0
Closes old new true = ClosesText (left old.start) (length old.text.items) (length new.text.items)
Closes old new false = (j : ℕ) → j ≤ length (left old.start) → ClosesText (left old.start) (length old.text.items) j → ⊥

pub record Closed (old new : Scan) (found : Bool) : Type 0 where
  pub start : new.start ≡ old.start
  pub stands : Stands new
  pub closes : Closes old new found
