-- A place in a text, and the characters from there on.
use Rattle.std.specs.Prelude.{ℕ, ◌+◌, ◌≡◌, ◌==◌, List, ◌++◌, chars, length, fold, if◌then◌else◌}
use Rattle.text_streams.specs.declared.position.Position.{Position}

-- the characters from a place on
abbrev pub left : Position → List ℕ
left position = chars position.rest.now

-- how many bytes these are
abbrev pub bytes_left : Position → ℕ
bytes_left position = length position.rest.now

-- its line and column, each from 1
abbrev pub place : Position → ℕ × ℕ
place position = (position.line, position.column)

-- the place behind a character: a line feed (10) ends a line
abbrev pub behind : ℕ × ℕ → ℕ → ℕ × ℕ
behind at c = if c == 10 then (at.0 + 1, 1) else (at.0, at.1 + 1)

-- the place behind characters
abbrev pub behind_all : ℕ × ℕ → List ℕ → ℕ × ℕ
behind_all at cs = fold behind at cs

-- one place lies behind another by these characters
pub record LiesBehind (from to : Position) (cs : List ℕ) : Type 0 where
  pub taken : left from ≡ cs ++ left to
  pub counted : place to ≡ behind_all (place from) cs
