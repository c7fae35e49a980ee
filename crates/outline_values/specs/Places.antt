-- Places in a text that lie behind one another.
use Rattle.std.specs.Prelude.{◌<◌, ℕ, List, [], ◌∷◌, length}
use Rattle.std.specs.Char.{is_whitespace}
use Rattle.std.specs.List.{take_while}
use Rattle.text_streams.specs.declared.position.Position.{Position}
use Rattle.text_streams.specs.Positions.{left, LiesBehind}

-- one place lies behind another, by some characters or none
pub record GoesTo (from to : Position) : Type 0 where
  pub taken : List ℕ
  pub behind : LiesBehind from to taken

-- by one character at least
pub record Passes (from to : Position) : Type 0 where
  pub goes : GoesTo from to
  pub less : length (left to) < length (left from)

-- by white space and this sign
pub record TakesSign (sign : ℕ) (from to : Position) : Type 0 where
  pub start : Position
  pub spaces : LiesBehind from start (take_while is_whitespace (left from))
  pub behind : LiesBehind start to (sign ∷ [])
