-- Names in brackets.
use Rattle.std.specs.Prelude.{◌≡◌, ◌⊎◌, List, [], ◌∷◌, ◌++◌, Option, None, Some}
use Rattle.ir_names.specs.declared.identifier.Identifier.{Identifier}
use Rattle.ir_names.specs.Identifier.{text_of}
use Rattle.text_streams.specs.declared.position.Position.{Position}
use Rattle.stream_tokens.specs.declared.lexemes.Lexeme.{Lexeme}
use Rattle.stream_tokens.specs.Lexemes.{IsLexeme}
use Rattle.outline_values.specs.Places.{TakesSign}

-- the next token has the characters of this identifier
pub record TakesName (from : Position) (name : Identifier) (to : Position) : Type 0 where
  pub token : Lexeme
  pub next : IsLexeme from token
  pub spelled : text_of name ≡ token.text.items
  pub ends : to ≡ token.end

-- a name, or `?` (63) for none
abbrev pub SaysName : Position → Option Identifier → Position → Type 0
SaysName from None to = TakesSign 63 from to
SaysName from (Some name) to = TakesName from name to

-- one more name is there, and it was added
pub record AddsName (from : Position) (old new : List (Option Identifier)) (to : Position) : Type 0 where
  pub name : Option Identifier
  pub last : new ≡ old ++ name ∷ []
  pub says : SaysName from name to

-- one name or more, with `,` (44) between two
pub data AreNames (from : Position) : List (Option Identifier) → Position → Type 0 where
  first_name : {new : List (Option Identifier)} {to : Position} → AddsName from [] new to → AreNames from new to
  next_name : {old new : List (Option Identifier)} {mid next to : Position} → AreNames from old mid → TakesSign 44 mid next → AddsName next old new to
      → AreNames from new to

-- these names, or none, between `[` (91) and `]` (93)
pub record SaysNames (from : Position) (names : List (Option Identifier)) (to : Position) : Type 0 where
  pub start : Position
  pub open_bracket : TakesSign 91 from start
  pub end : Position
  pub inside : ((names ≡ []) × (end ≡ start)) ⊎ AreNames start names end
  pub close_bracket : TakesSign 93 end to
