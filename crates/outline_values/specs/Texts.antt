-- Texts in quotes, behind white space.
use Rattle.std.specs.Prelude.{◌≡◌, Some, encode_utf8_all}
use Rattle.std.specs.Char.{is_whitespace}
use Rattle.std.specs.List.{take_while}
use Rattle.std.specs.String.{string_bytes}
use Rattle.std.specs.declared.alloc.Global.{Global}
use Rattle.std.specs.declared.string.String.{String}
use Rattle.text_streams.specs.declared.position.Position.{Position}
use Rattle.text_streams.specs.Positions.{left, LiesBehind}
use Rattle.text_streams.specs.Quotes.{Said, quoted_text}

-- Behind white space a text in quotes stands that says this, and this place is right behind it.
pub record SaysText (from : Position) (text : String Global) (to : Position) : Type 0 where
  pub start : Position
  pub spaces : LiesBehind from start (take_while is_whitespace (left from))
  pub said : Said
  pub there : quoted_text (left start) ≡ Some said
  pub words : string_bytes text ≡ encode_utf8_all said.0
  pub behind : LiesBehind start to said.1
