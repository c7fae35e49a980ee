-- The kind that a token names.
use Rattle.std.specs.Prelude.{◌≡◌, ◌≢◌, ℕ, List, Some, true, slice_get}
use Rattle.ir_print.specs.Formats.{Kind, Steps}
use Rattle.ir_format_checks.specs.Tokens.{dotted}
use Rattle.stream_tokens.specs.declared.lexemes.Lexeme.{Lexeme}
use Rattle.token_classes.specs.Classes.{is_lexeme_of}

-- the token is the id of the kind with this number, which has this format
pub record IsKindNamed (kinds : List Kind) (token : Lexeme) (number : ℕ) (format : Steps) : Type 0 where
  pub kind : Kind
  pub at : slice_get kinds number ≡ Some kind
  pub dotted_name : is_lexeme_of token dotted ≡ true
  pub named : token.text.items ≡ kind.id
  pub formatted : format ≡ kind.format

-- it is the id of no kind
abbrev pub IsNoKind : List Kind → Lexeme → Type 0
IsNoKind kinds token = (i : ℕ) (k : Kind) → slice_get kinds i ≡ Some k → is_lexeme_of token dotted ≡ true → token.text.items ≢ k.id
