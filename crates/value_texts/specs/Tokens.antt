-- The next token, of a class.
use Rattle.std.specs.Prelude.{◌≡◌, ℕ, List, true}
use Rattle.ir_tokens.specs.declared.tokens.TokenKind.{TokenKind}
use Rattle.ir_format_checks.specs.Tokens.{TokenClass}
use Rattle.text_streams.specs.declared.position.Position.{Position}
use Rattle.stream_tokens.specs.declared.lexemes.Lexeme.{Lexeme}
use Rattle.stream_tokens.specs.Lexemes.{IsNextToken, IsLexeme}
use Rattle.token_classes.specs.Classes.{is_token_of, is_lexeme_of}

-- the next token is of this class, has these characters, and leaves this
pub record TakesToken (c : TokenClass) (cs text rest : List ℕ) : Type 0 where
  pub kind : TokenKind
  pub next : IsNextToken cs kind text rest
  pub class : is_token_of c kind text ≡ true

-- it is the next token from a place on, and of this class
pub record TakesLexeme (c : TokenClass) (from : Position) (token : Lexeme) : Type 0 where
  pub lexeme : IsLexeme from token
  pub class : is_lexeme_of token c ≡ true

-- no token of the class comes next
abbrev pub IsNoNext : TokenClass → List ℕ → Type 0
IsNoNext c cs = (text rest : List ℕ) → TakesToken c cs text rest → ⊥
