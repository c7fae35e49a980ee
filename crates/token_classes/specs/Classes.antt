-- Which tokens are of which classes.
use Rattle.std.specs.Prelude.{ℕ, Bool, ◌&&◌, List, bytes_eq}
use Rattle.ir_tokens.specs.declared.tokens.TokenKind.{TokenKind}
use Rattle.ir_formats.specs.Words.{is_width, is_quotation}
use Rattle.ir_format_checks.specs.Tokens.{TokenClass, given, a_name, dotted, digits, number, width, quotation, mark, is_name, is_sign_or_name, is_dotted, is_digits, is_number, is_text, is_mark}
use Rattle.stream_tokens.specs.declared.lexemes.Lexeme.{Lexeme}

-- a token of this kind with these characters is of the class
abbrev pub is_token_of : TokenClass → TokenKind → List ℕ → Bool
is_token_of (given w) k text = is_sign_or_name k && bytes_eq w text
is_token_of a_name k text = is_name k
is_token_of dotted k text = is_dotted k
is_token_of digits k text = is_digits k
is_token_of number k text = is_number k
is_token_of width k text = is_name k && is_width text
is_token_of quotation k text = is_text k && is_quotation text
is_token_of mark k text = is_mark k

-- the same of a token that was read
abbrev pub is_lexeme_of : Lexeme → TokenClass → Bool
is_lexeme_of t c = is_token_of c t.kind t.text.items
