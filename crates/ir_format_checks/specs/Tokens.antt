-- Tokens that come next, and the classes of tokens with which parts of formats begin.
use Rattle.std.specs.Prelude.{ℕ, Bool, true, false, ◌&&◌, ◌≡◌, List, length, Option, Some, None, bytes_eq}
use Rattle.ir_tokens.specs.declared.tokens.TokenKind.{TokenKind}
use Rattle.ir_tokens.specs.declared.tokens.TokenKind.TheVariants as kinds
use Rattle.ir_tokens.specs.Tokens.{Spells}
use Rattle.ir_formats.specs.Words.{is_width, is_quotation}

-- a token of the lexer: its characters have the form of its kind
pub record WrittenToken : Type 0 where
  pub kind : TokenKind
  pub text : List ℕ
  pub spelled : Spells text 0 (length text) kind

-- what may come next: a token, or the end
abbrev pub Column : Type 0
Column = Option WrittenToken

-- ---- kinds

abbrev pub is_name : TokenKind → Bool
is_name kinds.Name = true
is_name _ = false

-- Each sign is a token of its own. `<in-memory>` is one in locations alone, which have no formats.
abbrev pub is_sign_or_name : TokenKind → Bool
is_sign_or_name kinds.Name = true
is_sign_or_name (kinds.Sign c) = true
is_sign_or_name kinds.Arrow = true
is_sign_or_name _ = false

abbrev pub is_dotted : TokenKind → Bool
is_dotted kinds.Dotted = true
is_dotted _ = false

abbrev pub is_digits : TokenKind → Bool
is_digits kinds.Digits = true
is_digits _ = false

abbrev pub is_number : TokenKind → Bool
is_number kinds.Digits = true
is_number kinds.Negative = true
is_number _ = false

abbrev pub is_text : TokenKind → Bool
is_text kinds.Text = true
is_text _ = false

abbrev pub is_mark : TokenKind → Bool
is_mark kinds.Mark = true
is_mark _ = false

-- ---- classes

-- a class of tokens
pub data TokenClass : Type 0 where
  -- this sign or name
  given : List ℕ → TokenClass
  -- a name; widths are names, and so are the names that formats give
  a_name : TokenClass
  -- a dotted name, with which types and attributes begin
  dotted : TokenClass
  -- digits, and numbers that may begin with `-`
  digits number : TokenClass
  -- a name that is a width, as `i8`
  width : TokenClass
  -- a text in quotes
  quotation : TokenClass
  mark : TokenClass

-- the token is of the class
abbrev pub is_of : TokenClass → WrittenToken → Bool
is_of (given w) t = is_sign_or_name t.kind && bytes_eq w t.text
is_of a_name t = is_name t.kind
is_of dotted t = is_dotted t.kind
is_of digits t = is_digits t.kind
is_of number t = is_number t.kind
is_of width t = is_name t.kind && is_width t.text
is_of quotation t = is_text t.kind && is_quotation t.text
is_of mark t = is_mark t.kind

-- what comes next is a token of the class
abbrev pub takes : Column → TokenClass → Bool
takes None c = false
takes (Some t) c = is_of c t

-- the characters are one token, a sign or a name
pub record IsWord (text : List ℕ) : Type 0 where
  pub kind : TokenKind
  pub sort : is_sign_or_name kind ≡ true
  pub spelled : Spells text 0 (length text) kind
