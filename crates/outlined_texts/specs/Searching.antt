-- What some first tokens of a text tell of its section.
use Rattle.std.specs.Prelude.{◌≡◌, ℕ, ◌&&◌, List, Option, Some, None, if◌then◌else◌}
use Rattle.std.specs.Option.{is_none, option_or}
use Rattle.ir_tokens.specs.declared.tokens.TokenKind.{TokenKind}
use Rattle.ir_tokens.specs.declared.tokens.Token.{Token}
use Rattle.ir_tokens.specs.Tokens.{ReadsAs}
use Rattle.outlined_texts.specs.declared.searching.Search.{Search}
use Rattle.outlined_texts.specs.Sections.{begins_with_colon, braces_behind, has_sign, holds_name, may_begin, section_behind, section_of}

-- where the section begins if this token begins it
abbrev pub named_behind : List ℕ → Search → Token → Option ℕ
named_behind cs s t = if may_begin cs s.depth s.held t then Some t.start else None

-- where the section begins if that is known behind a token of this kind
abbrev pub found_behind : Search → TokenKind → Option ℕ
found_behind s kind = if is_none s.found && has_sign 58 kind then s.named else s.found

-- what is told with one token more
pub record IsSearchBehind (cs : List ℕ) (s : Search) (t : Token) (s' : Search) : Type 0 where
  pub depth : s'.depth ≡ braces_behind s.depth t.kind
  pub held : s'.held ≡ holds_name t.kind
  pub named : s'.named ≡ named_behind cs s t
  pub found : s'.found ≡ found_behind s t.kind

-- the section begins here if its name was the last token and `:` is the next, or else where the next tokens say
abbrev pub begins_or : Option ℕ → List Token → Option ℕ → Option ℕ
begins_or None ts rest = rest
begins_or (Some start) ts rest = if begins_with_colon ts then Some start else rest

-- where the section begins if these are the tokens that come next
abbrev pub answer : List ℕ → Search → List Token → Option ℕ
answer cs s ts = option_or s.found (begins_or s.named ts (section_behind cs s.depth s.held ts))

-- the section of the text begins here
pub record FindsSection (cs : List ℕ) (section : Option ℕ) : Type 0 where
  pub tokens : List Token
  pub reads : ReadsAs cs 0 tokens
  pub begins : section ≡ section_of cs tokens
