-- Where the section of outlined attributes begins, by the tokens of a text.
use Rattle.std.specs.Prelude.{ℕ, ◌+◌, ◌-◌, ◌==◌, ◌&&◌, ◌||◌, not, nat_lt, Bool, true, false, List, [], ◌∷◌, Option, Some, None, bytes_eq, codes, filter, take, if◌then◌else◌}
use Rattle.ir_tokens.specs.declared.tokens.TokenKind.{TokenKind}
use Rattle.ir_tokens.specs.declared.tokens.TokenKind.TheVariants.{Name, Sign}
use Rattle.ir_tokens.specs.declared.tokens.Token.{Token}
use Rattle.text_marking.specs.Marks.{token_characters}

-- the token is this sign
abbrev pub has_sign : ℕ → TokenKind → Bool
has_sign sign (Sign c) = c == sign
has_sign sign _ = false

-- A name behind this token isn't the section's: behind `@` (64) it is that of a symbol, behind `,` (44) one of several.
abbrev pub holds_name : TokenKind → Bool
holds_name kind = has_sign 64 kind || has_sign 44 kind

-- how many braces, `{` (123) and `}` (125), are open behind a token, where so many are before it
abbrev pub braces_behind : ℕ → TokenKind → ℕ
braces_behind depth kind = if has_sign 123 kind then depth + 1 else (if has_sign 125 kind then depth - 1 else depth)

-- these characters of a token of this kind are the section's name
abbrev pub is_section_word : TokenKind → List ℕ → Bool
is_section_word Name text = bytes_eq text (codes "outlined_attributes")
is_section_word _ text = false

-- the token is the section's name
abbrev pub is_section_name : List ℕ → Token → Bool
is_section_name cs t = is_section_word t.kind (token_characters cs t)

-- the first of these tokens is `:` (58)
abbrev pub begins_with_colon : List Token → Bool
begins_with_colon [] = false
begins_with_colon (t ∷ ts) = has_sign 58 t.kind

-- A token may begin the section where so many braces are open, behind a token that holds a name or not: outside all
-- braces, and where no `@` or `,` is before it.
abbrev pub may_begin : List ℕ → ℕ → Bool → Token → Bool
may_begin cs depth held t = (depth == 0) && not held && is_section_name cs t

-- Where the section begins among tokens, the first of which is behind so many open braces, and behind a token that holds a
-- name or not: at the first token that may begin it and has a `:` behind it.
abbrev pub section_behind : List ℕ → ℕ → Bool → List Token → Option ℕ
section_behind cs depth held [] = None
section_behind cs depth held (t ∷ ts) = if may_begin cs depth held t && begins_with_colon ts then Some t.start
    else section_behind cs (braces_behind depth t.kind) (holds_name t.kind) ts

-- Where the section of a text begins that has these tokens, if it has one. The first token of a text begins none: a name there is that
-- of a result.
abbrev pub section_of : List ℕ → List Token → Option ℕ
section_of cs ts = section_behind cs 0 true ts

-- the text before its section, all of it where there is none
abbrev pub front_of : Option ℕ → List ℕ → List ℕ
front_of None cs = cs
front_of (Some start) cs = take start cs

-- the tokens before the section
abbrev pub tokens_before : Option ℕ → List Token → List Token
tokens_before None ts = ts
tokens_before (Some start) ts = filter (λ t. nat_lt t.start start) ts
