-- The tokens of locations, and how they are read. White space is before a token.
use Rattle.std.specs.Prelude.{ℕ, ◌≡◌, ◌==◌, ◌||◌, not, ◌⊎◌, Bool, true, false, List, [], ◌∷◌, Option, None, Some, codes, encode_utf8_all, if◌then◌else◌}
use Rattle.std.specs.Char.{is_ascii_alphabetic, is_ascii_alphanumeric}
use Rattle.std.specs.String.{string_bytes}
use Rattle.std.specs.declared.string.String.{String}
use Rattle.std.specs.declared.alloc.Global.{Global}
use Rattle.text_streams.specs.declared.stream.StateStream.{StateStream}
use Rattle.text_streams.specs.declared.faults.ParseFault.{ParseFault}
use Rattle.text_streams.specs.declared.faults.TextError.TheVariants.{Syntax}
use Rattle.text_streams.specs.Positions.{left}
use Rattle.text_streams.specs.Quotes.{Said, quoted_text}
use Rattle.text_streams.specs.Spaces.{SkipsSpaces}
use Rattle.text_streams.specs.Streams.{Reads}
use Rattle.text_locations.specs.declared.tokens.Token.{Token}
use Rattle.text_locations.specs.declared.tokens.Token.TheVariants.{Unknown, InMemory, Colon, Comma, Opens, Closes, Less, Greater, Line, Column, Fused, Named, CallSite}
use Rattle.text_locations.specs.Faults.{IsFaultAt, IsMemory}

-- how a token is written
abbrev pub token_text : Token → List ℕ
token_text Unknown = codes "?"
token_text InMemory = codes "<in-memory>"
token_text Colon = codes ":"
token_text Comma = codes ","
token_text Opens = codes "["
token_text Closes = codes "]"
token_text Less = codes "<"
token_text Greater = codes ">"
token_text Line = codes "line"
token_text Column = codes "column"
token_text Fused = codes "fused"
token_text Named = codes "named"
token_text CallSite = codes "callsite"

-- ---- the longest token

-- what is behind a text at the front of another
abbrev pub behind_text : (text cs : List ℕ) → Option (List ℕ)
behind_text [] cs = Some cs
behind_text (t ∷ ts) [] = None
behind_text (t ∷ ts) (c ∷ cs) = if c == t then behind_text ts cs else None

-- a letter, a digit or a `_` (95)
abbrev pub is_name_character : ℕ → Bool
is_name_character c = is_ascii_alphanumeric c || (c == 95)

-- whether a name begins here: a letter or a `_`
abbrev pub begins_name : List ℕ → Bool
begins_name [] = false
begins_name (c ∷ cs) = is_ascii_alphabetic c || (c == 95)

-- whether a name goes on here, or a `.` (46) and a name behind it, which make a dotted name
abbrev pub name_goes_on : List ℕ → Bool
name_goes_on [] = false
name_goes_on (c ∷ cs) = if c == 46 then begins_name cs else is_name_character c

-- whether a text begins with another
abbrev pub begins_with : (text cs : List ℕ) → Bool
begins_with text cs = elim (behind_text text cs) [ None ↦ false | Some rest ↦ true ]

-- Whether a longer token is where a token's text is, by what is behind that: a longer name, or `<in-memory>` where `<` is.
abbrev pub goes_on : Token → List ℕ → Bool
goes_on Less behind = begins_with (codes "in-memory>") behind
goes_on Line behind = name_goes_on behind
goes_on Column behind = name_goes_on behind
goes_on Fused behind = name_goes_on behind
goes_on Named behind = name_goes_on behind
goes_on CallSite behind = name_goes_on behind
goes_on _ behind = false

-- whether a token is at the front of a text, and not a longer one
abbrev pub has_token : Token → List ℕ → Bool
has_token token cs = elim (behind_text (token_text token) cs) [ None ↦ false | Some behind ↦ not (goes_on token behind) ]

-- ---- reading

-- the token was read, which is here
pub record ReadsTokenHere {S : Type 0} (token : Token) (old new : StateStream S) : Type 0 where
  pub there : has_token token (left old.position) ≡ true
  pub reads : Reads old new (token_text token)

-- white space was read, and the token behind it
pub record ReadsToken {S : Type 0} (token : Token) (old new : StateStream S) : Type 0 where
  pub here : StateStream S
  pub spaces : SkipsSpaces old here
  pub token_read : ReadsTokenHere token here new

-- another token is behind the white space
pub record IsWithout {S : Type 0} (token : Token) (old : StateStream S) : Type 0 where
  pub here : StateStream S
  pub spaces : SkipsSpaces old here
  pub without : has_token token (left here.position) ≡ false

-- that is a syntax fault at it
pub record MissesToken {S : Type 0} (token : Token) (old : StateStream S) (fault : ParseFault) : Type 0 where
  pub without : IsWithout token old
  pub at : IsFaultAt without.here.position Syntax fault

-- ---- texts in quotes

-- a text in quotes was read, which is here, and says the name
pub record ReadsQuotedHere {S : Type 0} (old : StateStream S) (name : String Global) (new : StateStream S) : Type 0 where
  pub said : Said
  pub there : quoted_text (left old.position) ≡ Some said
  pub says : string_bytes name ≡ encode_utf8_all said.0
  pub reads : Reads old new said.1

-- no text in quotes is here, and that is a syntax fault here
pub record MissesQuotedHere {S : Type 0} (old : StateStream S) (fault : ParseFault) : Type 0 where
  pub without : quoted_text (left old.position) ≡ None
  pub at : IsFaultAt old.position Syntax fault

-- why none was read: none is here, or memory was refused
abbrev pub RefusesQuotedHere : {S : Type 0} → StateStream S → ParseFault → Type 0
RefusesQuotedHere old fault = IsMemory fault ⊎ MissesQuotedHere old fault

-- `[`, a text in quotes and a `,` were read
pub record ReadsName {S : Type 0} (old : StateStream S) (name : String Global) (new : StateStream S) : Type 0 where
  pub opened : StateStream S
  pub opens : ReadsToken Opens old opened
  pub here : StateStream S
  pub spaces : SkipsSpaces opened here
  pub named : StateStream S
  pub quoted : ReadsQuotedHere here name named
  pub comma : ReadsToken Comma named new

-- why they weren't: the `[`, the text or the `,` isn't there; or memory was refused
abbrev pub RefusesName : {S : Type 0} → StateStream S → ParseFault → Type 0
RefusesName {S} old fault =
    MissesToken Opens old fault
    ⊎ ((opened : StateStream S) × ReadsToken Opens old opened × (here : StateStream S) × SkipsSpaces opened here
    × (RefusesQuotedHere here fault
    ⊎ ((name : String Global) × (named : StateStream S) × ReadsQuotedHere here name named × MissesToken Comma named fault)))
