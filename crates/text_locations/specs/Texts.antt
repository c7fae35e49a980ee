-- What texts a location has. Each relation says what is at the front of a text, and what is left behind it.
use Rattle.std.specs.Prelude.{ℕ, zero, suc, ◌≡◌, ◌++◌, ◌⊎◌, Bool, true, false, List, [], ◌∷◌, Option, None, Some, Ok, encode_utf8_all}
use Rattle.std.specs.Char.{is_whitespace}
use Rattle.std.specs.List.{take_while}
use Rattle.std.specs.Str.Parse.{ParsesUnsigned}
use Rattle.std.specs.String.{string_bytes}
use Rattle.std.specs.declared.alloc.Global.{Global}
use Rattle.std.specs.declared.boxed.Box.{Box}
use Rattle.std.specs.declared.num.ParseIntError.{ParseIntError}
use Rattle.std.specs.declared.string.String.{String}
use Rattle.std.specs.declared.vec.Vec.{Vec}
use Rattle.ir_locations.specs.declared.location.Location.{Location}
use Rattle.ir_locations.specs.declared.location.Location.TheViews as locations
use Rattle.ir_locations.specs.declared.location.Location.TheVariants as whole
use Rattle.ir_locations.specs.declared.source.Source.{Source}
use Rattle.ir_locations.specs.declared.source.Source.TheVariants as sources
use Rattle.text_streams.specs.Numbers.{begins_with_digit, digits_text}
use Rattle.text_streams.specs.Positions.{left}
use Rattle.text_streams.specs.Quotes.{Said, quoted_text}
use Rattle.text_locations.specs.declared.tokens.Token.{Token}
use Rattle.text_locations.specs.declared.tokens.Token.TheVariants.{Unknown, InMemory, Colon, Comma, Opens, Closes, Less, Greater, Line, Column, Fused, Named, CallSite}
use Rattle.text_locations.specs.Locations.{Parser, At, Answers, has_room}
use Rattle.text_locations.specs.Tokens.{token_text, has_token}

-- ---- tokens

-- white space, as much as there is
abbrev pub IsSpaces : (cs rest : List ℕ) → Type 0
IsSpaces cs rest = cs ≡ take_while is_whitespace cs ++ rest

-- a token, which is here
pub record IsTokenHere (token : Token) (cs rest : List ℕ) : Type 0 where
  pub there : has_token token cs ≡ true
  pub is : cs ≡ token_text token ++ rest

-- white space and a token
abbrev pub IsToken : Token → (cs rest : List ℕ) → Type 0
IsToken token cs rest = (here : List ℕ) × IsSpaces cs here × IsTokenHere token here rest

-- another token is behind the white space
abbrev pub HasNoToken : Token → List ℕ → Type 0
HasNoToken token cs = (here : List ℕ) × IsSpaces cs here × (has_token token here ≡ false)

-- a text in quotes, which is here, that says the name
pub record IsQuotedHere (cs : List ℕ) (name : String Global) (rest : List ℕ) : Type 0 where
  pub said : Said
  pub there : quoted_text cs ≡ Some said
  pub says : string_bytes name ≡ encode_utf8_all said.0
  pub is : cs ≡ said.1 ++ rest

-- white space, and as many digits as there are, which say a number below 2^64
pub record IsNumber (cs : List ℕ) (number : ℕ) (rest : List ℕ) : Type 0 where
  pub here : List ℕ
  pub spaces : IsSpaces cs here
  pub there : begins_with_digit 10 here ≡ true
  pub says : ParsesUnsigned {E = ParseIntError} 64 10 (encode_utf8_all (digits_text 10 here)) (Ok number)
  pub is : here ≡ digits_text 10 here ++ rest

-- ---- places

-- `: line: 3` or `, column: 4`
abbrev pub IsLabelled : (token label : Token) → List ℕ → ℕ → List ℕ → Type 0
IsLabelled token label cs number rest =
    (a : List ℕ) × IsToken token cs a × (b : List ℕ) × IsToken label a b × (c : List ℕ) × IsToken Colon b c × IsNumber c number rest

abbrev pub IsSource : List ℕ → Source → List ℕ → Type 0
IsSource cs sources.InMemory rest = IsTokenHere InMemory cs rest
IsSource cs (sources.File name) rest = IsQuotedHere cs name rest

-- ---- metadata

-- texts of metadata
abbrev pub MetadataTexts : Type 0 → Type 1
MetadataTexts A = List ℕ → A → List ℕ → Type 0

-- a parser, called at such a text, answers these metadata, and leaves the rest
abbrev pub AnsweredTexts : {F S A : Type 0} → Parser F S A → MetadataTexts A
AnsweredTexts {F} {S} parser cs a rest =
    (v : At F S) × (w : At F S) × Answers parser v (Ok a) w × (left v.1.position ≡ cs) × (left w.1.position ≡ rest)

-- `<`, metadata and `>`, where there is room for that; or no `<`
abbrev pub IsMetadataPart : {A : Type 0} → MetadataTexts A → Bool → List ℕ → Option A → List ℕ → Type 0
IsMetadataPart texts room cs None rest = HasNoToken Less cs × (rest ≡ cs)
IsMetadataPart texts room cs (Some a) rest =
    (room ≡ true) × (behind : List ℕ) × IsToken Less cs behind × (start : List ℕ) × IsSpaces behind start
    × (end : List ℕ) × texts start a end × IsToken Greater end rest

-- ---- locations in a location, each behind white space

abbrev pub LocationTexts : Type 0 → Type 1
LocationTexts A = List ℕ → Location A → List ℕ → Type 0

abbrev pub IsNext : {A : Type 0} → LocationTexts A → List ℕ → Location A → List ℕ → Type 0
IsNext inner cs l rest = (start : List ℕ) × IsSpaces cs start × inner start l rest

-- further members, each behind a `,`, and the `]`
abbrev pub AreFurther : {A : Type 0} → LocationTexts A → List (Location A) → (cs rest : List ℕ) → Type 0
AreFurther inner [] cs rest = IsToken Closes cs rest
AreFurther inner (l ∷ ls) cs rest =
    (behind : List ℕ) × IsToken Comma cs behind × (end : List ℕ) × IsNext inner behind l end × AreFurther inner ls end rest

-- members with a `,` between two, and the `]`
abbrev pub AreMembers : {A : Type 0} → LocationTexts A → List (Location A) → (cs rest : List ℕ) → Type 0
AreMembers inner [] cs rest = IsToken Closes cs rest
AreMembers inner (l ∷ ls) cs rest = (end : List ℕ) × IsNext inner cs l end × AreFurther inner ls end rest

-- the last location in a location, and the `]`
abbrev pub IsLast : {A : Type 0} → LocationTexts A → List ℕ → Location A → List ℕ → Type 0
IsLast inner cs l rest = (end : List ℕ) × IsNext inner cs l end × IsToken Closes end rest

-- ---- the five forms

-- `?`
abbrev pub IsUnknownText : {A : Type 0} → List ℕ → Location A → List ℕ → Type 0
IsUnknownText cs l rest = (l ≡ whole.Unknown) × IsTokenHere Unknown cs rest

-- `<in-memory>: line: 3, column: 4`, `"a file": line: 1, column: 2`
pub record IsPlaceText {A : Type 0} (cs : List ℕ) (l : Location A) (rest : List ℕ) : Type 0 where
  pub source : Source
  pub line : ℕ
  pub column : ℕ
  pub is : l ≡ whole.SrcPos source line column
  pub behind : List ℕ
  pub source_text : IsSource cs source behind
  pub between : List ℕ
  pub line_text : IsLabelled Colon Line behind line between
  pub column_text : IsLabelled Comma Column between column rest

-- `fused[..]`, `fused<metadata>[..]`
pub record IsFusedText {A : Type 0} (texts : MetadataTexts A) (room : Bool) (inner : LocationTexts A) (cs : List ℕ) (l : Location A) (rest : List ℕ) : Type 0 where
  pub metadata : Option A
  pub members : Vec (Location A) Global
  pub is : l ≡ locations.Fused metadata members
  pub behind : List ℕ
  pub word : IsTokenHere Fused cs behind
  pub between : List ℕ
  pub metadata_text : IsMetadataPart texts room behind metadata between
  pub opened : List ℕ
  pub opens : IsToken Opens between opened
  pub members_text : AreMembers inner members.items opened rest

-- `named["x", ..]`
pub record IsNamedText {A : Type 0} (inner : LocationTexts A) (cs : List ℕ) (l : Location A) (rest : List ℕ) : Type 0 where
  pub name : String Global
  pub child : Box (Location A) Global
  pub is : l ≡ locations.Named name child
  pub behind : List ℕ
  pub word : IsTokenHere Named cs behind
  pub opened : List ℕ
  pub opens : IsToken Opens behind opened
  pub here : List ℕ
  pub spaces : IsSpaces opened here
  pub named : List ℕ
  pub name_text : IsQuotedHere here name named
  pub between : List ℕ
  pub comma : IsToken Comma named between
  pub child_text : IsLast inner between child.value rest

-- `callsite[.., ..]`
pub record IsCallSiteText {A : Type 0} (inner : LocationTexts A) (cs : List ℕ) (l : Location A) (rest : List ℕ) : Type 0 where
  pub callee : Box (Location A) Global
  pub caller : Box (Location A) Global
  pub is : l ≡ locations.CallSite callee caller
  pub behind : List ℕ
  pub word : IsTokenHere CallSite cs behind
  pub opened : List ℕ
  pub opens : IsToken Opens behind opened
  pub end : List ℕ
  pub callee_text : IsNext inner opened callee.value end
  pub between : List ℕ
  pub comma : IsToken Comma end between
  pub caller_text : IsLast inner between caller.value rest

-- one of them
abbrev pub IsForm : {A : Type 0} → MetadataTexts A → Bool → LocationTexts A → List ℕ → Location A → List ℕ → Type 0
IsForm texts room inner cs l rest =
    IsUnknownText cs l rest
    ⊎ (IsPlaceText cs l rest
    ⊎ (IsFusedText texts room inner cs l rest
    ⊎ (IsNamedText inner cs l rest ⊎ IsCallSiteText inner cs l rest)))

-- A text begins with a location in which so many, with metadata, may be in one another, and this is left behind it.
unfoldable pub IsLocationText : {A : Type 0} → MetadataTexts A → ℕ → List ℕ → Location A → List ℕ → Type 0
IsLocationText texts zero cs l rest = ⊥
IsLocationText texts (suc depth) cs l rest = IsForm texts (has_room depth) (IsLocationText texts depth) cs l rest
