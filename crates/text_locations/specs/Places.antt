-- What is behind a source: a line and a column.
use Rattle.std.specs.Prelude.{ℕ, ◌≡◌, ◌⊎◌, true, false, Ok, Err}
use Rattle.std.specs.Str.Parse.{ParsesUnsigned}
use Rattle.std.specs.String.{string_bytes}
use Rattle.std.specs.declared.num.ParseIntError.{ParseIntError}
use Rattle.std.specs.Prelude.{encode_utf8_all}
use Rattle.text_streams.specs.declared.stream.StateStream.{StateStream}
use Rattle.text_streams.specs.declared.faults.ParseFault.{ParseFault}
use Rattle.text_streams.specs.declared.faults.TextError.TheVariants.{Syntax}
use Rattle.text_streams.specs.Numbers.{begins_with_digit, digits_text}
use Rattle.text_streams.specs.Positions.{left}
use Rattle.text_streams.specs.Spaces.{SkipsSpaces}
use Rattle.text_streams.specs.Streams.{Reads}
use Rattle.text_locations.specs.declared.places.Digits.{Digits}
use Rattle.text_locations.specs.declared.tokens.Token.{Token}
use Rattle.text_locations.specs.declared.tokens.Token.TheVariants.{Colon, Comma, Line, Column}
use Rattle.text_locations.specs.Faults.{IsFaultAt, IsMemory}
use Rattle.text_locations.specs.Tokens.{ReadsToken, MissesToken}

-- the digits say this number, which is below 2^64
abbrev pub Says : Digits → ℕ → Type 0
Says digits number = ParsesUnsigned {E = ParseIntError} 64 10 (string_bytes digits.text) (Ok number)

-- they say none below 2^64, and that is a syntax fault at them
pub record SaysNone (digits : Digits) (fault : ParseFault) : Type 0 where
  pub error : ParseIntError
  pub parses : ParsesUnsigned 64 10 (string_bytes digits.text) (Err error)
  pub at : IsFaultAt digits.place Syntax fault

-- White space was read, and behind it as many digits as there are.
pub record ReadsDigits {S : Type 0} (old : StateStream S) (digits : Digits) (new : StateStream S) : Type 0 where
  pub here : StateStream S
  pub spaces : SkipsSpaces old here
  pub place : digits.place ≡ here.position
  pub there : begins_with_digit 10 (left here.position) ≡ true
  pub text : string_bytes digits.text ≡ encode_utf8_all (digits_text 10 (left here.position))
  pub reads : Reads here new (digits_text 10 (left here.position))

-- no digits are behind the white space, and that is a syntax fault there
pub record MissesDigits {S : Type 0} (old : StateStream S) (fault : ParseFault) : Type 0 where
  pub here : StateStream S
  pub spaces : SkipsSpaces old here
  pub without : begins_with_digit 10 (left here.position) ≡ false
  pub at : IsFaultAt here.position Syntax fault

abbrev pub RefusesDigits : {S : Type 0} → StateStream S → ParseFault → Type 0
RefusesDigits old fault = IsMemory fault ⊎ MissesDigits old fault

-- a token, a label, a `:` and digits were read
pub record ReadsLabelled {S : Type 0} (token label : Token) (old : StateStream S) (digits : Digits) (new : StateStream S) : Type 0 where
  pub behind_token : StateStream S
  pub token_read : ReadsToken token old behind_token
  pub behind_label : StateStream S
  pub label_read : ReadsToken label behind_token behind_label
  pub behind_colon : StateStream S
  pub colon_read : ReadsToken Colon behind_label behind_colon
  pub digits_read : ReadsDigits behind_colon digits new

-- why they weren't: one of them isn't there, or memory was refused
abbrev pub RefusesLabelled : {S : Type 0} → (token label : Token) → StateStream S → ParseFault → Type 0
RefusesLabelled {S} token label old fault =
    MissesToken token old fault
    ⊎ ((a : StateStream S) × ReadsToken token old a × (MissesToken label a fault
    ⊎ ((b : StateStream S) × ReadsToken label a b × (MissesToken Colon b fault
    ⊎ ((c : StateStream S) × ReadsToken Colon b c × RefusesDigits c fault)))))

-- `: line: digits, column: digits` was read, and these are the numbers
pub record ReadsPlace {S : Type 0} (old : StateStream S) (at : ℕ × ℕ) (new : StateStream S) : Type 0 where
  pub line : Digits
  pub between : StateStream S
  pub line_read : ReadsLabelled Colon Line old line between
  pub column : Digits
  pub column_read : ReadsLabelled Comma Column between column new
  pub line_says : Says line at.0
  pub column_says : Says column at.1

-- why it wasn't: one of them isn't there; or all are, and the line's number, or else the column's, isn't below 2^64
abbrev pub RefusesPlace : {S : Type 0} → StateStream S → ParseFault → Type 0
RefusesPlace {S} old fault =
    RefusesLabelled Colon Line old fault
    ⊎ ((line : Digits) × (between : StateStream S) × ReadsLabelled Colon Line old line between
    × (RefusesLabelled Comma Column between fault
    ⊎ ((column : Digits) × (end : StateStream S) × ReadsLabelled Comma Column between column end
    × (SaysNone line fault ⊎ ((number : ℕ) × Says line number × SaysNone column fault)))))
