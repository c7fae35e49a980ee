-- What a location is printed as.
use Rattle.std.specs.Prelude.{ℕ, ◌≡◌, Bool, true, false, List, [], ◌∷◌, ◌++◌, chars, codes, decimal, encode_utf8_all}
use Rattle.std.specs.List.{FoldsTo}
use Rattle.std.specs.String.{string_bytes}
use Rattle.ir_print.specs.Layout.{in_quotes}
use Rattle.ir_locations.specs.declared.source.Source.{Source}
use Rattle.ir_locations.specs.declared.source.Source.TheVariants.{InMemory, File}
use Rattle.ir_locations.specs.declared.location.Location.{Location}
use Rattle.text_writers.specs.Appending.{Appends}
use Rattle.printed_locations.specs.Tokens.{Token, sign, separator, number, text, metadata, tokens_of}

-- What a token is printed as, in bytes, where metadata are printed so. A space (32) is behind a `,` and a `:`.
abbrev pub IsTokenText : {A : Type 0} → (A → List ℕ → Type 0) → Token A → List ℕ → Type 0
IsTokenText prints (sign cs) bytes = bytes ≡ cs
IsTokenText prints (separator c) bytes = bytes ≡ c ∷ 32 ∷ []
IsTokenText prints (number n) bytes = bytes ≡ decimal n
IsTokenText prints (text name) bytes = bytes ≡ encode_utf8_all (in_quotes (chars name))
IsTokenText prints (metadata a) bytes = prints a bytes

-- what a source is printed as
abbrev pub source_text : Source → List ℕ
source_text InMemory = codes "<in-memory>"
source_text (File name) = encode_utf8_all (in_quotes (chars (string_bytes name)))

-- tokens are printed one behind the other, behind what was written
abbrev pub AddsTokens : {A : Type 0} → (A → List ℕ → Type 0) → List ℕ → List (Token A) → List ℕ → Type 0
AddsTokens prints old ts new = FoldsTo (λ old t new. Appends (IsTokenText prints t) old new) old ts new

-- bytes that a location is printed as
abbrev pub IsTextOf : {A : Type 0} → (A → List ℕ → Type 0) → Location A → List ℕ → Type 0
IsTextOf prints l bytes = AddsTokens prints [] (tokens_of l) bytes

-- what is before a member of a list: nothing before the first, else a `,` (44) and a space
abbrev pub separator_before : Bool → List ℕ
separator_before true = []
separator_before false = 44 ∷ 32 ∷ []
