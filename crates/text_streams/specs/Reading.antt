-- What the small parsers answer, and what they leave.
use Rattle.std.specs.Prelude.{ℕ, ◌≡◌, ◌⊎◌, List, Option, None, Some, Result, Ok, Err, MatchResult, encode_utf8_all}
use Rattle.std.specs.String.{string_bytes}
use Rattle.std.specs.declared.alloc.Global.{Global}
use Rattle.std.specs.declared.string.String.{String}
use Rattle.text_streams.specs.declared.stream.StateStream.{StateStream}
use Rattle.text_streams.specs.declared.faults.ParseFault.{ParseFault}
use Rattle.text_streams.specs.declared.faults.TextError.TheVariants.{Memory, Syntax}
use Rattle.text_streams.specs.Positions.{left}
use Rattle.text_streams.specs.Quotes.{Said}
use Rattle.text_streams.specs.Streams.{Reads, StaysAtFault}

-- This is said, and what says it was read.
pub record ReadsSaid {S : Type 0} (front : Option Said) (old new : StateStream S) (Holds : List ℕ → Type 0) : Type 0 where
  pub said : Said
  pub there : front ≡ Some said
  pub holds : Holds said.0
  pub reads : Reads old new said.1

-- Nothing was read: memory was refused, or there is no such text, or it is refused.
pub record ReadsNothing {S : Type 0} (front : Option Said) (old new : StateStream S) (fault : ParseFault) (IsRefused : List ℕ → Type 0) : Type 0 where
  pub stays : StaysAtFault old new fault
  pub why : (fault.cause ≡ Memory) ⊎ ((fault.cause ≡ Syntax) × ((front ≡ None) ⊎ ((said : Said) × (front ≡ Some said) × IsRefused said.0)))

-- The text that is said is read, or there is none.
abbrev pub ReadsText : {S : Type 0} → Option Said → StateStream S → StateStream S → Result (String Global) ParseFault → Type 0
ReadsText front old new result = MatchResult result
    (λ text. ReadsSaid front old new (λ cs. string_bytes text ≡ encode_utf8_all cs))
    (λ fault. ReadsNothing front old new fault (λ cs. ⊥))

-- The number that is said is read, as these parse it, or there is none.
abbrev pub ReadsNumber : {S T E : Type 0} → (List ℕ → Result T E → Type 0) → Option Said → StateStream S → StateStream S → Result T ParseFault → Type 0
ReadsNumber {E = E} parses front old new result = MatchResult result
    (λ number. ReadsSaid front old new (λ cs. parses (encode_utf8_all cs) (Ok number)))
    (λ fault. ReadsNothing front old new fault (λ cs. (e : E) × parses (encode_utf8_all cs) (Err e)))

-- These characters were said in quotes, and the rest is left, but where memory was refused.
abbrev pub ReadsBack : {S : Type 0} → (cs rest : List ℕ) → StateStream S → Result (String Global) ParseFault → Type 0
ReadsBack cs rest new result = MatchResult result
    (λ text. (string_bytes text ≡ encode_utf8_all cs) × (left new.position ≡ rest))
    (λ fault. fault.cause ≡ Memory)
