-- Marks at the front of a text.
use Rattle.std.specs.Prelude.{ℕ, ◌≡◌, ◌==◌, ◌⊎◌, Bool, false, List, [], ◌∷◌, Option, None, Some, Result, Ok, Err, MatchResult, encode_utf8_all}
use Rattle.std.specs.Str.Parse.{ParsesUnsigned}
use Rattle.std.specs.declared.num.ParseIntError.{ParseIntError}
use Rattle.text_streams.specs.declared.stream.StateStream.{StateStream}
use Rattle.text_streams.specs.declared.faults.ParseFault.{ParseFault}
use Rattle.text_streams.specs.declared.faults.TextError.TheVariants.{Memory, Syntax}
use Rattle.text_streams.specs.Numbers.{number_text}
use Rattle.text_streams.specs.Positions.{left}
use Rattle.text_streams.specs.Quotes.{Said}
use Rattle.text_streams.specs.Streams.{Reads, StaysAtFault}

-- whether a text begins with a `!` (33)
abbrev pub begins_with_mark : List ℕ → Bool
begins_with_mark [] = false
begins_with_mark (c ∷ cs) = c == 33

-- the text behind the `!` of a mark
abbrev pub behind_mark : List ℕ → List ℕ
behind_mark [] = []
behind_mark (c ∷ cs) = cs

-- the text of the number behind the `!`: as many digits as there are
abbrev pub mark_text : List ℕ → Option Said
mark_text cs = number_text 10 (behind_mark cs)

-- digits say a number below 2^64, or they say none
abbrev pub Parses : List ℕ → Result ℕ ParseIntError → Type 0
Parses digits number = ParsesUnsigned 64 10 (encode_utf8_all digits) number

-- The `!` and the number behind it were read.
pub record ReadsNumberOfMark {S : Type 0} (old new : StateStream S) (number : ℕ) : Type 0 where
  pub said : Said
  pub there : mark_text (left old.position) ≡ Some said
  pub parses : Parses said.0 (Ok number)
  pub reads : Reads old new (33 ∷ said.1)

-- Nothing was read: memory was refused, or there is no number below 2^64 behind the `!`. The fault is at the `!`.
pub record RefusesMark {S : Type 0} (old new : StateStream S) (fault : ParseFault) : Type 0 where
  pub stays : StaysAtFault old new fault
  pub why : (fault.cause ≡ Memory) ⊎ ((fault.cause ≡ Syntax)
      × ((mark_text (left old.position) ≡ None)
      ⊎ ((said : Said) × (mark_text (left old.position) ≡ Some said) × (e : ParseIntError) × Parses said.0 (Err e))))

abbrev pub ReadsMark : {S : Type 0} → StateStream S → StateStream S → Result ℕ ParseFault → Type 0
ReadsMark old new result = MatchResult result (ReadsNumberOfMark old new) (RefusesMark old new)
