-- A mark, or what is in its place.
use Rattle.std.specs.Prelude.{ℕ, ◌≡◌, Result, Ok, Err, MatchResult}
use Rattle.std.specs.Borrow.{MutBor}
use Rattle.std.specs.Fn.{Once, FnOnceReturnsAtMut}
use Rattle.text_streams.specs.declared.stream.StateStream.{StateStream}
use Rattle.text_streams.specs.declared.faults.ParseFault.{ParseFault}
use Rattle.text_marks.specs.declared.marks.MarkOr.{MarkOr}
use Rattle.text_marks.specs.declared.marks.MarkOr.TheVariants.{Mark, Value}
use Rattle.text_marks.specs.Marks.{ReadsNumberOfMark, RefusesMark}

-- the answer at a `!`: the number of the mark
abbrev pub AnswersMark : {S T : Type 0} → StateStream S → StateStream S → Result (MarkOr T) ParseFault → Type 0
AnswersMark old new result = MatchResult result
    (λ answer. (number : ℕ) × (answer ≡ Mark number) × ReadsNumberOfMark old new number)
    (RefusesMark old new)

-- a value as such an answer, and a fault as it is
abbrev pub as_value : {T : Type 0} → Result T ParseFault → Result (MarkOr T) ParseFault
as_value (Ok value) = Ok (Value value)
as_value (Err fault) = Err fault

-- the answer elsewhere: what the parser answered, which was called once, where the stream was
pub record AnswersOther {F S T : Type 0} (parser : Once F (MutBor (StateStream S) × Unit {0}) (Result T ParseFault × (MutBor (StateStream S) × Unit {0})))
    (f : F) (old new : StateStream S) (result : Result (MarkOr T) ParseFault) : Type 0 where
  pub answer : Result T ParseFault
  pub called : FnOnceReturnsAtMut parser f old answer new
  pub handed_on : result ≡ as_value answer
