-- What a parser reads again and again.
use Rattle.std.specs.Prelude.{◌≡◌, ◌≤◌, ◌⊎◌, List, Option, None, Some, Ok, Err}
use Rattle.std.specs.List.{FoldsTo}
use Rattle.text_streams.specs.declared.stream.StateStream.{StateStream}
use Rattle.text_streams.specs.declared.faults.ParseFault.{ParseFault}
use Rattle.text_streams.specs.declared.faults.TextError.TheVariants.{Memory, Syntax}
use Rattle.text_streams.specs.Positions.{bytes_left}
use Rattle.text_lists.specs.Members.{MemberParser, At, Answers}

-- these values were read, one after another, each by a call
abbrev pub AreAnswered : {F S T : Type 0} → MemberParser F S (Option T) → At F S → List T → At F S → Type 0
AreAnswered parser = FoldsTo (λ v x w. Answers parser v (Ok (Some x)) w)

-- These values were read, and then a call answered that there is nothing more.
pub record ReadsAll {F S T : Type 0} (parser : MemberParser F S (Option T)) (f : F) (old : StateStream S) (values : List T) (new : StateStream S) : Type 0 where
  pub at : At F S
  pub read : AreAnswered parser (f, old) values at
  pub left : F
  pub ended : Answers parser at (Ok None) (left, new)

-- Values were read, and then a call answered this fault; or memory was refused; or a call left no less to be read than there was.
pub record RefusesAll {F S T : Type 0} (parser : MemberParser F S (Option T)) (f : F) (old : StateStream S) (fault : ParseFault) : Type 0 where
  pub values : List T
  pub at : At F S
  pub read : AreAnswered parser (f, old) values at
  pub why : ((end : At F S) × Answers parser at (Err fault) end)
      ⊎ ((fault.cause ≡ Memory)
      ⊎ ((fault.cause ≡ Syntax) × (x : T) × (behind : At F S) × Answers parser at (Ok (Some x)) behind × (bytes_left at.1.position ≤ bytes_left behind.1.position)))
