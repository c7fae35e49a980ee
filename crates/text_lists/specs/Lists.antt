-- What is read as a list, and why none is.
use Rattle.std.specs.Prelude.{ℕ, ◌≡◌, ◌≤◌, ◌⊎◌, true, List, [], ◌∷◌, ◌++◌, Option, Ok}
use Rattle.text_streams.specs.declared.stream.StateStream.{StateStream}
use Rattle.text_streams.specs.declared.faults.ParseFault.{ParseFault}
use Rattle.text_streams.specs.declared.faults.TextError.TheVariants.{Memory, Syntax}
use Rattle.text_streams.specs.Positions.{bytes_left}
use Rattle.text_lists.specs.Signs.{Stops}
use Rattle.text_lists.specs.Members.{MemberParser, At, Answers, may_end, IsAbsent, RefusesMember, ReadsMember, AreRead}

-- Members were read, and then one was due that isn't there.
pub record EndsBefore {F S T : Type 0} (parser : MemberParser F S T) (sign : Option ℕ) (f : F) (old : StateStream S) (members : List T) (new : StateStream S) : Type 0 where
  pub at : At F S
  pub read : AreRead parser sign (f, old) members at
  pub may : may_end sign members ≡ true
  pub left : F
  pub absent : IsAbsent parser at (left, new)

-- Members were read, and there is no sign behind the last one.
pub record EndsBehind {F S T : Type 0} (parser : MemberParser F S T) (sign : Option ℕ) (f : F) (old : StateStream S) (members : List T) (new : StateStream S) : Type 0 where
  pub others : List T
  pub last : T
  pub all : members ≡ others ++ last ∷ []
  pub at : At F S
  pub read : AreRead parser sign (f, old) others at
  pub end : At F S
  pub answered : Answers parser at (Ok last) end
  pub stops : Stops sign end.1 new

-- A list was read.
abbrev pub ReadsList : {F S T : Type 0} → MemberParser F S T → Option ℕ → F → StateStream S → List T → StateStream S → Type 0
ReadsList parser sign f old members new = EndsBefore parser sign f old members new ⊎ EndsBehind parser sign f old members new

-- Why no list was read, behind members that were: a call answered this fault, and not that a member is missing that may be;
-- or memory was refused; or a call left no less to be read than there was.
abbrev pub Refuses : {F S T : Type 0} → MemberParser F S T → Option ℕ → At F S → List T → ParseFault → Type 0
Refuses {F} {S} {T} parser sign at members fault =
    RefusesMember parser (may_end sign members) at fault
    ⊎ ((fault.cause ≡ Memory)
    ⊎ ((fault.cause ≡ Syntax) × (x : T) × (behind : At F S) × ReadsMember parser sign at x behind × (bytes_left at.1.position ≤ bytes_left behind.1.position)))

pub record RefusesList {F S T : Type 0} (parser : MemberParser F S T) (sign : Option ℕ) (f : F) (old : StateStream S) (fault : ParseFault) : Type 0 where
  pub members : List T
  pub at : At F S
  pub read : AreRead parser sign (f, old) members at
  pub why : Refuses parser sign at members fault
