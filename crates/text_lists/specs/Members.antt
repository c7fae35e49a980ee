-- The members of a list, each read by a call of a parser.
use Rattle.std.specs.Prelude.{ℕ, ◌≡◌, ◌&&◌, not, Bool, true, false, List, [], ◌∷◌, Option, None, Some, Result, Ok, Err}
use Rattle.std.specs.Borrow.{MutBor}
use Rattle.std.specs.Fn.{Mut, CalledAtMut}
use Rattle.std.specs.List.{FoldsTo}
use Rattle.text_streams.specs.declared.stream.StateStream.{StateStream}
use Rattle.text_streams.specs.declared.faults.ParseFault.{ParseFault}
use Rattle.text_streams.specs.declared.faults.TextError.{TextError}
use Rattle.text_streams.specs.declared.faults.TextError.TheVariants.{Syntax}
use Rattle.text_lists.specs.Signs.{GoesOn}

-- a parser of a member
abbrev pub MemberParser : (F S T : Type 0) → Type 1
MemberParser F S T = Mut F (MutBor (StateStream S) × Unit {0}) (Result T ParseFault × (MutBor (StateStream S) × Unit {0}))

-- the parser, with what it keeps, and the stream
abbrev pub At : (F S : Type 0) → Type 0
At F S = F × StateStream S

-- the parser was called once, and answered this
abbrev pub Answers : {F S T : Type 0} → MemberParser F S T → At F S → Result T ParseFault → At F S → Type 0
Answers parser v result w = CalledAtMut parser v.0 v.1 result w.0 w.1

abbrev pub is_syntax : TextError → Bool
is_syntax Syntax = true
is_syntax _ = false

-- whether a fault says that there is no member: a syntax fault before which nothing was read
abbrev pub is_absence : ParseFault → Bool
is_absence fault = is_syntax fault.cause && not fault.consumed

-- Whether the list may end where a member is due: before the first one, and where there is no sign between members.
abbrev pub may_end : {T : Type 0} → Option ℕ → List T → Bool
may_end sign [] = true
may_end None (x ∷ xs) = true
may_end (Some sign) (x ∷ xs) = false

-- there is no member: the parser says so, and the stream is where it was
pub record IsAbsent {F S T : Type 0} (parser : MemberParser F S T) (v w : At F S) : Type 0 where
  pub fault : ParseFault
  pub end : At F S
  pub answered : Answers parser v (Err fault) end
  pub absent : is_absence fault ≡ true
  pub stays : w ≡ (end.0, record end.1 { position = v.1.position })

-- a call answered this fault, and not that a member is missing that may be
abbrev pub RefusesMember : {F S T : Type 0} → MemberParser F S T → Bool → At F S → ParseFault → Type 0
RefusesMember {F} {S} parser may at fault = (end : At F S) × Answers parser at (Err fault) end × ((may && is_absence fault) ≡ false)

-- a member was read, and the sign behind it
pub record ReadsMember {F S T : Type 0} (parser : MemberParser F S T) (sign : Option ℕ) (v : At F S) (x : T) (w : At F S) : Type 0 where
  pub end : At F S
  pub answered : Answers parser v (Ok x) end
  pub same : w.0 ≡ end.0
  pub behind : GoesOn sign end.1 w.1

-- These members were read, one after another, each with the sign behind it.
abbrev pub AreRead : {F S T : Type 0} → MemberParser F S T → Option ℕ → At F S → List T → At F S → Type 0
AreRead parser sign = FoldsTo (ReadsMember parser sign)
