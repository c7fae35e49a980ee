-- Lists between signs.
use Rattle.std.specs.Prelude.{ℕ, ◌≡◌, ◌⊎◌, ◌∷◌, [], List, Some}
use Rattle.text_streams.specs.declared.stream.StateStream.{StateStream}
use Rattle.text_streams.specs.declared.faults.ParseFault.{ParseFault}
use Rattle.text_streams.specs.declared.faults.TextError.TheVariants.{Syntax}
use Rattle.text_streams.specs.Streams.{Reads, StaysAtFault}
use Rattle.text_lists.specs.Signs.{ReadsSign, IsWithout}
use Rattle.text_lists.specs.Members.{MemberParser}
use Rattle.text_lists.specs.Lists.{ReadsList, RefusesList}

-- A sign, white space, a list with the white space behind it, and a sign.
pub record ReadsDelimited {F S T : Type 0} (parser : MemberParser F S T) (opening closing sign : ℕ) (f : F) (old : StateStream S) (members : List T) (new : StateStream S) : Type 0 where
  pub start : StateStream S
  pub opened : ReadsSign opening old start
  pub end : StateStream S
  pub list : ReadsList parser (Some sign) f start members end
  pub closed : Reads end new (closing ∷ [])

-- a syntax fault here, since a sign isn't here
pub record Misses {S : Type 0} (sign : ℕ) (here : StateStream S) (fault : ParseFault) : Type 0 where
  pub cause : fault.cause ≡ Syntax
  pub without : IsWithout (Some sign) here
  pub met : StaysAtFault here here fault

-- Why no such list was read: the first sign isn't there; the list is refused; the last sign isn't there.
abbrev pub RefusesDelimited : {F S T : Type 0} → MemberParser F S T → (opening closing sign : ℕ) → F → StateStream S → ParseFault → Type 0
RefusesDelimited {S = S} {T = T} parser opening closing sign f old fault =
    Misses opening old fault
    ⊎ ((start : StateStream S) × ReadsSign opening old start × (RefusesList parser (Some sign) f start fault
    ⊎ ((members : List T) × (end : StateStream S) × ReadsList parser (Some sign) f start members end × Misses closing end fault)))
