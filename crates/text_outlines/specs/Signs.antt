-- Signs, each a character that is a token, and how they are read. White space is before a sign.
use Rattle.std.specs.Prelude.{ℕ, ◌≡◌, ◌==◌, Bool, false, List, [], ◌∷◌}
use Rattle.text_streams.specs.declared.stream.StateStream.{StateStream}
use Rattle.text_streams.specs.declared.faults.ParseFault.{ParseFault}
use Rattle.text_streams.specs.declared.faults.TextError.TheVariants.{Syntax}
use Rattle.text_streams.specs.Positions.{left}
use Rattle.text_streams.specs.Spaces.{SkipsSpaces}
use Rattle.text_streams.specs.Streams.{Reads}
use Rattle.text_locations.specs.Faults.{IsFaultAt}
use Rattle.text_locations.specs.Locations.{At}

-- whether a text begins with a character
abbrev pub begins_with : ℕ → List ℕ → Bool
begins_with c [] = false
begins_with c (d ∷ ds) = d == c

-- white space was read, and the sign behind it
pub record ReadsSign {S : Type 0} (sign : ℕ) (old new : StateStream S) : Type 0 where
  pub here : StateStream S
  pub spaces : SkipsSpaces old here
  pub sign_read : Reads here new (sign ∷ [])

-- that sign isn't behind the white space
pub record IsWithout {S : Type 0} (sign : ℕ) (old : StateStream S) : Type 0 where
  pub here : StateStream S
  pub spaces : SkipsSpaces old here
  pub without : begins_with sign (left here.position) ≡ false

-- and that is a syntax fault at what is there
pub record MissesSign {S : Type 0} (sign : ℕ) (old : StateStream S) (fault : ParseFault) : Type 0 where
  pub without : IsWithout sign old
  pub at : IsFaultAt without.here.position Syntax fault

-- the sign was read, and the parser wasn't called
abbrev pub Takes : {F S : Type 0} → ℕ → At F S → At F S → Type 0
Takes sign v w = ReadsSign sign v.1 w.1 × (w.0 ≡ v.0)
