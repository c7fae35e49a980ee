-- Signs between the members of a list.
use Rattle.std.specs.Prelude.{ℕ, ◌≡◌, ◌==◌, Bool, false, List, [], ◌∷◌, Option, None, Some}
use Rattle.text_streams.specs.declared.stream.StateStream.{StateStream}
use Rattle.text_streams.specs.Positions.{left}
use Rattle.text_streams.specs.Spaces.{SkipsSpaces}
use Rattle.text_streams.specs.Streams.{Reads}
use Rattle.text_writers.specs.declared.separators.ListSeparator.{ListSeparator}
use Rattle.text_writers.specs.declared.separators.ListSeparator.TheVariants as separators

-- The sign of a separator. The end of a line is white space, and no sign.
abbrev pub sign_of : ListSeparator → Option ℕ
sign_of separators.None = None
sign_of separators.Newline = None
sign_of (separators.CharNewline c) = Some c
sign_of (separators.Char c) = Some c
sign_of (separators.CharSpace c) = Some c

-- whether a text begins with a character
abbrev pub begins_with : ℕ → List ℕ → Bool
begins_with c [] = false
begins_with c (d ∷ ds) = d == c

-- this sign was read, and the white space behind it
pub record ReadsSign {S : Type 0} (sign : ℕ) (old new : StateStream S) : Type 0 where
  pub behind : StateStream S
  pub read : Reads old behind (sign ∷ [])
  pub spaces : SkipsSpaces behind new

-- the sign was read, where there is one to be read
abbrev pub SkipsSign : {S : Type 0} → Option ℕ → StateStream S → StateStream S → Type 0
SkipsSign None old new = new ≡ old
SkipsSign (Some sign) old new = ReadsSign sign old new

-- there is a sign to be read, and it isn't here
abbrev pub IsWithout : {S : Type 0} → Option ℕ → StateStream S → Type 0
IsWithout None stream = ⊥
IsWithout (Some sign) stream = begins_with sign (left stream.position) ≡ false

-- white space and the sign were read
pub record GoesOn {S : Type 0} (sign : Option ℕ) (old new : StateStream S) : Type 0 where
  pub behind : StateStream S
  pub spaces : SkipsSpaces old behind
  pub signed : SkipsSign sign behind new

-- white space was read, and there is no sign
pub record Stops {S : Type 0} (sign : Option ℕ) (old new : StateStream S) : Type 0 where
  pub spaces : SkipsSpaces old new
  pub without : IsWithout sign new
