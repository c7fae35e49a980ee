-- Names, and the word that the section begins with.
use Rattle.std.specs.Prelude.{ℕ, ◌≡◌, ◌==◌, ◌⊎◌, Bool, true, false, List, [], ◌∷◌, None, Some, codes, if◌then◌else◌}
use Rattle.ir_names.specs.Identifier.{text_of}
use Rattle.ir_names.specs.Text.{is_first_code}
use Rattle.ir_names.specs.declared.identifier.Identifier.{Identifier}
use Rattle.text_streams.specs.declared.stream.StateStream.{StateStream}
use Rattle.text_streams.specs.declared.faults.ParseFault.{ParseFault}
use Rattle.text_streams.specs.declared.faults.TextError.TheVariants.{Syntax}
use Rattle.text_streams.specs.Positions.{left}
use Rattle.text_streams.specs.Quotes.{Said}
use Rattle.text_streams.specs.Streams.{Reads}
use Rattle.text_parsables.specs.Names.{name_text}
use Rattle.text_locations.specs.Faults.{IsFaultAt, IsMemory}

-- whether a text begins with a letter or a `_`
abbrev pub begins_name : List ℕ → Bool
begins_name [] = false
begins_name (c ∷ cs) = is_first_code c

-- whether a text begins with a `.` (46) and a name, which make a name before them a dotted one
abbrev pub is_dotted : List ℕ → Bool
is_dotted [] = false
is_dotted (c ∷ cs) = if c == 46 then begins_name cs else false

-- the name was read, which is here, and is no part of a dotted one
pub record ReadsName {S : Type 0} (old : StateStream S) (name : Identifier) (new : StateStream S) : Type 0 where
  pub said : Said
  pub there : name_text (left old.position) ≡ Some said
  pub says : text_of name ≡ said.0
  pub reads : Reads old new said.1
  pub whole : is_dotted (left new.position) ≡ false

-- a dotted name is here
pub record IsDotted {S : Type 0} (old : StateStream S) : Type 0 where
  pub said : Said
  pub there : name_text (left old.position) ≡ Some said
  pub behind : StateStream S
  pub reads : Reads old behind said.1
  pub dotted : is_dotted (left behind.position) ≡ true

-- why none was read: memory was refused; or no name is here, or a dotted one, and that is a syntax fault here
abbrev pub RefusesName : {S : Type 0} → StateStream S → ParseFault → Type 0
RefusesName old fault = IsMemory fault
    ⊎ (IsFaultAt old.position Syntax fault × ((name_text (left old.position) ≡ None) ⊎ IsDotted old))

-- the word that the section begins with
abbrev pub section_word : List ℕ
section_word = codes "outlined_attributes"

-- the word was read, which is here
abbrev pub ReadsWord : {S : Type 0} → StateStream S → StateStream S → Type 0
ReadsWord old new = (name : Identifier) × ReadsName old name new × (text_of name ≡ section_word)

-- why it wasn't: no name is here; or another one, and that is a syntax fault here
abbrev pub RefusesWord : {S : Type 0} → StateStream S → ParseFault → Type 0
RefusesWord {S} old fault = RefusesName old fault
    ⊎ (IsFaultAt old.position Syntax fault
    × (name : Identifier) × (behind : StateStream S) × ReadsName old name behind × (text_of name ≡ section_word → ⊥))
