-- The characters of texts, by their numbers.
use Rattle.std.specs.Prelude.{ℕ, List, [], ◌∷◌, if◌then◌else◌}
use Rattle.std.specs.Char.{is_whitespace}
use Rattle.std.specs.List.{list_all}
use Rattle.ir_characters.specs.declared.text.Text.{Text}
use Rattle.ir_characters.specs.declared.text.Text.TheVariants as lent
use Rattle.ir_characters.specs.declared.characters.Characters.{Characters}
use Rattle.ir_characters.specs.declared.characters.Characters.TheVariants as owned

-- the characters of a lent text; a byte has the number of its character
abbrev pub codes_of : Text → List ℕ
codes_of (lent.Bytes bytes) = bytes.now
codes_of (lent.Characters characters) = characters.now

-- the characters of a text of one's own
abbrev pub owned_codes : Characters → List ℕ
owned_codes (owned.Bytes bytes) = bytes.items
owned_codes (owned.Characters characters) = characters.items

-- without the white space at the end
abbrev pub trimmed : List ℕ → List ℕ
trimmed [] = []
trimmed (c ∷ cs) = if list_all is_whitespace (c ∷ cs) then [] else c ∷ trimmed cs
