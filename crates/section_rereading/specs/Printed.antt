-- What a section is printed as, by its characters.
use Rattle.std.specs.Prelude.{ℕ, List, [], ◌∷◌, ◌++◌}
use Rattle.text_sections.specs.Texts.{Token, sign, attribute, location}

module _ {A L : Type 0} (attribute_text : A → List ℕ) (location_text : L → List ℕ) where
  -- the characters of a token
  abbrev pub characters_of : Token A L → List ℕ
  characters_of (sign cs) = cs
  characters_of (attribute a) = attribute_text a
  characters_of (location l) = location_text l

  -- the characters of tokens, and these behind them
  abbrev pub printed : List (Token A L) → List ℕ → List ℕ
  printed [] rest = rest
  printed (t ∷ ts) rest = characters_of t ++ printed ts rest
