-- The sources and the identifiers of a legaliser, one beside the other.
use Rattle.std.specs.Prelude.{List, [], ◌∷◌, String}
use Rattle.std.specs.String.{string_bytes}
use Rattle.ir_names.specs.declared.identifier.Identifier.{Identifier}
use Rattle.ir_names.specs.Identifier.{text_of}
use Rattle.ir_names.specs.Legaliser.{Given}

-- each source with the identifier at its index
abbrev pub paired : {A : Type 0} → List (String A) → List Identifier → List Given
paired [] names = []
paired (s ∷ ss) [] = []
paired (s ∷ ss) (n ∷ ns) = (string_bytes s, text_of n) ∷ paired ss ns
