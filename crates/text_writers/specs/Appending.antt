-- What is put behind what was written, in bytes.
use Rattle.std.specs.Prelude.{ℕ, ◌≡◌, List, ◌++◌}

-- Bytes of which this holds were put behind what was written.
abbrev pub Appends : (List ℕ → Type 0) → List ℕ → List ℕ → Type 0
Appends Holds old new = (bytes : List ℕ) × Holds bytes × (new ≡ old ++ bytes)

-- bytes of which this holds, between two texts
abbrev pub Encloses : List ℕ → List ℕ → (List ℕ → Type 0) → List ℕ → Type 0
Encloses left right Holds bytes = (inner : List ℕ) × Holds inner × (bytes ≡ left ++ (inner ++ right))
