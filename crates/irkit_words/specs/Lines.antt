-- Lines that tell of faults.
use Rattle.std.specs.Prelude.{◌≡◌, ℕ, List, [], ◌∷◌, ◌++◌, codes}

-- what is said, as a line of a fault
abbrev pub fault_line : List ℕ → List ℕ
fault_line said = codes "error: " ++ said ++ 10 ∷ []

-- The text is the line of a fault, of which something is said.
abbrev pub IsFaultLine : List ℕ → Type 0
IsFaultLine text = (said : List ℕ) × (text ≡ fault_line said)

-- the line that tells of refused memory
abbrev pub memory_line : List ℕ
memory_line = fault_line (codes "memory")
