-- How ids of kinds are written.
use Rattle.std.specs.Prelude.{ℕ, List, ◌++◌, codes}

-- the names of the dialect and of the kind, with a point between them
abbrev pub dotted : List ℕ × List ℕ → List ℕ
dotted id = id.0 ++ (codes "." ++ id.1)
