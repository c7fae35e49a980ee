-- What places in a text without a name are printed as.
use Rattle.std.specs.Prelude.{ℕ, List, ◌++◌, codes, decimal}

-- the text of a line and a column in a text without a name
abbrev pub place_text : ℕ → ℕ → List ℕ
place_text line column = codes "<in-memory>: line: " ++ (decimal line ++ (codes ", column: " ++ decimal column))
