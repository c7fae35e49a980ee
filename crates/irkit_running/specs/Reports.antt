-- What is written of a run.
use Rattle.std.specs.Prelude.{ℕ, List, [], ◌∷◌, ◌++◌, codes, flat_map}
use Rattle.std.specs.Fmt.{decimal}
use Rattle.kit_flat.specs.declared.outcome.Outcome.{Outcome}
use Rattle.kit_flat.specs.declared.outcome.Outcome.TheVariants.{Ended, Trapped, Limit}

-- the line of an emission: `emit` and the number
abbrev pub emit_line : ℕ → List ℕ
emit_line n = codes "emit " ++ (decimal n ++ 10 ∷ [])

-- a number with a space before it
abbrev pub spaced : ℕ → List ℕ
spaced n = codes " " ++ decimal n

-- the line of a run that ended: `end` and the values, each with a space before it
abbrev pub end_line : List ℕ → List ℕ
end_line values = codes "end" ++ (flat_map spaced values ++ 10 ∷ [])

-- The lines of a run: one for each emission, in their order, and one that says how it ended.
abbrev pub lines_of : Outcome → List ℕ
lines_of (Ended values emissions) = flat_map emit_line emissions.items ++ end_line values.items
lines_of (Trapped emissions) = flat_map emit_line emissions.items ++ (codes "trap" ++ 10 ∷ [])
lines_of (Limit emissions) = flat_map emit_line emissions.items ++ (codes "limit" ++ 10 ∷ [])
