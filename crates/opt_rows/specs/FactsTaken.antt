-- Which edges are taken.
use Rattle.std.specs.Prelude.{Bool, false, List, length, replicate}
use Rattle.opt_rows.specs.OperationRows.{Row}

-- no edge of the operation is taken
abbrev pub untaken : Row → List Bool
untaken r = replicate (length r.edges) false
