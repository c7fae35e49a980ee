-- The rules on the shape and the keys of a kind, and the kind's row in the table of kinds.
use Rattle.std.specs.Prelude.{◌≡◌, ◌↔◌, ℕ, List, length}
use Rattle.ir_trees.specs.Stands.{ProgramTree}
use Rattle.opt_trees.specs.Occurrences.{Has}
use Rattle.kit_ops.specs.declared.kinds.KitOp.{KitOp}
use Rattle.kit_ops.specs.declared.table.Count.{Count}
use Rattle.kit_ops.specs.declared.table.Count.TheVariants.{Exactly, Any}
use Rattle.kit_ops.specs.Table.{KindRow, row_of}
use Rattle.kit_checks.specs.Sites.{region_list}
use Rattle.kit_checks.specs.Rules.{FitsKind, IsOwnKey}
use Rattle.kit_checks.specs.World.{World}

-- there are as many as a row says
abbrev pub IsCount : Count → ℕ → Type 0
IsCount (Exactly n) k = k ≡ n
IsCount Any k = Unit {0}

-- an operation has as many results, operands, successors and regions as a row says
pub record HasShapeOf {O B : Type 0} (u : ProgramTree O B) (row : KindRow) : Type 0 where
  pub results : IsCount row.results (length u.head.results)
  pub operands : IsCount row.operands (length u.head.operands)
  pub successors : length u.head.successors ≡ row.successors
  pub regions : length (region_list u.regions) ≡ row.regions

-- an operation that fits the format of a kind has the shape of the kind's row
abbrev pub FormatsAreRows : Type 0 → Type 0 → Type 0
FormatsAreRows O B = (w : World O B) (u : ProgramTree O B) (kind : KitOp) → FitsKind w u kind → HasShapeOf u (row_of kind)

-- the keys that are a kind's own are those of its row
abbrev pub OwnKeysAreRows : Type 0
OwnKeysAreRows = (kind : KitOp) (key : List ℕ) → (IsOwnKey kind key ↔ Has key (row_of kind).keys)
