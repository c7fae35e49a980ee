-- Tables of the rows of blocks, of the places that read values, and of the places that they are forwarded to.
use Rattle.std.specs.Prelude.{◌≡◌, ℕ, List, [], length, replicate, Some, slice_get}
use Rattle.opt_rows.specs.OperationRows.{BranchEdge, Row}
use Rattle.opt_rows.specs.declared.facts_problem.FactsProblem.{FactsProblem}
use Rattle.opt_solvers.specs.declared.facts_tables.Place.{Place}
use Rattle.opt_solvers.specs.declared.facts_tables.Slot.{Slot}
use Rattle.opt_solvers.specs.declared.facts_tables.Tables.{Tables}
use Rattle.opt_rows.specs.LinkedRows.{RowsGain, TableLists}
use Rattle.opt_rows.specs.Facts.{arguments_of}
use Rattle.opt_steps.specs.FactsEdges.{ForwardsToArgument}

-- the operation with this number is in the block
pub record IsRowInBlock (rows : List Row) (b i : ℕ) : Type 0 where
  pub row : Row
  pub there : slice_get rows i ≡ Some row
  pub block : row.block ≡ b

-- the operand at the place is the value
pub record ReadsValue (rows : List Row) (v : ℕ) (x : Place) : Type 0 where
  pub row : Row
  pub there : slice_get rows x.row ≡ Some row
  pub operand : slice_get row.operands x.operand ≡ Some v

-- along the edge with this number
pub record ForwardsAlong (p : FactsProblem) (edges : List BranchEdge) (operands : List ℕ) (v n w : ℕ) : Type 0 where
  pub edge : BranchEdge
  pub there : slice_get edges n ≡ Some edge
  pub forwards : ForwardsToArgument (arguments_of p edge.target) edge.forwards operands v w

-- the slot is one that the value is forwarded to
pub record IsForwardSlot (p : FactsProblem) (rows : List Row) (v : ℕ) (x : Slot) : Type 0 where
  pub row : Row
  pub there : slice_get rows x.row ≡ Some row
  pub along : ForwardsAlong p row.edges row.operands v x.edge x.argument

-- places of an operation that read the value
abbrev pub PlacesOf : ℕ → List ℕ → ℕ → Place → Type 0
PlacesOf number operands v x = (x.row ≡ number) × (slice_get operands x.operand ≡ Some v)

-- slots of an edge that the value is forwarded to
abbrev pub SlotsOfEdge : ℕ → ℕ → List ℕ → List ℕ → List ℕ → ℕ → Slot → Type 0
SlotsOfEdge number edge arguments indices operands v x = (x.row ≡ number) × (x.edge ≡ edge) × ForwardsToArgument arguments indices operands v x.argument

-- slots of an operation that the value is forwarded to
abbrev pub SlotsOf : FactsProblem → ℕ → List BranchEdge → List ℕ → ℕ → Slot → Type 0
SlotsOf p number edges operands v x = (x.row ≡ number) × ForwardsAlong p edges operands v x.edge x.argument

-- the tables list the operations of each block, the places that read each value, and the slots that it is forwarded to
pub record AreTables (p : FactsProblem) (t : Tables) : Type 0 where
  pub rows : TableLists (IsRowInBlock p.rows) t.rows (length p.arguments.items)
  pub readers : TableLists (ReadsValue p.rows) t.readers p.values
  pub slots : TableLists (IsForwardSlot p p.rows) t.slots p.values

-- nothing is in any row of the tables
pub record AreEmptyTables (p : FactsProblem) (t : Tables) : Type 0 where
  pub rows : t.rows ≡ replicate (length p.arguments.items) []
  pub readers : t.readers ≡ replicate p.values []
  pub slots : t.slots ≡ replicate p.values []

-- one operation more
pub record AddsRow (p : FactsProblem) (old new : Tables) (number : ℕ) (r : Row) : Type 0 where
  pub rows : RowsGain (λ b i. (i ≡ number) × (r.block ≡ b)) old.rows new.rows
  pub readers : RowsGain (PlacesOf number r.operands) old.readers new.readers
  pub slots : RowsGain (SlotsOf p number r.edges r.operands) old.slots new.slots

-- the operations of the list are in the tables
pub record HoldRows (p : FactsProblem) (old new : Tables) (rs : List Row) : Type 0 where
  pub rows : RowsGain (IsRowInBlock rs) old.rows new.rows
  pub readers : RowsGain (ReadsValue rs) old.readers new.readers
  pub slots : RowsGain (IsForwardSlot p rs) old.slots new.slots
