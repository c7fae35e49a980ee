-- Operations in lists, one for each kind of thing.
use Rattle.std.specs.Prelude.{◌≡◌, ◌<◌, ◌^◌, ℕ, List, [], ◌∷◌, ◌++◌, length, slice_get, unwrap_or}
use Rattle.opt_rows.specs.declared.facts_problem.Role.TheVariants.{Other}
use Rattle.opt_rows.specs.declared.operation_rows.RowBuffer.{RowBuffer}
use Rattle.opt_rows.specs.declared.operation_rows.Columns.{Columns}
use Rattle.opt_rows.specs.Rows.{rows_from, AreEnds, row_at}
use Rattle.opt_rows.specs.OperationRows.{BranchEdge, Row, numbered}

-- the operation that was put together
abbrev pub buffered : RowBuffer → Row
buffered r = record { block = r.block; role = r.role; operands = r.operands.items; results = r.results.items; edges = r.edges; entries = r.entries.items }

-- the edges of each operation
abbrev pub edges_of : Columns → List (List BranchEdge)
edges_of c = rows_from 0 c.edge_ends.items c.edges

-- the operation with this number
abbrev pub row_in : Columns → ℕ → Row
row_in c i = record { block = unwrap_or (slice_get c.blocks.items i) 0; role = unwrap_or (slice_get c.roles.items i) Other; operands = row_at c.operands i; results = row_at c.results i; edges = row_at (edges_of c) i; entries = row_at c.entries i }

abbrev pub rows_in : Columns → List Row
rows_in c = numbered (row_in c) (length c.blocks.items)

-- each list says something of each operation
pub record AreInStep (c : Columns) : Type 0 where
  pub roles : length c.roles.items ≡ length c.blocks.items
  pub operands : length c.operands ≡ length c.blocks.items
  pub results : length c.results ≡ length c.blocks.items
  pub entries : length c.entries ≡ length c.blocks.items
  pub edge_ends : length c.edge_ends.items ≡ length c.blocks.items
  pub edges : AreEnds 0 c.edge_ends.items (length c.edges)
  pub countable : length c.edges < 2 ^ 64

-- each list says something of one operation more
pub record GainRow (old new : Columns) (r : Row) : Type 0 where
  pub blocks : new.blocks.items ≡ old.blocks.items ++ r.block ∷ []
  pub roles : new.roles.items ≡ old.roles.items ++ r.role ∷ []
  pub operands : new.operands ≡ old.operands ++ r.operands ∷ []
  pub results : new.results ≡ old.results ++ r.results ∷ []
  pub entries : new.entries ≡ old.entries ++ r.entries ∷ []
  pub edges : new.edges ≡ old.edges ++ r.edges
  pub edge_ends : new.edge_ends.items ≡ old.edge_ends.items ++ length new.edges ∷ []
  pub countable : length new.edges < 2 ^ 64

-- no list says anything
pub record AreEmpty (c : Columns) : Type 0 where
  pub blocks : c.blocks.items ≡ []
  pub roles : c.roles.items ≡ []
  pub operands : c.operands ≡ []
  pub results : c.results ≡ []
  pub entries : c.entries ≡ []
  pub edge_ends : c.edge_ends.items ≡ []
  pub edges : c.edges ≡ []
