-- Operations as constant propagation sees them, by numbers.
use Rattle.std.specs.Prelude.{ℕ, zero, suc, List, [], ◌∷◌, ◌++◌, slice_get, unwrap_or}
use Rattle.opt_rows.specs.declared.facts_problem.Role.{Role}
use Rattle.opt_rows.specs.declared.facts_problem.Role.TheVariants.{Other}
use Rattle.opt_rows.specs.Rows.{row_at}

-- an edge of a branch: the block that it leads to, and which operands are forwarded along it, by their indices, in the order of the arguments of the block
pub record BranchEdge : Type 0 where
  pub target : ℕ
  pub forwards : List ℕ

-- an operation: the block that it is in, what it is asked, the values that it takes and gives, its edges, and the entry blocks of its regions
pub record Row : Type 0 where
  pub block : ℕ
  pub role : Role
  pub operands : List ℕ
  pub results : List ℕ
  pub edges : List BranchEdge
  pub entries : List ℕ

abbrev pub no_edge : BranchEdge
no_edge = record { target = 0; forwards = [] }

abbrev pub no_row : Row
no_row = record { block = 0; role = Other; operands = []; results = []; edges = []; entries = [] }

-- the edge with this index, nothing where it isn't there
abbrev pub edge_numbered : List BranchEdge → ℕ → BranchEdge
edge_numbered edges i = unwrap_or (slice_get edges i) no_edge

-- the operation with this number, nothing where it isn't there
abbrev pub row_numbered : List Row → ℕ → Row
row_numbered rows i = unwrap_or (slice_get rows i) no_row

-- what is numbered, as far as a number
abbrev pub numbered : {X : Type 0} → (ℕ → X) → ℕ → List X
numbered f zero = []
numbered f (suc n) = numbered f n ++ f n ∷ []

-- the edge with this index, by lists of targets and of what is forwarded
abbrev pub edge_in : List ℕ → List (List ℕ) → ℕ → BranchEdge
edge_in targets forwards i = record { target = unwrap_or (slice_get targets i) 0; forwards = row_at forwards i }
