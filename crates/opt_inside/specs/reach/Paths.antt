-- Blocks by numbers, and paths from the entries of regions among these.
use Rattle.std.specs.Prelude.{◌≡◌, ◌↔◌, ℕ, ◌+◌, ◌-◌, Bool, true, false, List, [], ◌∷◌, ◌++◌, map, length, Option, Some, None, slice_get, Contains}
use Rattle.std.specs.List.{position_or_len}
use Rattle.std.specs.declared.vec.Vec.{Vec}
use Rattle.std.specs.declared.alloc.Global.{Global}
use Rattle.digraph.specs.Graph.{successors}
use Rattle.ir_program.specs.Lists.{operations_in, blocks_in}
use Rattle.ir_program.specs.Program.{Program}
use Rattle.ir_program.specs.Replacing.{same_block}
use Rattle.ir_program.specs.Rows.{successors_at}
use Rattle.ir_program.specs.declared.handles.Ptr.{Ptr}
use Rattle.ir_program.specs.declared.handles.Operation.{Operation}
use Rattle.ir_program.specs.declared.handles.Region.{Region}
use Rattle.ir_program.specs.declared.handles.BasicBlock.{BasicBlock}

-- with the item behind them, where it is wanted
abbrev pub items_if : {X : Type 0} → Bool → List X → X → List X
items_if false xs x = xs
items_if true xs x = xs ++ x ∷ []

-- the number of a block: its index among those that have numbers, and their count where it has none
abbrev pub number_in : List (Ptr BasicBlock) → Ptr BasicBlock → ℕ
number_in keys b = position_or_len (same_block b) keys

module _ {O B : Type 0} (c : Program O B) where
  -- the successors of an operation, where there is one
  abbrev pub exits_by : Option (Ptr Operation) → List (Ptr BasicBlock)
  exits_by None = []
  exits_by (Some p) = successors_at c p

  -- the successors of the last operation of a block
  abbrev pub exits_of : Ptr BasicBlock → List (Ptr BasicBlock)
  exits_of b = exits_by (slice_get (operations_in c b) (length (operations_in c b) - 1))

  -- the block is the first of its region
  abbrev pub IsEntry : Ptr BasicBlock → Type 0
  IsEntry b = (r : Ptr Region) × (slice_get (blocks_in c r) 0 ≡ Some b)

  -- each block that has a number leads to the successors of its last operation, and a node behind all blocks leads to the
  -- entries
  pub record IsPathGraph (keys : List (Ptr BasicBlock)) (rows : List (Vec ℕ Global)) : Type 0 where
    pub len : length rows ≡ length keys + 1
    pub blocks : (k : ℕ) (b : Ptr BasicBlock) → slice_get keys k ≡ Some b
        → successors rows k ≡ map (number_in keys) (exits_of b)
    pub entries : (n : ℕ)
        → Contains (successors rows (length keys)) n ↔ ((b : Ptr BasicBlock) × (slice_get keys n ≡ Some b) × IsEntry b)
