-- A small view of a context that any store can give: what handles lead to, which are spent, and the next number. Printing, reading, rules and passes need no more.
use Rattle.std.specs.Prelude.{◌≡◌, ℕ, List, [], ◌∷◌, Option, Some, None}
use Rattle.ir_arena.specs.Arena.{IsSpent}
use Rattle.ir_program.specs.Program.{Program, OperationView, BlockView, RegionView, operation_at, block_at, region_at}
use Rattle.ir_program.specs.declared.handles.Ptr.{Ptr}
use Rattle.ir_program.specs.declared.handles.Operation.{Operation}
use Rattle.ir_program.specs.declared.handles.Region.{Region}
use Rattle.ir_program.specs.declared.handles.BasicBlock.{BasicBlock}
use Rattle.ir_trees.specs.Trees.{Sort, Operations, Blocks, Regions, Tree, end, operation, block, region, Root}
use Rattle.ir_trees.specs.Stands.{by_handle, in_program, Handles, head_of, label_of}

pub record SeenProgram (O B : Type 0) : Type 1 where
  -- what a handle leads to; types of values are among what it says
  pub operation_under : Ptr Operation → Option (OperationView O)
  pub block_under : Ptr BasicBlock → Option (BlockView B)
  pub region_under : Ptr Region → Option RegionView
  -- the handle was given out, and leads nowhere for good
  pub spent_operation : Ptr Operation → Type 0
  pub spent_block : Ptr BasicBlock → Type 0
  pub spent_region : Ptr Region → Type 0
  -- the number of the value that comes next
  pub next_number : ℕ

-- what a program shows of itself
abbrev pub seen : {O B : Type 0} → Program O B → SeenProgram O B
seen c = record {
  operation_under = operation_at c;
  block_under = block_at c;
  region_under = region_at c;
  spent_operation = λ p. IsSpent c.forest.ops p.key;
  spent_block = λ b. IsSpent c.forest.blocks b.key;
  spent_region = λ r. IsSpent c.forest.regions r.key;
  next_number = c.counter;
}

module _ {O B : Type 0} (s : SeenProgram O B) where
  -- nothing is under the handle, and nothing ever was
  pub record IsFreshOperation (p : Ptr Operation) : Type 0 where
    pub nothing : s.operation_under p ≡ None
    pub unspent : s.spent_operation p → ⊥

  pub record IsFreshBlock (b : Ptr BasicBlock) : Type 0 where
    pub nothing : s.block_under b ≡ None
    pub unspent : s.spent_block b → ⊥

  pub record IsFreshRegion (r : Ptr Region) : Type 0 where
    pub nothing : s.region_under r ≡ None
    pub unspent : s.spent_region r → ⊥

  -- the handles lead to what the tree lists, one after the other, with all that is in them
  pub data AreSeen : (sort : Sort) → Handles sort → Tree by_handle (in_program O B) sort → Type 0 where
    no_operations : AreSeen Operations [] end
    no_blocks : AreSeen Blocks [] end
    no_regions : AreSeen Regions [] end
    first_operation : (p : Ptr Operation) (ps : List (Ptr Operation)) (v : OperationView O) (regions : Tree by_handle (in_program O B) Regions) (rest : Tree by_handle (in_program O B) Operations)
        → s.operation_under p ≡ Some v → AreSeen Regions v.regions regions → AreSeen Operations ps rest → AreSeen Operations (p ∷ ps) (operation (head_of p v) regions rest)
    first_block : (b : Ptr BasicBlock) (bs : List (Ptr BasicBlock)) (v : BlockView B) (operations : Tree by_handle (in_program O B) Operations) (rest : Tree by_handle (in_program O B) Blocks)
        → s.block_under b ≡ Some v → AreSeen Operations v.operations operations → AreSeen Blocks bs rest → AreSeen Blocks (b ∷ bs) (block (label_of b v) operations rest)
    first_region : (r : Ptr Region) (rs : List (Ptr Region)) (v : RegionView) (blocks : Tree by_handle (in_program O B) Blocks) (rest : Tree by_handle (in_program O B) Regions)
        → s.region_under r ≡ Some v → AreSeen Blocks v.blocks blocks → AreSeen Regions rs rest → AreSeen Regions (r ∷ rs) (region blocks rest)

  -- the operation is there, and the tree is what is seen of it with all that is in it
  pub record IsSeenAs (p : Ptr Operation) (t : Root by_handle (in_program O B)) : Type 0 where
    pub view : OperationView O
    pub there : s.operation_under p ≡ Some view
    pub head : t.head ≡ head_of p view
    pub regions : AreSeen Regions view.regions t.regions

module _ {O B : Type 0} (s t : SeenProgram O B) where
  -- spent handles stay spent
  pub record KeepsSpentHandles : Type 0 where
    pub operations : (p : Ptr Operation) → s.spent_operation p → t.spent_operation p
    pub blocks : (b : Ptr BasicBlock) → s.spent_block b → t.spent_block b
    pub regions : (r : Ptr Region) → s.spent_region r → t.spent_region r

  -- what led somewhere leads to the same
  pub record KeepsLiveHandles : Type 0 where
    pub operations : (p : Ptr Operation) (v : OperationView O) → s.operation_under p ≡ Some v → t.operation_under p ≡ Some v
    pub blocks : (b : Ptr BasicBlock) (v : BlockView B) → s.block_under b ≡ Some v → t.block_under b ≡ Some v
    pub regions : (r : Ptr Region) (v : RegionView) → s.region_under r ≡ Some v → t.region_under r ≡ Some v
    pub spent : KeepsSpentHandles

  -- each handle leads to what it led to
  pub record HandlesLeadAlike : Type 0 where
    pub operations : (p : Ptr Operation) → t.operation_under p ≡ s.operation_under p
    pub blocks : (b : Ptr BasicBlock) → t.block_under b ≡ s.block_under b
    pub regions : (r : Ptr Region) → t.region_under r ≡ s.region_under r
    pub spent : KeepsSpentHandles
