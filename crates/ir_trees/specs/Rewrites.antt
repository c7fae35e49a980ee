-- What a pass makes of a tree: operations put before others and at the start of blocks, operations and blocks left out, and all others with another head or label, in place.
use Rattle.std.specs.Prelude.{◌≡◌, ◌≢◌, Bool, true, List, [], ◌∷◌, ◌++◌, Option, Some, None, cond}
use Rattle.ir_program.specs.Program.{Program, OperationView, BlockView, RegionView, operation_at, block_at, region_at}
use Rattle.ir_program.specs.Lists.{StandsInside}
use Rattle.ir_program.specs.declared.handles.IRNode.{IRNode}
use Rattle.ir_program.specs.declared.handles.IRNode.TheVariants.{Operation as OperationNode, Region as RegionNode, BasicBlock as BlockNode}
use Rattle.ir_program.specs.declared.handles.Ptr.{Ptr}
use Rattle.ir_program.specs.declared.handles.Operation.{Operation}
use Rattle.ir_program.specs.declared.handles.Region.{Region}
use Rattle.ir_program.specs.declared.handles.BasicBlock.{BasicBlock}
use Rattle.ir_trees.specs.Names.{Names, Contents}
use Rattle.ir_trees.specs.Trees.{Head, Label, Sort, Operations, Tree, end, operation, block, region, Root}
use Rattle.ir_trees.specs.Searched.{Lists}
use Rattle.ir_trees.specs.Stands.{by_handle, in_program, ProgramTree, ProgramHead, ProgramLabel, head_of, label_of, AreTree, StandsFor}

-- what becomes of each operation and of each block, as its head or its label says
pub record Rewriting (N : Names) (S : Contents) : Type 0 where
  -- operations that are put right before it and right after it, and at the start and at the end of the block
  pub before : Head N S → Tree N S Operations
  pub after : Head N S → Tree N S Operations
  pub first : Label N S → Tree N S Operations
  pub last : Label N S → Tree N S Operations
  -- it stays, or is left out with all that is in it
  pub keeps : Head N S → Bool
  pub keeps_block : Label N S → Bool
  -- where it stays, what it is then
  pub head : Head N S → Head N S
  pub label : Label N S → Label N S

module _ {N : Names} {S : Contents} where
  -- the names of the operations of a list, not of those in them
  abbrev pub roots : Tree N S Operations → List N.operation
  roots end = []
  roots (operation h rs rest) = h.name ∷ roots rest

  -- the operations of the one list, then those of the other
  abbrev pub joined : Tree N S Operations → Tree N S Operations → Tree N S Operations
  joined end t = t
  joined (operation h rs rest) t = operation h rs (joined rest t)

  -- the tree with other heads and labels, in place
  module _ (f : Head N S → Head N S) (g : Label N S → Label N S) where
    abbrev pub changed : {s : Sort} → Tree N S s → Tree N S s
    changed end = end
    changed (operation h rs rest) = operation (f h) (changed rs) (changed rest)
    changed (block l ops rest) = block (g l) (changed ops) (changed rest)
    changed (region bs rest) = region (changed bs) (changed rest)

    abbrev pub changed_root : Root N S → Root N S
    changed_root t = record { head = f t.head; regions = changed t.regions }

  module _ (w : Rewriting N S) where
    abbrev pub rewritten : {s : Sort} → Tree N S s → Tree N S s
    rewritten end = end
    rewritten (operation h rs rest) = joined (w.before h) (cond (w.keeps h) (operation (w.head h) (rewritten rs) (joined (w.after h) (rewritten rest))) (joined (w.after h) (rewritten rest)))
    rewritten (block l ops rest) = cond (w.keeps_block l) (block (w.label l) (joined (w.first l) (joined (rewritten ops) (w.last l))) (rewritten rest)) (rewritten rest)
    rewritten (region bs rest) = region (rewritten bs) (rewritten rest)

    abbrev pub rewritten_root : Root N S → Root N S
    rewritten_root t = record { head = w.head t.head; regions = rewritten t.regions }

module _ {O B : Type 0} (old : Program O B) (w : Rewriting by_handle (in_program O B)) where
  -- what stands in place of an operation, in front of a list
  abbrev pub in_place : Ptr Operation → Option (OperationView O) → List (Ptr Operation) → List (Ptr Operation)
  in_place p None rest = rest
  in_place p (Some v) rest = roots (w.before (head_of p v)) ++ cond (w.keeps (head_of p v)) (p ∷ (roots (w.after (head_of p v)) ++ rest)) (roots (w.after (head_of p v)) ++ rest)

  abbrev pub block_in_place : Ptr BasicBlock → Option (BlockView B) → List (Ptr BasicBlock) → List (Ptr BasicBlock)
  block_in_place b None rest = rest
  block_in_place b (Some v) rest = cond (w.keeps_block (label_of b v)) (b ∷ rest) rest

  -- the operations in place of a list of them, and the blocks
  abbrev pub operations_after : List (Ptr Operation) → List (Ptr Operation)
  operations_after [] = []
  operations_after (p ∷ ps) = in_place p (operation_at old p) (operations_after ps)

  abbrev pub blocks_after : List (Ptr BasicBlock) → List (Ptr BasicBlock)
  blocks_after [] = []
  blocks_after (b ∷ bs) = block_in_place b (block_at old b) (blocks_after bs)

  -- the root, and what is in something that stays and stays itself
  pub data Stays (op : Ptr Operation) : IRNode → Type 0 where
    root : Stays op (OperationNode op)
    in_operation : (p : Ptr Operation) (v : OperationView O) (r : Ptr Region) → Stays op (OperationNode p) → operation_at old p ≡ Some v → Lists v.regions r → Stays op (RegionNode r)
    in_region : (r : Ptr Region) (v : RegionView) (b : Ptr BasicBlock) (l : BlockView B) → Stays op (RegionNode r) → region_at old r ≡ Some v → Lists v.blocks b → block_at old b ≡ Some l → w.keeps_block (label_of b l) ≡ true → Stays op (BlockNode b)
    in_block : (b : Ptr BasicBlock) (l : BlockView B) (p : Ptr Operation) (v : OperationView O) → Stays op (BlockNode b) → block_at old b ≡ Some l → Lists l.operations p → operation_at old p ≡ Some v → w.keeps (head_of p v) ≡ true → Stays op (OperationNode p)

-- each record of the new program that stays inside the operation is what the rewriting makes of the old one
pub record RewritesInside {O B : Type 0} (old new : Program O B) (op : Ptr Operation) (w : Rewriting by_handle (in_program O B)) : Type 0 where
  pub operations : (p : Ptr Operation) (v : OperationView O) → Stays old w op (OperationNode p) → operation_at old p ≡ Some v
      → (u : OperationView O) × (operation_at new p ≡ Some u) × (head_of p u ≡ w.head (head_of p v)) × (u.regions ≡ v.regions)
  pub regions : (r : Ptr Region) (v : RegionView) → Stays old w op (RegionNode r) → region_at old r ≡ Some v
      → (u : RegionView) × (region_at new r ≡ Some u) × (u.blocks ≡ blocks_after old w v.blocks)
  pub blocks : (b : Ptr BasicBlock) (v : BlockView B) → Stays old w op (BlockNode b) → block_at old b ≡ Some v
      → (u : BlockView B) × (block_at new b ≡ Some u) × (label_of b u ≡ w.label (label_of b v)) × (u.operations ≡ roots (w.first (label_of b v)) ++ (operations_after old w v.operations ++ roots (w.last (label_of b v))))
  -- what is put somewhere is there, with all that is in it
  pub around : (p : Ptr Operation) (v : OperationView O) (b : Ptr BasicBlock) (l : BlockView B) → Stays old w op (BlockNode b) → block_at old b ≡ Some l → Lists l.operations p → operation_at old p ≡ Some v
      → AreTree new Operations (roots (w.before (head_of p v))) (w.before (head_of p v)) × AreTree new Operations (roots (w.after (head_of p v))) (w.after (head_of p v))
  pub ends : (b : Ptr BasicBlock) (v : BlockView B) → Stays old w op (BlockNode b) → block_at old b ≡ Some v
      → AreTree new Operations (roots (w.first (label_of b v))) (w.first (label_of b v)) × AreTree new Operations (roots (w.last (label_of b v))) (w.last (label_of b v))

-- all that is inside the operation leads to what it led to
pub record KeepsInside {O B : Type 0} (old new : Program O B) (op : Ptr Operation) : Type 0 where
  pub operations : (p : Ptr Operation) → StandsInside old (OperationNode op) (OperationNode p) → operation_at new p ≡ operation_at old p
  pub blocks : (b : Ptr BasicBlock) → StandsInside old (OperationNode op) (BlockNode b) → block_at new b ≡ block_at old b
  pub regions : (r : Ptr Region) → StandsInside old (OperationNode op) (RegionNode r) → region_at new r ≡ region_at old r

-- each operation and block inside has the head or the label that f or g makes of what it had, and holds what it held
pub record ChangesInside {O B : Type 0} (old new : Program O B) (op : Ptr Operation) (f : Head by_handle (in_program O B) → Head by_handle (in_program O B)) (g : Label by_handle (in_program O B) → Label by_handle (in_program O B)) : Type 0 where
  pub operations : (p : Ptr Operation) (v : OperationView O) → StandsInside old (OperationNode op) (OperationNode p) → operation_at old p ≡ Some v
      → (u : OperationView O) × (operation_at new p ≡ Some u) × (head_of p u ≡ f (head_of p v)) × (u.regions ≡ v.regions)
  pub blocks : (b : Ptr BasicBlock) (v : BlockView B) → StandsInside old (OperationNode op) (BlockNode b) → block_at old b ≡ Some v
      → (u : BlockView B) × (block_at new b ≡ Some u) × (label_of b u ≡ g (label_of b v)) × (u.operations ≡ v.operations)
  pub regions : (r : Ptr Region) → StandsInside old (OperationNode op) (RegionNode r) → region_at new r ≡ region_at old r

module _ {O B : Type 0} where
  -- each operation stands for what g makes of the tree that it stood for
  abbrev pub TurnsInto : Program O B → Program O B → (ProgramTree O B → ProgramTree O B) → Type 0
  TurnsInto old new g = (op : Ptr Operation) (t : ProgramTree O B) → StandsFor old op t → StandsFor new op (g t)

  -- the edit of the operation p makes of its head what f does, and leaves it its regions
  abbrev pub EditsHead : Ptr Operation → (OperationView O → OperationView O) → (ProgramHead O B → ProgramHead O B) → Type 0
  EditsHead p edit f = (v : OperationView O) → (head_of p (edit v) ≡ f (head_of p v)) × ((edit v).regions ≡ v.regions)

  -- the edit of the block b makes of its label what g does, and leaves it its operations
  abbrev pub EditsLabel : Ptr BasicBlock → (BlockView B → BlockView B) → (ProgramLabel O B → ProgramLabel O B) → Type 0
  EditsLabel b edit g = (v : BlockView B) → (label_of b (edit v) ≡ g (label_of b v)) × ((edit v).operations ≡ v.operations)

  -- f leaves the heads of all operations but p, and g the labels of all blocks but b
  abbrev pub IsOfHead : Ptr Operation → (ProgramHead O B → ProgramHead O B) → Type 0
  IsOfHead p f = (h : ProgramHead O B) → h.name ≢ p → f h ≡ h

  abbrev pub IsOfLabel : Ptr BasicBlock → (ProgramLabel O B → ProgramLabel O B) → Type 0
  IsOfLabel b g = (l : ProgramLabel O B) → l.name ≢ b → g l ≡ l

  -- the tree with other heads alone, and with other labels alone
  abbrev pub with_heads : (ProgramHead O B → ProgramHead O B) → ProgramTree O B → ProgramTree O B
  with_heads f = changed_root f (λ l. l)

  abbrev pub with_labels : (ProgramLabel O B → ProgramLabel O B) → ProgramTree O B → ProgramTree O B
  with_labels g = changed_root (λ h. h) g
