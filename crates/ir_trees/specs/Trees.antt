-- Trees of operations, regions and blocks, over any names of operations, blocks and values.
use Rattle.std.specs.Prelude.{List}
use Rattle.ir_trees.specs.Names.{Names, Contents}

-- a definition of a value, and what is said of it
pub record Defined (V T : Type 0) : Type 0 where
  pub name : V
  pub holds : T

-- an operation apart from its regions
pub record Head (N : Names) (S : Contents) : Type 0 where
  pub name : N.operation
  pub content : S.of_operation
  pub results : List (Defined N.value S.of_value)
  pub operands : List N.value
  pub successors : List N.block

-- a block apart from its operations
pub record Label (N : Names) (S : Contents) : Type 0 where
  pub name : N.block
  pub content : S.of_block
  pub arguments : List (Defined N.value S.of_value)

-- what a list is of
pub data Sort : Type 0 where
  Operations Blocks Regions : Sort

-- a list of operations with what is in them, of blocks, or of regions: its first, and the rest of the list
pub data Tree (N : Names) (S : Contents) : Sort → Type 0 where
  end : {s : Sort} → Tree N S s
  operation : (head : Head N S) (regions : Tree N S Regions) (rest : Tree N S Operations) → Tree N S Operations
  block : (label : Label N S) (operations : Tree N S Operations) (rest : Tree N S Blocks) → Tree N S Blocks
  region : (blocks : Tree N S Blocks) (rest : Tree N S Regions) → Tree N S Regions

-- one operation with its regions
pub record Root (N : Names) (S : Contents) : Type 0 where
  pub head : Head N S
  pub regions : Tree N S Regions
