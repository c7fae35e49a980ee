-- The numbers of what is inside an operation.
use Rattle.std.specs.Prelude.{◌≡◌, ◌↔◌, ℕ, ◌+◌, List, [], ◌∷◌, ◌++◌, map, Some, slice_get}
use Rattle.ir_program.specs.Program.{Program, TypedValue, results_at, arguments_at}
use Rattle.ir_program.specs.declared.handles.IRNode.{IRNode}
use Rattle.ir_program.specs.declared.handles.IRNode.TheVariants.{Operation as OperationNode, Region as RegionNode, BasicBlock as BlockNode}
use Rattle.ir_program.specs.declared.handles.DefiningEntity.{DefiningEntity}
use Rattle.ir_program.specs.declared.handles.DefiningEntity.TheVariants.{Op as ByOp, Block as ByBlock}
use Rattle.ir_program.specs.declared.handles.Ptr.{Ptr}
use Rattle.ir_program.specs.declared.handles.Operation.{Operation}
use Rattle.ir_program.specs.declared.handles.BasicBlock.{BasicBlock}
use Rattle.ir_program.specs.declared.handles.Value.{Value}
use Rattle.ir_trees.specs.Searched.{Lists, AreDistinct}
use Rattle.ir_trees.specs.Stands.{ProgramTree, StandsFor}
use Rattle.opt_trees.specs.Occurrences.{occurrences_of, block_occurrences_of, defined_in}
use Rattle.opt_inside.specs.Occurring.{Found, FoundBlock, IsBelowRoot, IsBlockBelow, IsDefinedBelow}
use Rattle.opt_inside.specs.declared.numbering.Entities.{Entities}
use Rattle.opt_inside.specs.declared.numbering.Inside.{Inside}

-- operations, blocks and values, each numbered by its index
pub record Numbers : Type 0 where
  pub operations : List (Ptr Operation)
  pub blocks : List (Ptr BasicBlock)
  pub values : List Value

abbrev pub numbers_of : Inside → Numbers
numbers_of n = record { operations = n.operations.keys; blocks = n.blocks.keys; values = n.values.keys }

abbrev pub listed_in : Entities → Numbers
listed_in e = record { operations = e.operations.items; blocks = e.blocks.items; values = e.values.items }

-- the values of results or arguments
abbrev pub values_in : List TypedValue → List Value
values_in ts = map (λ (t : TypedValue). t.value) ts

-- the values of the second list stand in the first one after the other, in their order
abbrev pub StandInOrder : List Value → List Value → Type 0
StandInOrder all vs = (j : ℕ) × ((i : ℕ) (v : Value) → slice_get vs i ≡ Some v → slice_get all (j + i) ≡ Some v)

-- the operation or the block has a number
abbrev pub DefinerHasNumber : Numbers → DefiningEntity → Type 0
DefinerHasNumber n (ByOp p) = Lists n.operations p
DefinerHasNumber n (ByBlock b) = Lists n.blocks b

-- the order is that in which operations and blocks are found in the tree, and values are defined there
pub record AreInPreorder {O B : Type 0} (t : ProgramTree O B) (n : Numbers) : Type 0 where
  pub operations : n.operations ≡ map (λ (o : Found O B). o.head.name) (occurrences_of t)
  pub blocks : n.blocks ≡ map (λ (x : FoundBlock O B). x.label.name) (block_occurrences_of t)
  pub values : n.values ≡ defined_in t.regions

-- these are all operations, blocks and values below the root, each once and in preorder; the results of an operation have
-- numbers in a row, and so the arguments of a block; and what defines a value with a number has one
pub record NumbersInside {O B : Type 0} (c : Program O B) (op : Ptr Operation) (n : Numbers) : Type 0 where
  pub operations : (p : Ptr Operation) → Lists n.operations p ↔ IsBelowRoot c op p
  pub blocks : (b : Ptr BasicBlock) → Lists n.blocks b ↔ IsBlockBelow c op b
  pub values : (v : Value) → Lists n.values v ↔ IsDefinedBelow c op v
  pub operations_once : AreDistinct n.operations
  pub blocks_once : AreDistinct n.blocks
  pub values_once : AreDistinct n.values
  pub in_preorder : (t : ProgramTree O B) → StandsFor c op t → AreInPreorder t n
  pub results_in_order : (p : Ptr Operation) → IsBelowRoot c op p → StandInOrder n.values (values_in (results_at c p))
  pub arguments_in_order : (b : Ptr BasicBlock) → IsBlockBelow c op b → StandInOrder n.values (values_in (arguments_at c b))
  pub definers : (v : Value) → Lists n.values v → DefinerHasNumber n v.definer

-- what numbering one entity more makes of the numbers
module _ {O B : Type 0} (c : Program O B) where
  abbrev pub with_node : Numbers → IRNode → Numbers
  with_node n (OperationNode p) = record { operations = n.operations ++ p ∷ []; blocks = n.blocks; values = n.values ++ values_in (results_at c p) }
  with_node n (BlockNode b) = record { operations = n.operations; blocks = n.blocks ++ b ∷ []; values = n.values ++ values_in (arguments_at c b) }
  with_node n (RegionNode r) = n
