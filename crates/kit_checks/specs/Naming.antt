-- Which values an operation may name, said of the program, and the order of the operations inside a root.
use Rattle.std.specs.Prelude.{◌≡◌, ◌≢◌, ◌<◌, ◌⊎◌, ℕ, List, Some, slice_get, slice_index}
use Rattle.ir_program.specs.Lists.{StandsInBlock, StandsInRegion, StandsInside, blocks_in, operations_in}
use Rattle.ir_program.specs.Program.{Program}
use Rattle.ir_program.specs.declared.handles.DefiningEntity.{DefiningEntity}
use Rattle.ir_program.specs.declared.handles.DefiningEntity.TheVariants.{Op as ByOp, Block as ByBlock}
use Rattle.ir_program.specs.declared.handles.IRNode.{IRNode}
use Rattle.ir_program.specs.declared.handles.IRNode.TheVariants.{Operation as OperationNode, Region as RegionNode}
use Rattle.ir_program.specs.declared.handles.IRNode.TheVariants.{BasicBlock as BlockNode}
use Rattle.ir_program.specs.declared.handles.Ptr.{Ptr}
use Rattle.ir_program.specs.declared.handles.Operation.{Operation}
use Rattle.ir_program.specs.declared.handles.Region.{Region}
use Rattle.ir_program.specs.declared.handles.BasicBlock.{BasicBlock}
use Rattle.ir_program.specs.declared.handles.Value.{Value}
use Rattle.kit_checks.specs.declared.naming.Spot.{Spot}
use Rattle.kit_checks.specs.declared.rule.Rule.{Rule}
use Rattle.kit_checks.specs.declared.rule.Rule.TheVariants as rule
use Rattle.kit_checks.specs.declared.walk_order.WalkOrder.{WalkOrder}

-- the first comes before the second in the list
pub record IsEarlier {X : Type 0} (xs : List X) (x y : X) : Type 0 where
  pub first : ℕ
  pub second : ℕ
  pub here : slice_get xs first ≡ Some x
  pub there : slice_get xs second ≡ Some y
  pub before : first < second

-- the number of an operation, kept at its slot; 0 where it has none
abbrev pub number_in : WalkOrder → Ptr Operation → ℕ
number_in order op = slice_index order.numbers.items op.key.slot

-- the first operation has a number, which is less than the other's
abbrev pub IsNumberedBelow : WalkOrder → Ptr Operation → Ptr Operation → Type 0
IsNumberedBelow order p q = (0 < number_in order p) × (number_in order p < number_in order q)

-- each operation has the number that it had
abbrev pub KeepsNumbers : WalkOrder → WalkOrder → Type 0
KeepsNumbers old new = (p : Ptr Operation) → number_in new p ≡ number_in old p

-- the operation has this number now, and those at other slots have what they had
pub record GivesNumber (old new : WalkOrder) (op : Ptr Operation) (number : ℕ) : Type 0 where
  pub given : number_in new op ≡ number
  pub others : (p : Ptr Operation) → p.key.slot ≢ op.key.slot → number_in new p ≡ number_in old p

-- the entity has this number now, if it is an operation, and all others have what they had
abbrev pub NumbersEntity : WalkOrder → WalkOrder → IRNode → ℕ → Type 0
NumbersEntity old new (OperationNode op) number = GivesNumber old new op number
NumbersEntity old new (BlockNode b) number = KeepsNumbers old new
NumbersEntity old new (RegionNode r) number = KeepsNumbers old new

module _ {O B : Type 0} (c : Program O B) where
  -- the operation is in this block, of a region with this entry
  pub record IsSpotOfOperation (op : Ptr Operation) (spot : Spot) : Type 0 where
    pub region : Ptr Region
    pub in_block : StandsInBlock c op spot.block
    pub in_region : StandsInRegion c spot.block region
    pub entry : slice_get (blocks_in c region) 0 ≡ Some spot.entry

  -- the operation there may name the arguments of a block: of its own or of the entry; and the results of an operation:
  -- of one before it in its block or, outside the entry, of one of the entry
  abbrev pub MayNameFrom : Ptr Operation → Spot → DefiningEntity → Type 0
  MayNameFrom op spot (ByBlock block) = (block ≡ spot.block) ⊎ (block ≡ spot.entry)
  MayNameFrom op spot (ByOp definer) = IsEarlier (operations_in c spot.block) definer op
      ⊎ ((spot.block ≢ spot.entry) × StandsInBlock c definer spot.entry)

  abbrev pub MayName : Ptr Operation → Spot → Value → Type 0
  MayName op spot v = MayNameFrom op spot v.definer

  -- of the other operations of the block, the order has smaller numbers than this one's for those before it alone
  pub record OrdersBefore (block : Ptr BasicBlock) (op : Ptr Operation) (order : WalkOrder) : Type 0 where
    pub before : (p : Ptr Operation) → IsEarlier (operations_in c block) p op → IsNumberedBelow order p op
    pub behind : (p : Ptr Operation) → IsEarlier (operations_in c block) op p → IsNumberedBelow order p op → ⊥

  -- so in each block inside the root
  abbrev pub IsOrderAt : Ptr Operation → Ptr Operation → WalkOrder → Type 0
  IsOrderAt root op order =
      (block : Ptr BasicBlock) → StandsInside c (OperationNode root) (BlockNode block) → OrdersBefore block op order

  -- so for each operation
  abbrev pub AreInWalkOrder : Ptr Operation → WalkOrder → Type 0
  AreInWalkOrder root order = (op : Ptr Operation) → IsOrderAt root op order

  -- what the test of a rule has to know of the order: nothing but for operands
  abbrev pub IsOrderFor : Rule → Ptr Operation → WalkOrder → Type 0
  IsOrderFor rule.OperandsAreVisible root order = AreInWalkOrder root order
  IsOrderFor _ root order = Unit {0}
