-- What a configuration says of a node, and what stands in a node in the direction of its level.
use Rattle.std.specs.Prelude.{◌≡◌, List, reverse}
use Rattle.ir_program.specs.Preorder.{nodes_in}
use Rattle.ir_program.specs.Program.{Program}
use Rattle.ir_program.specs.declared.handles.IRNode.{IRNode}
use Rattle.ir_program.specs.declared.handles.IRNode.TheVariants.{Operation as OperationNode, Region as RegionNode, BasicBlock as BlockNode}
use Rattle.ir_walks.specs.declared.config.Direction.{Direction}
use Rattle.ir_walks.specs.declared.config.Direction.TheVariants.{Forward, Reverse}
use Rattle.ir_walks.specs.declared.config.Level.{Level}
use Rattle.ir_walks.specs.declared.config.Order.{Order}
use Rattle.ir_walks.specs.declared.config.Order.TheVariants.{PreOrder, PostOrder}
use Rattle.ir_walks.specs.declared.config.WalkConfig.{WalkConfig}

-- one order and one direction at every level
abbrev pub preset : Order → Direction → WalkConfig
preset order direction =
    let level : Level = record { order = order; direction = direction } in
    record { operation = level; region = level; block = level }

-- the level of a node: that of operations, of regions or of blocks
abbrev pub level_of : WalkConfig → IRNode → Level
level_of config (OperationNode p) = config.operation
level_of config (RegionNode r) = config.region
level_of config (BlockNode b) = config.block

-- the node is called before what stands in it
abbrev pub IsCalledFirst : WalkConfig → IRNode → Type 0
IsCalledFirst config e = (level_of config e).order ≡ PreOrder

-- the node is called after what stands in it
abbrev pub IsCalledLast : WalkConfig → IRNode → Type 0
IsCalledLast config e = (level_of config e).order ≡ PostOrder

-- a list from first to last, or from last to first
abbrev pub directed : {X : Type 0} → Direction → List X → List X
directed Forward xs = xs
directed Reverse xs = reverse xs

-- what stands in a node, in the direction of the node's level
abbrev pub members : {O B : Type 0} → Program O B → WalkConfig → IRNode → List IRNode
members c config e = directed (level_of config e).direction (nodes_in c e)
