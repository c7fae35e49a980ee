-- Laws of two walks.
use Rattle.std.specs.Prelude.{◌≡◌, List, reverse}
use Rattle.ir_program.specs.Program.{Program}
use Rattle.ir_program.specs.declared.handles.IRNode.{IRNode}
use Rattle.ir_walks.specs.declared.config.Direction.TheVariants.{Forward, Reverse}
use Rattle.ir_walks.specs.declared.config.Order.TheVariants.{PreOrder, PostOrder}
use Rattle.ir_walks.specs.Levels.{preset}
use Rattle.ir_walks.specs.Places.{IsWalkOf}
use Rattle.ir_walks.specs.Walks.{Call, called_nodes, NeverSkips}

module _ {O B : Type 0} (c : Program O B) where
  -- a walk of x by WALKCONFIG_PREORDER_FORWARD that skips nothing calls the nodes that a walk by WALKCONFIG_POSTORDER_REVERSE calls, and
  -- in the reverse order
  abbrev pub IsReversedByPostOrder : IRNode → Type 0
  IsReversedByPostOrder x = (forward backward : List Call) → IsWalkOf c (preset PreOrder Forward) x forward → NeverSkips forward → IsWalkOf c (preset PostOrder Reverse) x backward → called_nodes backward ≡ reverse (called_nodes forward)
