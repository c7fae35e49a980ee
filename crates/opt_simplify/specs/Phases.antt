-- What removing unreached blocks makes of a program and of its trees.
use Rattle.std.specs.Prelude.{◌≡◌, true}
use Rattle.ir_program.specs.Erased.{IsGone as IsErased}
use Rattle.ir_program.specs.Lists.{StandsInside, IsLiveNode}
use Rattle.ir_program.specs.Program.{Program}
use Rattle.ir_program.specs.declared.handles.IRNode.{IRNode}
use Rattle.ir_program.specs.declared.handles.IRNode.TheVariants.{Operation as OperationNode, BasicBlock as BlockNode}
use Rattle.ir_program.specs.declared.handles.Ptr.{Ptr}
use Rattle.ir_program.specs.declared.handles.Operation.{Operation}
use Rattle.ir_program.specs.declared.handles.BasicBlock.{BasicBlock}
use Rattle.ir_trees.specs.Stands.{by_handle, in_program, ProgramTree, StandsFor}
use Rattle.opt_trees.specs.Dialect.{Dialect}
use Rattle.opt_trees.specs.Simplify.{StartingRegions, IsCut}
use Rattle.opt_inside.specs.Edges.{HasLocalEdgesBelow, FitsEdgesBelow}
use Rattle.opt_inside.specs.Outside.{AddsNoneOutside, KeepsOutside}
use Rattle.opt_inside.specs.reach.Edges.{HasLocalEdgesFrom, FitsEdgesFrom}
use Rattle.opt_inside.specs.declared.reach.starts.Start.{Start}

-- the blocks of visited regions that nothing reaches are gone, with all that is in them; nothing has come inside
pub record RemovesBlocks {O B A : Type 0} (d : Dialect (in_program O B) A) (p : StartingRegions by_handle) (old new : Program O B)
    (op : Ptr Operation) (t : ProgramTree O B) : Type 0 where
  pub after : ProgramTree O B
  pub cut : IsCut d p t after
  pub stands : StandsFor new op after
  pub erased : (b : Ptr BasicBlock) (e : IRNode) → cut.gone b ≡ true → IsLiveNode old e → StandsInside old (BlockNode b) e
      → IsErased new e
  pub outside : KeepsOutside old new op
  pub inside : (e : IRNode) → StandsInside new (OperationNode op) e → StandsInside old (OperationNode op) e
  pub none_come : AddsNoneOutside old new op

-- edges still stay in their region under the place and, if they did, below the operation; and branches still forward as
-- many operands as are taken, if they did
pub record KeepsEdges {O B A : Type 0} (d : Dialect (in_program O B) A) (old new : Program O B) (op : Ptr Operation)
    (start : Start) : Type 0 where
  pub local_under : HasLocalEdgesFrom d.is_terminator new start
  pub local_below : HasLocalEdgesBelow d.is_terminator old op → HasLocalEdgesBelow d.is_terminator new op
  pub fits_under : FitsEdgesFrom d old start → FitsEdgesFrom d new start
  pub fits_below : FitsEdgesBelow d old op → FitsEdgesBelow d new op
