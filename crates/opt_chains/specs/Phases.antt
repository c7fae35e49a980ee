-- What joining chains of blocks makes of a program and of its trees.
use Rattle.ir_program.specs.Program.{Program}
use Rattle.ir_program.specs.declared.handles.Ptr.{Ptr}
use Rattle.ir_program.specs.declared.handles.Operation.{Operation}
use Rattle.ir_trees.specs.Stands.{by_handle, in_program, ProgramTree, StandsFor}
use Rattle.opt_trees.specs.Dialect.{Dialect}
use Rattle.opt_trees.specs.Simplify.{StartingRegions, IsJoined}
use Rattle.opt_inside.specs.Outside.{AddsNoneOutside, ChangesOperandsOutside}

-- the operation stands for its tree with each chain of blocks joined at its first; outside nothing changes but operands
pub record MergesBlocks {O B A : Type 0} (d : Dialect (in_program O B) A) (p : StartingRegions by_handle) (old new : Program O B) (op : Ptr Operation) (t : ProgramTree O B) : Type 0 where
  pub after : ProgramTree O B
  pub joined : IsJoined d p t after
  pub stands : StandsFor new op after
  pub outside : ChangesOperandsOutside old new op joined.names
  pub none_come : AddsNoneOutside old new op
