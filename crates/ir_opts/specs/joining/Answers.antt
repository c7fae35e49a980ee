-- Where joining chains of blocks does nothing, and where it is refused.
use Rattle.ir_program.specs.Program.{Program}
use Rattle.ir_program.specs.declared.handles.Ptr.{Ptr}
use Rattle.ir_program.specs.declared.handles.Operation.{Operation}
use Rattle.ir_program.specs.declared.handles.BasicBlock.{BasicBlock}
use Rattle.ir_trees.specs.Stands.{by_handle, in_program, ProgramTree, StandsFor}
use Rattle.opt_trees.specs.Dialect.{Dialect}
use Rattle.opt_trees.specs.Simplify.{StartingRegions, Joinable, ComesBack}
use Rattle.opt_inside.specs.reach.Starts.{IsStartIn}
use Rattle.opt_inside.specs.declared.reach.starts.Start.{Start}

module _ {O B A : Type 0} (d : Dialect (in_program O B) A) (c : Program O B) (op : Ptr Operation) (start : Start) where
  -- no two blocks of the operation's tree can be joined
  abbrev pub HasNoneJoinable : Type 0
  HasNoneJoinable = (p : StartingRegions by_handle) → IsStartIn c start p → (t : ProgramTree O B) → StandsFor c op t
      → (a b : Ptr BasicBlock) → Joinable d p t a b → ⊥

  -- following what is forwarded to the arguments of blocks that can be joined comes back to where it began
  abbrev pub HasCircle : Type 0
  HasCircle = (p : StartingRegions by_handle) → IsStartIn c start p → (t : ProgramTree O B) → StandsFor c op t → ComesBack d p t

  -- it doesn't
  abbrev pub HasNoCircle : Type 0
  HasNoCircle = (p : StartingRegions by_handle) → IsStartIn c start p → (t : ProgramTree O B) → StandsFor c op t
      → ComesBack d p t → ⊥
