-- What dead code elimination makes of a program and of its trees.
use Rattle.std.specs.Prelude.{◌≡◌, ◌↔◌, true}
use Rattle.ir_program.specs.Program.{Program}
use Rattle.ir_program.specs.Erased.{IsGone as IsErased}
use Rattle.ir_program.specs.Lists.{IsLiveNode}
use Rattle.ir_program.specs.declared.handles.IRNode.{IRNode}
use Rattle.ir_program.specs.declared.handles.Ptr.{Ptr}
use Rattle.ir_program.specs.declared.handles.Operation.{Operation}
use Rattle.ir_trees.specs.Searched.{Lists}
use Rattle.ir_trees.specs.Stands.{by_handle, in_program, ProgramTree, StandsFor}
use Rattle.opt_trees.specs.Dialect.{Dialect}
use Rattle.opt_trees.specs.Dce.{TreeSurroundings, Gone, IsDce, thin}
use Rattle.opt_dialect.specs.declared.status.IRStatus.{IRStatus}
use Rattle.opt_dialect.specs.declared.status.IRStatus.TheVariants.{Unchanged}
use Rattle.opt_dce.specs.declared.liveness.plan.DeadPlan.{DeadPlan}
use Rattle.opt_dce.specs.declared.liveness.plan.DeadArguments.{DeadArguments}
use Rattle.opt_handles.specs.Handles.{KeepsHandles}
use Rattle.opt_inside.specs.Outside.{AddsNoneOutside, KeepsOutside}
use Rattle.opt_dce.specs.liveness.Plans.{SaysPins, GoesWith}

-- what goes, and all that is in it, is erased; the root stands for its tree without it; nothing changes outside the
-- root; and handles are kept
pub record TakesOut {O B A : Type 0} (d : Dialect (in_program O B) A) (old new : Program O B) (op : Ptr Operation)
    (g : Gone by_handle) (t : ProgramTree O B) : Type 0 where
  pub stands : StandsFor new op (record { head = t.head; regions = thin d g t.regions })
  pub erased : (e : IRNode) → IsLiveNode old e → GoesWith old g e → IsErased new e
  pub outside : KeepsOutside old new op
  pub none_come : AddsNoneOutside old new op
  pub handles : KeepsHandles old new op

-- the operation stands for its tree without what is dead
pub record MakesDce {O B A : Type 0} (d : Dialect (in_program O B) A) (old new : Program O B) (op : Ptr Operation)
    (t : ProgramTree O B) : Type 0 where
  pub around : TreeSurroundings by_handle A
  pub pins : SaysPins old op around
  pub after : ProgramTree O B
  pub dce : IsDce d around t after
  pub stands : StandsFor new op after
  pub outside : KeepsOutside old new op
  pub none_come : AddsNoneOutside old new op

-- the tree without what goes
abbrev pub thinned_root : {O B A : Type 0} → Dialect (in_program O B) A → Gone by_handle →
    ProgramTree O B → ProgramTree O B
thinned_root d g t = record { head = t.head; regions = thin d g t.regions }

-- the plan lists no operation and marks no argument
pub record IsIdle (plan : DeadPlan) : Type 0 where
  pub operations : (p : Ptr Operation) → Lists plan.operations.items p → ⊥
  pub arguments : (a : DeadArguments) → Lists plan.arguments.items a → Lists a.marks.items true → ⊥

-- the operation stands for its tree without what is dead, and `Unchanged` is answered where that is the tree itself
pub record IsOutcome {O B A : Type 0} (d : Dialect (in_program O B) A) (old new : Program O B) (op : Ptr Operation)
    (t : ProgramTree O B) (status : IRStatus) : Type 0 where
  pub made : MakesDce d old new op t
  pub exact : (status ≡ Unchanged) ↔ (made.after ≡ t)
