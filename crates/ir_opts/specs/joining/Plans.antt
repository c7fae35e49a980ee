-- What is found out of a program before chains of its blocks are joined.
use Rattle.std.specs.Prelude.{List, Option, MatchOption}
use Rattle.ir_program.specs.Program.{Program}
use Rattle.ir_program.specs.declared.handles.Ptr.{Ptr}
use Rattle.ir_program.specs.declared.handles.Operation.{Operation}
use Rattle.ir_trees.specs.Stands.{by_handle, in_program, ProgramTree, StandsFor}
use Rattle.opt_trees.specs.Dialect.{Dialect}
use Rattle.opt_trees.specs.Simplify.{StartingRegions}
use Rattle.opt_chains.specs.Chained.{AreChains, StartsSomewhere, IsJoiningPlan}
use Rattle.opt_chains.specs.declared.merge_values.StandIn.{StandIn}
use Rattle.opt_chains.specs.declared.merging.Join.{Join}
use Rattle.opt_inside.specs.reach.Starts.{IsStartIn}
use Rattle.opt_inside.specs.declared.reach.starts.Start.{Start}
use Rattle.ir_opts.specs.joining.Answers.{HasNoneJoinable}
use Rattle.ir_opts.specs.declared.joining.plan.MergePlan.{MergePlan}

module _ {O B A : Type 0} (d : Dialect (in_program O B) A) (c : Program O B) (op : Ptr Operation) (start : Start) where
  -- the steps join each chain of the operation's tree at its first block
  abbrev pub JoinAll : List Join → Type 0
  JoinAll js = (p : StartingRegions by_handle) → IsStartIn c start p → (t : ProgramTree O B) → StandsFor c op t
      → AreChains d p c t js

  -- looking begins somewhere, there are blocks to be joined, and the steps and the values in place of arguments are a plan
  pub record IsPlanFound (js : List Join) (ss : List StandIn) : Type 0 where
    pub begins : StartsSomewhere c start
    pub some : HasNoneJoinable d c op start → ⊥
    pub plan : (p : StartingRegions by_handle) → IsStartIn c start p → (t : ProgramTree O B) → StandsFor c op t
        → IsJoiningPlan d p c t js ss

  -- a plan, or none where no two blocks can be joined
  abbrev pub FindsPlan : Option MergePlan → Type 0
  FindsPlan found = MatchOption found (HasNoneJoinable d c op start)
      (λ (plan : MergePlan). IsPlanFound plan.joins.items plan.stand_ins.items)
