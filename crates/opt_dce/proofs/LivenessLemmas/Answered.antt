-- The plan that is made by marks is a plan of what is dead.
use Rattle.std.proofs.Common.{None}
use Rattle.ir_program.specs.Program.{Program}
use Rattle.ir_program.specs.declared.handles.Ptr.{Ptr}
use Rattle.ir_program.specs.declared.handles.Operation.{Operation}
use Rattle.ir_trees.specs.Stands.{by_handle, in_program, ProgramTree, StandsFor}
use Rattle.opt_trees.specs.Dialect.{Dialect}
use Rattle.opt_trees.specs.Dce.{TreeSurroundings}
use Rattle.opt_rows.specs.declared.dead_problem.DeadProblem.{DeadProblem}
use Rattle.opt_rows.specs.declared.dead_problem.DeadItems.{DeadItems}
use Rattle.opt_inside.specs.Numbered.{Numbers}
use Rattle.opt_dce.specs.declared.liveness.plan.DeadPlan.{DeadPlan}
use Rattle.opt_dce.specs.liveness.Plans.{IsDeadPlan, SaysPins}
use Rattle.opt_dce.specs.liveness.Taken.{TakesMarked}
use Rattle.opt_dce.proofs.LivenessLemmas.Ground.{Ground, Occurs}
use Rattle.opt_dce.proofs.LivenessLemmas.InRange.{in_range}
use Rattle.opt_dce.proofs.LivenessLemmas.Decide.{truth, truth_yes, truth_of, told_pinned}
use Rattle.opt_dce.proofs.LivenessLemmas.Going.{Solved, gone, is_gone}
use Rattle.opt_dce.proofs.LivenessLemmas.Users.{uses_go}
use Rattle.opt_dce.proofs.LivenessLemmas.Planned.{is_plan}

module _ {O B A : Type 0} {d : Dialect (in_program O B) A} {c : Program O B} {op : Ptr Operation} {n : Numbers} {problem : DeadProblem} (g : Ground d c op n problem) (items : DeadItems) (solved : Solved problem items) (plan : DeadPlan) (takes : TakesMarked c n problem items plan) where
  -- the context: what is pinned, and nothing of constants
  around : TreeSurroundings by_handle A
  around = record { alone = λ v. None; is_pinned = λ v. truth (told_pinned c op n g.numbers v) }

  says_pins : SaysPins c op around
  unfolding around
  says_pins = record { pinned = λ v. (λ e. truth_yes (told_pinned c op n g.numbers v) e, λ w. truth_of (told_pinned c op n g.numbers v) w) }

  pub answered : (t : ProgramTree O B) → (StandsFor c op t → Occurs c op t) → IsDeadPlan d c op plan t
  answered t occurs = record {
    around = around;
    pins = says_pins;
    gone = gone g items;
    is_gone = λ stands. is_gone g items solved around says_pins t (occurs stands);
    is_gone_with = λ w pins stands. is_gone g items solved w pins t (occurs stands);
    plan_of = is_plan g items solved plan takes;
    uses = uses_go g items (in_range g) solved;
  }
