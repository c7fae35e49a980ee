-- What was found out of a program that is another's value.
use Rattle.std.proofs.Common.{◌≡◌, Option, Some, None, subst}
use Rattle.ir_program.specs.Program.{Program}
use Rattle.ir_program.specs.declared.handles.Ptr.{Ptr}
use Rattle.ir_program.specs.declared.handles.Operation.{Operation}
use Rattle.ir_trees.specs.Stands.{in_program}
use Rattle.opt_trees.specs.Dialect.{Dialect}
use Rattle.opt_inside.specs.declared.reach.starts.Start.{Start}
use Rattle.ir_opts.specs.joining.Answers.{HasNoneJoinable}
use Rattle.ir_opts.specs.joining.Plans.{IsPlanFound, FindsPlan}
use Rattle.ir_opts.specs.declared.joining.plan.MergePlan.{MergePlan}

module _ {O B A : Type 0} (d : Dialect (in_program O B) A) (asked c : Program O B) (same : asked ≡ c)
    (op : Ptr Operation) (start : Start) (found : Option MergePlan) (finds : FindsPlan d asked op start found) where
  -- nothing was found
  pub none_found : found ≡ None → HasNoneJoinable d c op start
  none_found e = subst (λ z. HasNoneJoinable d z op start) same (subst (FindsPlan d asked op start) e finds)

  -- this plan was
  pub plan_found : (plan : MergePlan) → found ≡ Some plan → IsPlanFound d c op start plan.joins.items plan.stand_ins.items
  plan_found plan e = subst (λ z. IsPlanFound d z op start plan.joins.items plan.stand_ins.items) same
      (subst (FindsPlan d asked op start) e finds)
