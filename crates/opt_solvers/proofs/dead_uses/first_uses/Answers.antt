use Rattle.std.proofs.Common.{◌++◌, map, ap, ◌∙◌}
use Rattle.std.proofs.lemmas.Result.{IfOk-weaker}
use Rattle.opt_solvers.specs.DeadUses.{held, held_operation, held_argument}
use Rattle.opt_solvers.proofs.DeadCounting.{held_once}
use Rattle.opt_solvers.proofs.dead_uses.first_uses.Goals as goal

pub returns : goal.returns
returns c =
    let p = c.args.problem.now in
    IfOk-weaker c.held_items.result _ _
    (λ uses e. e
    ∙ ap (λ ms. map held ms ++ map held_argument c.deref.result.now) c.may_go.ensures
    ∙ ap (λ ns. ns ++ map held_argument c.deref.result.now) (held_once p.operations)
    ∙ ap (λ vs. map held_operation p.operations ++ map held_argument vs) c.deref.ensures.value)
    c.held_items.ensures
