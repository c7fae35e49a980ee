use Rattle.std.proofs.Common.{rules, ◌≡◌, sym, subst}
use Rattle.std.specs.Prelude.{Err}
use Rattle.opt_passes.specs.Outcomes.{TakesOutDead}
use Rattle.opt_passes.specs.Tested.{made}
use Rattle.opt_passes.proofs.dead_code.DCEPassPass.run.Goals as goal
use Rattle.opt_passes.proofs.Outcomes.{failed}

pub returns-in_err-test_condition : goal.returns-in_err-test_condition
returns-in_err-test_condition g c =
    let error : c.from_residual.result ≡ Err c.in_err-test_condition.field-0.0 = search rules in
    rw error (failed c.in_err-test_condition.ensures.refused)

pub returns : goal.returns
returns g c = made c.in_ok-test_condition.ensures.accepted c.in_ok-test_condition.ensures.edges
    (subst (λ z. TakesOutDead g.D.Meanings.meaning c.args.ctx.now c.args.op z c.take_out_dead.new.ctx)
    (sym c.answer.ensures.status) c.take_out_dead.ensures.made)
    c.take_out_dead.ensures.rest c.answer.ensures.listed
