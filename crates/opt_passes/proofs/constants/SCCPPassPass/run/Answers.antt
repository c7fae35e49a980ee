use Rattle.std.proofs.Common.{rules, ◌≡◌, sym, subst}
use Rattle.std.specs.Prelude.{Err}
use Rattle.opt_passes.specs.Outcomes.{PutsConstantsIn}
use Rattle.opt_passes.specs.Tested.{made}
use Rattle.opt_passes.proofs.constants.SCCPPassPass.run.Goals as goal
use Rattle.opt_passes.proofs.Outcomes.{failed}

pub returns-in_err-test_condition : goal.returns-in_err-test_condition
returns-in_err-test_condition g c =
    let error : c.from_residual.result ≡ Err c.in_err-test_condition.field-0.0 = search rules in
    rw error (failed c.in_err-test_condition.ensures.refused)

pub returns : goal.returns
returns g c = made c.in_ok-test_condition.ensures.accepted c.in_ok-test_condition.ensures.edges
    (subst (λ z. PutsConstantsIn g.D.Meanings.meaning c.args.ctx.now c.args.op z c.put_constants_in.new.ctx)
    (sym c.answer.ensures.status) c.put_constants_in.ensures.made)
    c.put_constants_in.ensures.rest c.answer.ensures.listed
