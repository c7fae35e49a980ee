use Rattle.std.proofs.Common.{◌≡◌, subst}
use Rattle.opt_inside.specs.Numbered.{numbers_of}
use Rattle.opt_dce.specs.liveness.Problems.{IsNumberOfHolder}
use Rattle.opt_dce.proofs.liveness.definers.around_operation.Goals as goal

pub returns-in_default : goal.returns-in_default
returns-in_default g c b s = absurd (c.in_default.ensures.parent b s)

pub returns : goal.returns
returns g c b s =
    let same : c.in-Some.block ≡ b = (let w = c.in-Some.ensures.only b s in cc w) in
    subst (λ z. IsNumberOfHolder c.args.program.now (numbers_of c.args.inside.now) z c.around_block.result) same c.around_block.ensures
