use Rattle.std.proofs.Common.{◌≡◌, true, false, sym, ◌∙◌, subst}
use Rattle.ir_trees.specs.Stands.{ProgramTree}
use Rattle.opt_dce.specs.liveness.Plans.{IsDeadPlan}
use Rattle.opt_dce.proofs.Outcomes.{KnowsGone, some_gone, nothing_made, something_kept, something_made}
use Rattle.opt_dce.proofs.pass.dce.Goals as goal

pub returns-then-takes_nothing-clause-made : goal.returns-then-takes_nothing-clause-made
returns-then-takes_nothing-clause-made g c t stands =
    let d = g.D.Meanings.meaning in
    let then_known : KnowsGone d c.program-2.result.now c.args.op = assumption c.know_gone.ensures in
    let knows : KnowsGone d c.args.ctx.now.program c.args.op = subst (λ p. KnowsGone d p c.args.op) c.program-2.ensures then_known in
    let dead = subst (λ p. (u : ProgramTree g.row.D-Operation.Denot g.row.D-Block.Denot) → IsDeadPlan d p c.args.op c.in_ok-plan.plan u) c.program.ensures c.in_ok-plan.ensures in
    nothing_made d c.args.ctx.now.program c.args.op c.in_ok-plan.plan knows dead t stands (c.takes_nothing.ensures.0 c.if-takes_nothing.true)

pub take_out-requires : goal.take_out-requires
take_out-requires g c =
    let d = g.D.Meanings.meaning in
    let then_known : KnowsGone d c.program-2.result.now c.args.op = assumption c.know_gone.ensures in
    let knows : KnowsGone d c.args.ctx.now.program c.args.op = subst (λ p. KnowsGone d p c.args.op) c.program-2.ensures then_known in
    let dead = subst (λ p. (u : ProgramTree g.row.D-Operation.Denot g.row.D-Block.Denot) → IsDeadPlan d p c.args.op c.in_ok-plan.plan u) c.program.ensures c.in_ok-plan.ensures in
    some_gone d c.args.ctx.now.program c.args.op c.in_ok-plan.plan knows dead

pub returns-clause-made : goal.returns-clause-made
returns-clause-made g c t stands =
    let d = g.D.Meanings.meaning in
    let then_known : KnowsGone d c.program-2.result.now c.args.op = assumption c.know_gone.ensures in
    let knows : KnowsGone d c.args.ctx.now.program c.args.op = subst (λ p. KnowsGone d p c.args.op) c.program-2.ensures then_known in
    let dead = subst (λ p. (u : ProgramTree g.row.D-Operation.Denot g.row.D-Block.Denot) → IsDeadPlan d p c.args.op c.in_ok-plan.plan u) c.program.ensures c.in_ok-plan.ensures in
    something_made d c.args.ctx.now.program c.args.op c.in_ok-plan.plan knows dead t stands c.take_out.new.ctx.program
    (λ idle. let f : true ≡ false = sym (c.takes_nothing.ensures.1 idle) ∙ c.if-takes_nothing.false in cc)
    c.take_out.ensures.taken

pub returns-clause-handles : goal.returns-clause-handles
returns-clause-handles g c =
    let d = g.D.Meanings.meaning in
    let then_known : KnowsGone d c.program-2.result.now c.args.op = assumption c.know_gone.ensures in
    let knows : KnowsGone d c.args.ctx.now.program c.args.op = subst (λ p. KnowsGone d p c.args.op) c.program-2.ensures then_known in
    let dead = subst (λ p. (u : ProgramTree g.row.D-Operation.Denot g.row.D-Block.Denot) → IsDeadPlan d p c.args.op c.in_ok-plan.plan u) c.program.ensures c.in_ok-plan.ensures in
    something_kept d c.args.ctx.now.program c.args.op c.in_ok-plan.plan knows dead knows.tree.0 knows.tree.1 c.take_out.new.ctx.program c.take_out.ensures.taken
