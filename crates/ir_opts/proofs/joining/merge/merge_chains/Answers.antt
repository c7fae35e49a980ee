use Rattle.std.proofs.Common.{List, refl, sym, subst}
use Rattle.opt_chains.specs.Chained.{IsJoiningPlan}
use Rattle.opt_chains.specs.declared.merge_values.StandIn.{StandIn}
use Rattle.opt_chains.specs.declared.merging.Join.{Join}
use Rattle.opt_inside.specs.reach.Edges.{FitsEdgesFrom}
use Rattle.ir_opts.proofs.JoiningLemmas.NoneJoined.{none_merged, none_circles}
use Rattle.ir_opts.proofs.JoiningLemmas.PlanFound.{none_found, plan_found}
use Rattle.ir_opts.proofs.joining.merge.merge_chains.Goals as goal

pub returns-in_default-clause-merged : goal.returns-in_default-clause-merged
returns-in_default-clause-merged g c =
    let none = none_found g.D.Meanings.meaning c.program.result.now c.args.ctx.now.program c.program.ensures
    c.args.op c.args.start c.in_ok-plan.field-0 c.in_ok-plan.ensures.found c.in_default.is in
    none_merged g.D.Meanings.meaning c.args.ctx.now.program c.args.op c.args.start none

pub returns-in_default-clause-accepted : goal.returns-in_default-clause-accepted
returns-in_default-clause-accepted g c =
    let none = none_found g.D.Meanings.meaning c.program.result.now c.args.ctx.now.program c.program.ensures
    c.args.op c.args.start c.in_ok-plan.field-0 c.in_ok-plan.ensures.found c.in_default.is in
    none_circles g.D.Meanings.meaning c.args.ctx.now.program c.args.op c.args.start none

pub returns-in_default-clause-unchanged : goal.returns-in_default-clause-unchanged
returns-in_default-clause-unchanged g c =
    let none = none_found g.D.Meanings.meaning c.program.result.now c.args.ctx.now.program c.program.ensures
    c.args.op c.args.start c.in_ok-plan.field-0 c.in_ok-plan.ensures.found c.in_default.is in
    (λ h. none, λ h. refl)

pub find_plan-requires-clause-fits : goal.find_plan-requires-clause-fits
find_plan-requires-clause-fits g c = subst (λ z. FitsEdgesFrom g.D.Meanings.meaning z c.args.start) (sym c.program.ensures) c.requires.fits

pub apply_plan-requires-clause-plan : goal.apply_plan-requires-clause-plan
apply_plan-requires-clause-plan g c p is t stands =
    let d = g.D.Meanings.meaning in
    let program = c.args.ctx.now.program in
    let found = plan_found g.D.Meanings.meaning c.program.result.now c.args.ctx.now.program c.program.ensures
    c.args.op c.args.start c.in_ok-plan.field-0 c.in_ok-plan.ensures.found c.in-Some.plan c.in-Some.is in
    subst (λ (ss : List StandIn). IsJoiningPlan d p program t c.as_slice-2.result.now ss) (sym c.as_slice.ensures.value)
    (subst (λ (js : List Join). IsJoiningPlan d p program t js c.in-Some.plan.stand_ins.items) (sym c.as_slice-2.ensures.value)
    (found.plan p is t stands))

pub returns-clause-accepted : goal.returns-clause-accepted
returns-clause-accepted g c p is t stands =
    let found = plan_found g.D.Meanings.meaning c.program.result.now c.args.ctx.now.program c.program.ensures
    c.args.op c.args.start c.in_ok-plan.field-0 c.in_ok-plan.ensures.found c.in-Some.plan c.in-Some.is in
    (found.plan p is t stands).ends

pub returns-clause-unchanged : goal.returns-clause-unchanged
returns-clause-unchanged g c =
    let found = plan_found g.D.Meanings.meaning c.program.result.now c.args.ctx.now.program c.program.ensures
    c.args.op c.args.start c.in_ok-plan.field-0 c.in_ok-plan.ensures.found c.in-Some.plan c.in-Some.is in
    (λ h. cc, λ none. absurd (found.some none))
