use Rattle.std.proofs.Common.{◌≡◌, ◌∙◌, true≢false, refl, sym, subst}
use Rattle.std.specs.Prelude.{Contains}
use Rattle.ir_program.specs.Lists.{operations_in}
use Rattle.ir_queries.proofs.Partway.{moved, ended}
use Rattle.ir_graph.specs.Regions.{IsTerminatorIfLeads, LeadsInside}
use Rattle.ir_graph.proofs.Walks.{each_more, next_in}
use Rattle.ir_graph.proofs.local_edges.is_left_inside.Goals as goal

pub loop-op-preserved : goal.loop-op-preserved
loop-op-preserved g c = record {
  listed = moved (λ ps. ps ≡ operations_in c.args.ctx.now.program c.args.block) c.loop-op.yielded _ _ c.in-Some.op c.in-Some.ensures.steps c.loop-op.invariant.listed;
  inside = each_more (λ p. IsTerminatorIfLeads g.D.DialectTables.op_has c.args.ctx.now.program c.args.block p × LeadsInside c.args.ctx.now.program c.args.region p) c.loop-op.yielded c.in-Some.op c.loop-op.invariant.inside
      (c.is_terminator_if_leads.ensures.0 c.if-not-is_terminator_if_leads.false, subst (λ q. LeadsInside q c.args.region c.in-Some.op) c.program-program.ensures (c.leads_inside.ensures.0 c.if-not-leads_inside.false));
}

pub returns-then-not-is_terminator_if_leads : goal.returns-then-not-is_terminator_if_leads
returns-then-not-is_terminator_if_leads g c = (
  λ h. absurd (true≢false (sym h)),
  λ h. let there = next_in (operations_in c.args.ctx.now.program c.args.block) c.loop-op.yielded _ _ c.in-Some.op c.in-Some.ensures.steps c.loop-op.invariant.listed in
      absurd (true≢false (sym (c.is_terminator_if_leads.ensures.1 (h c.in-Some.op there).0) ∙ c.if-not-is_terminator_if_leads.true)),
)

pub returns-then-not-leads_inside : goal.returns-then-not-leads_inside
returns-then-not-leads_inside g c = (
  λ h. absurd (true≢false (sym h)),
  λ h. let there = next_in (operations_in c.args.ctx.now.program c.args.block) c.loop-op.yielded _ _ c.in-Some.op c.in-Some.ensures.steps c.loop-op.invariant.listed in
      absurd (true≢false (sym (c.leads_inside.ensures.1 (subst (λ q. LeadsInside q c.args.region c.in-Some.op) (sym c.program-program.ensures) (h c.in-Some.op there).1)) ∙ c.if-not-leads_inside.true)),
)

pub returns : goal.returns
returns g c = (
  λ h p k. c.loop-op.invariant.inside p (subst (λ ps. Contains ps p) (sym (ended (λ ps. ps ≡ operations_in c.args.ctx.now.program c.args.block) c.loop-op.yielded _ c.in-None.ensures.steps.0 c.loop-op.invariant.listed)) k),
  λ h. refl,
)
