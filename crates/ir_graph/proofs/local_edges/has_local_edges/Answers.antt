use Rattle.std.proofs.Common.{◌≡◌, ◌∙◌, true≢false, refl, sym, subst}
use Rattle.std.specs.Prelude.{Contains}
use Rattle.ir_program.specs.Lists.{operations_in, blocks_in, StandOnce}
use Rattle.ir_program.specs.Order.{edges_listed}
use Rattle.ir_program.specs.Uses.{AreBlockUses}
use Rattle.ir_queries.proofs.Partway.{moved, ended}
use Rattle.ir_graph.specs.Regions.{IsEnteredInside, IsLeftInside}
use Rattle.ir_graph.proofs.LocalEdges.{local_from, left_of}
use Rattle.ir_graph.proofs.Walks.{each_more, next_in}
use Rattle.ir_graph.proofs.local_edges.has_local_edges.Goals as goal

pub loop-block-preserved : goal.loop-block-preserved
loop-block-preserved g c = record {
  listed = moved (λ bs. bs ≡ blocks_in c.args.ctx.now.program c.args.region) c.loop-block.yielded _ _ c.in-Some.block c.in-Some.ensures.steps c.loop-block.invariant.listed;
  left = each_more (IsLeftInside g.D.DialectTables.op_has c.args.ctx.now.program c.args.region) c.loop-block.yielded c.in-Some.block c.loop-block.invariant.left (c.is_left_inside.ensures.0 c.if-not-is_left_inside.false);
  entered = each_more (IsEnteredInside c.args.ctx.now.program c.args.region) c.loop-block.yielded c.in-Some.block c.loop-block.invariant.entered (subst (λ q. IsEnteredInside q c.args.region c.in-Some.block) c.program-program.ensures (c.is_entered_inside.ensures.entered.0 c.if-not-is_entered_inside.false));
  uses = each_more (λ b. AreBlockUses c.args.ctx.now.program b (edges_listed c.args.ctx.now.program b)) c.loop-block.yielded c.in-Some.block c.loop-block.invariant.uses (subst (λ q. AreBlockUses q c.in-Some.block (edges_listed q c.in-Some.block)) c.program-program.ensures c.is_entered_inside.ensures.listed);
}

pub returns-then-not-is_left_inside-clause-exact : goal.returns-then-not-is_left_inside-clause-exact
returns-then-not-is_left_inside-clause-exact g c = (
  λ h. absurd (true≢false (sym h)),
  λ h. let there = next_in (blocks_in c.args.ctx.now.program c.args.region) c.loop-block.yielded _ _ c.in-Some.block c.in-Some.ensures.steps c.loop-block.invariant.listed in
      absurd (true≢false (sym (c.is_left_inside.ensures.1 (left_of g.D.DialectTables.op_has c.args.ctx.now.program c.args.region h c.in-Some.block there)) ∙ c.if-not-is_left_inside.true)),
)

pub returns-then-not-is_entered_inside-clause-exact : goal.returns-then-not-is_entered_inside-clause-exact
returns-then-not-is_entered_inside-clause-exact g c = (
  λ h. absurd (true≢false (sym h)),
  λ h. let there = next_in (blocks_in c.args.ctx.now.program c.args.region) c.loop-block.yielded _ _ c.in-Some.block c.in-Some.ensures.steps c.loop-block.invariant.listed in
      absurd (true≢false (sym (c.is_entered_inside.ensures.entered.1 (subst (λ q. IsEnteredInside q c.args.region c.in-Some.block) (sym c.program-program.ensures) (h.entering c.in-Some.block there))) ∙ c.if-not-is_entered_inside.true)),
)

pub returns-clause-exact : goal.returns-clause-exact
returns-clause-exact g c =
    let all = sym (ended (λ bs. bs ≡ blocks_in c.args.ctx.now.program c.args.region) c.loop-block.yielded _ c.in-None.ensures.steps.0 c.loop-block.invariant.listed) in (
      λ h. local_from g.D.DialectTables.op_has c.args.ctx.now.program c.args.region
          (λ b k. c.loop-block.invariant.left b (subst (λ bs. Contains bs b) all k))
          (λ b k. c.loop-block.invariant.entered b (subst (λ bs. Contains bs b) all k)),
      λ h. refl,
    )

pub returns-clause-graph : goal.returns-clause-graph
returns-clause-graph g c h =
    let all = sym (ended (λ bs. bs ≡ blocks_in c.args.ctx.now.program c.args.region) c.loop-block.yielded _ c.in-None.ensures.steps.0 c.loop-block.invariant.listed) in
    record {
      live = c.requires;
      local = local_from g.D.DialectTables.op_has c.args.ctx.now.program c.args.region
          (λ b k. c.loop-block.invariant.left b (subst (λ bs. Contains bs b) all k))
          (λ b k. c.loop-block.invariant.entered b (subst (λ bs. Contains bs b) all k));
      operations_once = subst (λ q. StandOnce (operations_in q)) c.program-program.ensures c.know_lists.ensures.operations_once;
      blocks_once = subst (λ q. StandOnce (blocks_in q)) c.program-program.ensures c.know_lists.ensures.blocks_once;
      listed = λ b k. c.loop-block.invariant.uses b (subst (λ bs. Contains bs b) all k);
    }
