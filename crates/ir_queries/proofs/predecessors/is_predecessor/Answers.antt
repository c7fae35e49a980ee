use Rattle.std.proofs.Common.{◌≡◌, ◌≢◌, ◌++◌, Some, length, true≢false, rules, tests, refl, sym, subst}
use Rattle.ir_program.specs.Uses.{AreBlockUses}
use Rattle.ir_queries.proofs.Partway.{get-middle, moved, ended}
use Rattle.ir_queries.proofs.UserBlocks.{user_live, none_next}
use Rattle.ir_queries.proofs.predecessors.is_predecessor.Goals as goal

pub parent_block-requires : goal.parent_block-requires
parent_block-requires g c =
    let edges = subst (λ r. AreBlockUses c.args.program.now c.args.block (c.loop-edge.yielded ++ r)) c.in-Some.ensures.steps c.loop-edge.invariant.edges in
    user_live c.args.program.now c.in-Some.edge (edges.sound (length c.loop-edge.yielded) c.in-Some.edge (get-middle c.loop-edge.yielded _ c.in-Some.edge)).0

pub returns-then-eq : goal.returns-then-eq
returns-then-eq g c =
    let edges = subst (λ r. AreBlockUses c.args.program.now c.args.block (c.loop-edge.yielded ++ r)) c.in-Some.ensures.steps c.loop-edge.invariant.edges in
    let edge = edges.sound (length c.loop-edge.yielded) c.in-Some.edge (get-middle c.loop-edge.yielded _ c.in-Some.edge) in
    let found : c.parent_block.result ≡ Some c.args.from = search (rules, tests) in
    (λ h. record { edge = c.in-Some.edge; stands = edge.0; leads = edge.1; user = rw found at c.parent_block.ensures.parent }, λ h. refl)

pub loop-edge-preserved : goal.loop-edge-preserved
loop-edge-preserved g c =
    let other : c.parent_block.result ≢ Some c.args.from = search (rules, tests) in
    record {
      edges = moved (AreBlockUses c.args.program.now c.args.block) c.loop-edge.yielded _ _ c.in-Some.edge c.in-Some.ensures.steps c.loop-edge.invariant.edges;
      others = none_next c.args.program.now c.args.from c.loop-edge.yielded c.in-Some.edge c.loop-edge.invariant.others (λ h. other (c.parent_block.ensures.only c.args.from h));
    }

pub returns : goal.returns
returns g c =
    let edges = ended (AreBlockUses c.args.program.now c.args.block) c.loop-edge.yielded _ c.in-None.ensures.steps.0 c.loop-edge.invariant.edges in (
      λ h. absurd (true≢false (sym h)),
      λ h. let at = edges.all h.edge h.stands h.leads in
          absurd (c.loop-edge.invariant.others at.0 h.edge at.1 h.user),
    )
