use Rattle.std.proofs.Common.{◌≡◌, ◌++◌, ◌∷◌, [], length, sym, subst}
use Rattle.ir_program.specs.Order.{edges_listed}
use Rattle.ir_program.specs.Uses.{AreBlockUses}
use Rattle.ir_queries.specs.Predecessors.{AreUserBlocks}
use Rattle.ir_queries.proofs.Partway.{get-middle, moved, ended}
use Rattle.ir_queries.proofs.UserBlocks.{user_live, next_user}
use Rattle.ir_queries.proofs.predecessors.predecessors_of.Goals as goal

pub block_of-requires-clause-live : goal.block_of-requires-clause-live
block_of-requires-clause-live g c =
    let edges = subst (λ r. AreBlockUses c.args.program.now c.args.block (c.loop-edge.yielded ++ r)) c.in-Some.ensures.steps c.loop-edge.invariant.edges in
    user_live c.args.program.now c.in-Some.edge (edges.sound (length c.loop-edge.yielded) c.in-Some.edge (get-middle c.loop-edge.yielded _ c.in-Some.edge)).0

pub block_of-requires-clause-linked : goal.block_of-requires-clause-linked
block_of-requires-clause-linked g c =
    let edges = subst (λ r. AreBlockUses c.args.program.now c.args.block (c.loop-edge.yielded ++ r)) c.in-Some.ensures.steps c.loop-edge.invariant.edges in
    let edge = edges.sound (length c.loop-edge.yielded) c.in-Some.edge (get-middle c.loop-edge.yielded _ c.in-Some.edge) in
    c.requires.linked c.in-Some.edge edge.0 edge.1

pub loop-edge-preserved : goal.loop-edge-preserved
loop-edge-preserved g c = record {
  edges = moved (AreBlockUses c.args.program.now c.args.block) c.loop-edge.yielded _ _ c.in-Some.edge c.in-Some.ensures.steps c.loop-edge.invariant.edges;
  listed = moved (λ es. es ≡ edges_listed c.args.program.now c.args.block) c.loop-edge.yielded _ _ c.in-Some.edge c.in-Some.ensures.steps c.loop-edge.invariant.listed;
  stand = subst (AreUserBlocks c.args.program.now (c.loop-edge.yielded ++ c.in-Some.edge ∷ [])) (sym c.in_ok-push.ensures.items) (next_user c.args.program.now c.loop-edge.yielded c.loop-edge.predecessors.items c.in-Some.edge c.block_of.result c.loop-edge.invariant.stand c.block_of.ensures.stands);
}

pub returns-clause-predecessors : goal.returns-clause-predecessors
returns-clause-predecessors g c = record {
  edges = c.loop-edge.yielded;
  uses = ended (AreBlockUses c.args.program.now c.args.block) c.loop-edge.yielded _ c.in-None.ensures.steps.0 c.loop-edge.invariant.edges;
  blocks = c.loop-edge.invariant.stand;
}

pub returns-clause-order : goal.returns-clause-order
returns-clause-order g c = subst (λ es. AreUserBlocks c.args.program.now es c.loop-edge.predecessors.items) (ended (λ es. es ≡ edges_listed c.args.program.now c.args.block) c.loop-edge.yielded _ c.in-None.ensures.steps.0 c.loop-edge.invariant.listed) c.loop-edge.invariant.stand
