use Rattle.std.proofs.Common.{◌≡◌, ◌++◌, ◌∙◌, true≢false, Some, length, slice_get, refl, sym, subst}
use Rattle.ir_program.specs.Rows.{successors_at}
use Rattle.ir_program.specs.Uses.{AreBlockUses}
use Rattle.ir_program.specs.declared.handles.Ptr.{Ptr}
use Rattle.ir_program.specs.declared.handles.BasicBlock.{BasicBlock}
use Rattle.ir_program.specs.declared.handles.Use.{Use}
use Rattle.ir_trees.proofs.Members.{at_has}
use Rattle.opt_inside.specs.forwarding.Local.{IsLocalEdge}
use Rattle.opt_inside.proofs.ForwardingLemmas.Partway.{get-middle, moved, ended, each_more}
use Rattle.opt_inside.proofs.ForwardingLemmas.Users.{user_live}
use Rattle.opt_inside.proofs.forwarding.local.is_entered_locally.Goals as goal

pub is_local_edge-requires-clause-operation : goal.is_local_edge-requires-clause-operation
is_local_edge-requires-clause-operation g c =
    let edges = subst (λ r. AreBlockUses c.args.program.now c.args.block (c.loop-edge.yielded ++ r)) c.in-Some.ensures.steps c.loop-edge.invariant.edges in
    user_live c.args.program.now c.in-Some.edge (edges.sound (length c.loop-edge.yielded) c.in-Some.edge (get-middle c.loop-edge.yielded _ c.in-Some.edge)).0

pub loop-edge-preserved : goal.loop-edge-preserved
loop-edge-preserved g c = record {
  edges = moved (AreBlockUses c.args.program.now c.args.block) c.loop-edge.yielded _ _ c.in-Some.edge c.in-Some.ensures.steps c.loop-edge.invariant.edges;
  local = each_more (λ u. IsLocalEdge g.D.Meanings.meaning.is_terminator c.args.program.now u.user_op c.args.block) c.loop-edge.yielded c.in-Some.edge c.loop-edge.invariant.local (c.is_local_edge.ensures.0 c.if-not-is_local_edge.false);
}

pub returns-then-not-is_local_edge : goal.returns-then-not-is_local_edge
returns-then-not-is_local_edge g c =
    let edges = subst (λ r. AreBlockUses c.args.program.now c.args.block (c.loop-edge.yielded ++ r)) c.in-Some.ensures.steps c.loop-edge.invariant.edges in
    let edge = edges.sound (length c.loop-edge.yielded) c.in-Some.edge (get-middle c.loop-edge.yielded _ c.in-Some.edge) in
    let row = successors_at c.args.program.now c.in-Some.edge.user_op in (
      λ h. absurd (true≢false (sym h)),
      λ h. let there = c.is_local_edge.ensures.1 (h c.in-Some.edge.user_op c.in-Some.edge.index (subst (λ b. slice_get row c.in-Some.edge.index ≡ Some b) edge.1 edge.0)) in
          absurd (true≢false (sym there ∙ c.if-not-is_local_edge.true)),
    )

pub returns : goal.returns
returns g c = (
  λ h p k at. let edges = ended (AreBlockUses c.args.program.now c.args.block) c.loop-edge.yielded _ c.in-None.ensures.steps.0 c.loop-edge.invariant.edges in
      let u : Use (Ptr BasicBlock) = record { user_op = p; index = k; def = c.args.block } in
      let seen = edges.all u at refl in
      c.loop-edge.invariant.local u (at_has c.loop-edge.yielded seen.0 u seen.1),
  λ h. refl,
)
