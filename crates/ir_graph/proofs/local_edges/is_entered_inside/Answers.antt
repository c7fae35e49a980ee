use Rattle.std.proofs.Common.{◌≡◌, ◌++◌, ◌∙◌, true≢false, Some, length, slice_get, refl, sym, subst}
use Rattle.ir_program.specs.Rows.{successors_at}
use Rattle.ir_program.specs.Uses.{AreBlockUses}
use Rattle.ir_program.specs.declared.handles.Ptr.{Ptr}
use Rattle.ir_program.specs.declared.handles.BasicBlock.{BasicBlock}
use Rattle.ir_program.specs.declared.handles.Use.{Use}
use Rattle.ir_queries.proofs.Partway.{get-middle, moved, ended}
use Rattle.ir_queries.proofs.UserBlocks.{user_live}
use Rattle.ir_graph.specs.Regions.{IsOperationOf}
use Rattle.ir_graph.specs.RegionLaws.{place_in, in_place}
use Rattle.ir_graph.proofs.Walks.{each_more}
use Rattle.ir_graph.proofs.local_edges.is_entered_inside.Goals as goal

pub is_operation_of-requires : goal.is_operation_of-requires
is_operation_of-requires g c =
    let edges = subst (λ r. AreBlockUses c.args.program.now c.args.block (c.loop-edge.yielded ++ r)) c.in-Some.ensures.steps c.loop-edge.invariant.edges in
    user_live c.args.program.now c.in-Some.edge (edges.sound (length c.loop-edge.yielded) c.in-Some.edge (get-middle c.loop-edge.yielded _ c.in-Some.edge)).0

pub loop-edge-preserved : goal.loop-edge-preserved
loop-edge-preserved g c = record {
  edges = moved (AreBlockUses c.args.program.now c.args.block) c.loop-edge.yielded _ _ c.in-Some.edge c.in-Some.ensures.steps c.loop-edge.invariant.edges;
  inside = each_more (λ u. IsOperationOf c.args.program.now c.args.region u.user_op) c.loop-edge.yielded c.in-Some.edge c.loop-edge.invariant.inside (c.is_operation_of.ensures.0 c.if-not-is_operation_of.false);
}

pub returns-then-not-is_operation_of-clause-entered : goal.returns-then-not-is_operation_of-clause-entered
returns-then-not-is_operation_of-clause-entered g c =
    let edges = subst (λ r. AreBlockUses c.args.program.now c.args.block (c.loop-edge.yielded ++ r)) c.in-Some.ensures.steps c.loop-edge.invariant.edges in
    let edge = edges.sound (length c.loop-edge.yielded) c.in-Some.edge (get-middle c.loop-edge.yielded _ c.in-Some.edge) in
    let row = successors_at c.args.program.now c.in-Some.edge.user_op in (
      λ h. absurd (true≢false (sym h)),
      λ h. let there = c.is_operation_of.ensures.1 (h c.in-Some.edge.user_op (in_place row c.in-Some.edge.index c.args.block (subst (λ b. slice_get row c.in-Some.edge.index ≡ Some b) edge.1 edge.0))) in
          absurd (true≢false (sym there ∙ c.if-not-is_operation_of.true)),
    )

pub returns-clause-entered : goal.returns-clause-entered
returns-clause-entered g c = (
  λ h p k. let edges = ended (AreBlockUses c.args.program.now c.args.block) c.loop-edge.yielded _ c.in-None.ensures.steps.0 c.loop-edge.invariant.edges in
      let at = place_in (successors_at c.args.program.now p) c.args.block k in
      let u : Use (Ptr BasicBlock) = record { user_op = p; index = at.0; def = c.args.block } in
      let seen = edges.all u at.1 refl in
      c.loop-edge.invariant.inside u (in_place c.loop-edge.yielded seen.0 u seen.1),
  λ h. refl,
)
