use Rattle.std.proofs.Common.{◌≡◌, ◌++◌, true, true≢false, Some, length, slice_get, ap, refl, sym, subst, ◌∙◌}
use Rattle.std.specs.Prelude.{IsSome}
use Rattle.ir_program.specs.Program.{OperationView, operation_at}
use Rattle.ir_program.specs.Uses.{AreBlockUses}
use Rattle.ir_program.specs.declared.handles.BasicBlock.{BasicBlock}
use Rattle.ir_program.specs.declared.handles.Ptr.{Ptr}
use Rattle.ir_program.specs.declared.handles.Use.{Use}
use Rattle.opt_dce.proofs.LivenessLemmas.Edges.{user_live}
use Rattle.opt_dce.proofs.LivenessLemmas.Ground.{successors_here}
use Rattle.opt_dialect.proofs.Removing.{the_some, payload_is}
use Rattle.opt_dce.proofs.LivenessLemmas.Partway.{at_middle, each_push, moved, ended}
use Rattle.opt_dce.proofs.liveness.closing.has_branches_only.Goals as goal

pub payload-requires : goal.payload-requires
payload-requires g c =
    let edges = subst (λ r. AreBlockUses c.args.program.now c.args.block (c.loop-edge.yielded ++ r)) c.in-Some.ensures.steps c.loop-edge.invariant.edges in
    subst (λ z. IsSome (operation_at c.args.program.now z)) (sym c.user_op.ensures) (user_live c.args.program.now c.in-Some.edge (edges.sound (length c.loop-edge.yielded) c.in-Some.edge (at_middle c.loop-edge.yielded _ c.in-Some.edge)).0)

pub loop-edge-preserved : goal.loop-edge-preserved
loop-edge-preserved g c = record {
  edges = moved (AreBlockUses c.args.program.now c.args.block) c.loop-edge.yielded _ _ c.in-Some.edge c.in-Some.ensures.steps c.loop-edge.invariant.edges;
  branches = each_push (λ k (u : Use (Ptr BasicBlock)). (v : OperationView g.row.D-Operation.Denot) → operation_at c.args.program.now u.user_op ≡ Some v → g.D.Meanings.meaning.is_branch v.payload ≡ true) c.loop-edge.yielded c.in-Some.edge c.loop-edge.invariant.branches
      (λ v there.
      let content : v.payload ≡ c.payload.result.now = payload_is g.D.Meanings.meaning c.args.program.now c.user_op.result v c.payload.result.now c.payload.ensures (ap (operation_at c.args.program.now) c.user_op.ensures ∙ there) in
      ap g.D.Meanings.meaning.is_branch content ∙ (sym c.is_branch.ensures ∙ c.if-not-is_branch.false));
}

pub returns : goal.returns
returns g c =
    let edges = ended (AreBlockUses c.args.program.now c.args.block) c.loop-edge.yielded _ c.in-None.ensures.steps.0 c.loop-edge.invariant.edges in (
      λ h p view there l.
          let u : Use (Ptr BasicBlock) = record { user_op = p; index = l.0; def = c.args.block } in
          let at = edges.all u (ap (λ bs. slice_get bs l.0) (successors_here c.args.program.now p view there) ∙ l.1) refl in
          c.loop-edge.invariant.branches at.0 u at.1 view there,
      λ h. refl,
    )

pub returns-then-not-is_branch : goal.returns-then-not-is_branch
returns-then-not-is_branch g c =
    let edges = subst (λ r. AreBlockUses c.args.program.now c.args.block (c.loop-edge.yielded ++ r)) c.in-Some.ensures.steps c.loop-edge.invariant.edges in
    let edge = edges.sound (length c.loop-edge.yielded) c.in-Some.edge (at_middle c.loop-edge.yielded _ c.in-Some.edge) in (
      λ h. absurd (true≢false (sym h)),
      λ all.
          let view = the_some (operation_at c.args.program.now c.in-Some.edge.user_op) (user_live c.args.program.now c.in-Some.edge edge.0) in
          let content = payload_is g.D.Meanings.meaning c.args.program.now c.user_op.result view.0 c.payload.result.now c.payload.ensures (ap (operation_at c.args.program.now) c.user_op.ensures ∙ view.1) in
          let branch = all c.in-Some.edge.user_op view.0 view.1 (c.in-Some.edge.index, ap (λ bs. slice_get bs c.in-Some.edge.index) (sym (successors_here c.args.program.now c.in-Some.edge.user_op view.0 view.1)) ∙ (edge.0 ∙ ap Some edge.1)) in
          let yes_is : c.is_branch.result ≡ true = c.is_branch.ensures ∙ (ap g.D.Meanings.meaning.is_branch (sym content) ∙ branch) in
          absurd (cc (yes_is, c.if-not-is_branch.true)),
    )
