use Rattle.std.proofs.Common.{sym, ap, ◌∙◌, get_or, arith}
use Rattle.std.proofs.lemmas.Option.{slice_get-get_or}
use Rattle.ir_program.specs.Program.{no_handle}
use Rattle.opt_decide.specs.Planned.{picked_edge}
use Rattle.opt_decide.proofs.DecisionLists.{decision_more, decision_none, decisions_all}
use Rattle.opt_decide.proofs.plan.decisions_of.Goals as goal
use Rattle.opt_decide.proofs.plan.decisions_of.Goals.{in-Some+in_ok-push, in_default}

pub loop-op-preserved : goal.loop-op-preserved
loop-op-preserved g c =
    let p = get_or c.args.ops.now c.loop-op.op-index no_handle in
    let f = picked_edge g.D.Meanings.meaning c.args.program.now in
    elim c.match-branch-2.branch [
      | in-Some+in_ok-push w ↦ decision_more f c.args.ops.now c.loop-op.op-index p w.in-Some.edge c.loop-op.decisions.items c.match-branch-2.decisions.items (slice_get-get_or c.args.ops.now c.loop-op.op-index no_handle (omega arith))
          (sym c.in_ok-edge.ensures ∙ w.in-Some.is) (ap (λ x. x.items) w.decisions-is ∙ w.in_ok-push.ensures.items) c.loop-op.invariant
      | in_default w ↦ decision_none f c.args.ops.now c.loop-op.op-index p c.match-branch-2.decisions.items (slice_get-get_or c.args.ops.now c.loop-op.op-index no_handle (omega arith))
          (sym c.in_ok-edge.ensures ∙ w.in_default.is) (ap (λ x. x.items) w.decisions-is ∙ c.loop-op.invariant)
    ]

pub returns : goal.returns
returns g c = decisions_all (picked_edge g.D.Meanings.meaning c.args.program.now) c.args.ops.now c.loop-op.op-index c.loop-op.decisions.items (omega arith) c.loop-op.invariant
