use Rattle.std.proofs.Common.{length, ◌≡◌, ℕ, Some, sym, ap, subst, ◌∙◌, arith}
use Rattle.std.proofs.lemmas.Option.{same_Some}
use Rattle.std.specs.Prelude.{slice_get}
use Rattle.opt_rows.specs.DeadCandidates.{Candidate, operands_of}
use Rattle.opt_inside.specs.Numbered.{numbers_of}
use Rattle.opt_dce.specs.liveness.Taken.{AreLost, IsLoss, LosesSome, OperandGoes, op_of}
use Rattle.opt_dce.proofs.LivenessLemmas.Ground.{at_index}
use Rattle.opt_dce.proofs.LivenessLemmas.Partway.{item_at}
use Rattle.opt_dce.proofs.LivenessLemmas.Picking.{picks_step, picks_end}
use Rattle.opt_dce.proofs.liveness.taking.lost_operands.Goals as goal

pub loop-index-preserved : goal.loop-index-preserved
loop-index-preserved c =
    let rows = c.args.rows.now in let marks = c.args.arguments.now in let keys = c.args.inside.now.operations.keys in let operands = c.operands.result.now in
    let here = item_at c.as_slice-op-items.result.now keys c.loop-index.index _ c.as_slice-op-items.ensures.keys c.loop-index-test.true in
    let row = at_index keys rows c.loop-index.index _ here c.requires.len in
    let same : operands ≡ row.0.operands = c.operands.ensures ∙ ap operands_of row.1 in
    picks_step op_of (IsLoss (numbers_of c.args.inside.now) rows marks) (LosesSome (numbers_of c.args.inside.now) rows marks) keys c.requires.once
    (λ l. AreLost operands marks l.marks.items) ((i : ℕ) × OperandGoes operands marks i) c.loop-index.index _ c.loop-index.lost.items c.take_lost.new.lost.items here
    (λ l e lost other p.
    let k = c.requires.once p.0 c.loop-index.index _ (p.1 ∙ ap Some e) here in
    let one : row.0 ≡ other = same_Some row.0 other (sym row.1 ∙ (ap (slice_get rows) (sym k) ∙ p.2)) in
    subst (λ z. AreLost z marks l.marks.items) (same ∙ ap (λ (z : Candidate). z.operands) one) lost)
    (λ goes. (row.0, (c.loop-index.index, here, row.1), (goes.0, subst (λ z. OperandGoes z marks goes.0) same goes.1)))
    (λ w.
    let k = c.requires.once w.1.0 c.loop-index.index _ w.1.1 here in
    let one : w.0 ≡ row.0 = same_Some w.0 row.0 (sym w.1.2 ∙ (ap (slice_get rows) k ∙ row.1)) in
    (w.2.0, subst (λ z. OperandGoes z marks w.2.0) (ap (λ (z : Candidate). z.operands) one ∙ sym same) w.2.1))
    c.loop-index.invariant c.in_ok-take_lost.ensures

pub returns : goal.returns
returns c = picks_end op_of (IsLoss (numbers_of c.args.inside.now) c.args.rows.now c.args.arguments.now) (LosesSome (numbers_of c.args.inside.now) c.args.rows.now c.args.arguments.now) c.args.inside.now.operations.keys c.requires.once c.loop-index.index c.loop-index.lost.items (let end = c.loop-index-test.false in let keys = ap length c.as_slice-op-items.ensures.keys in omega arith) c.loop-index.invariant
