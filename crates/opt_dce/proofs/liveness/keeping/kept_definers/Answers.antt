use Rattle.std.proofs.Common.{◌+◌, ◌⊎◌, inl, inr, ⊎_elim, length, ap, arith}
use Rattle.std.proofs.lemmas.Option.{slice_get_within}
use Rattle.ir_program.specs.Rows.{operands_at}
use Rattle.ir_trees.specs.Searched.{Lists}
use Rattle.opt_inside.specs.Numbered.{numbers_of}
use Rattle.opt_dce.specs.liveness.Problems.{IsPinned}
use Rattle.opt_dce.proofs.LivenessLemmas.Kept.{ValuesBelow, keeps_step, below_none, below_split, below_up, below_here}
use Rattle.opt_dce.proofs.LivenessLemmas.Partway.{item_at}
use Rattle.opt_dce.proofs.liveness.keeping.kept_definers.Goals as goal

pub loop-value-init : goal.loop-value-init
loop-value-init g c = record {
  sound = λ x h. let w = c.in_ok-kept.ensures.sound x h in (w.0, inl w.1, w.2);
  all = λ v h. ⊎_elim (λ l. c.in_ok-kept.ensures.all v l) (λ b. absurd (below_none c.args.inside.now.values.keys (IsPinned c.args.program.now c.args.op) v b)) h;
}

pub keep_pinned-requires-clause-live : goal.keep_pinned-requires-clause-live
keep_pinned-requires-clause-live g c = c.requires.there.values _ (c.loop-value.value-index, item_at c.as_slice-value-items.result.now c.args.inside.now.values.keys c.loop-value.value-index _ c.as_slice-value-items.ensures.keys c.loop-value-test.true)

pub loop-value-preserved : goal.loop-value-preserved
loop-value-preserved g c =
    let here = item_at c.as_slice-value-items.result.now c.args.inside.now.values.keys c.loop-value.value-index _ c.as_slice-value-items.ensures.keys c.loop-value-test.true in
    keeps_step (numbers_of c.args.inside.now)
    (λ v. Lists (operands_at c.args.program.now c.args.op) v ⊎ ValuesBelow c.args.inside.now.values.keys (IsPinned c.args.program.now c.args.op) c.loop-value.value-index v)
    (λ v. Lists (operands_at c.args.program.now c.args.op) v ⊎ ValuesBelow c.args.inside.now.values.keys (IsPinned c.args.program.now c.args.op) (c.loop-value.value-index + 1) v)
    _ _ c.loop-value.kept.items c.keep_pinned.new.kept.items
    (λ w h. ⊎_elim (λ l. inl (inl l)) (λ b. ⊎_elim (λ low. inl (inr low)) (λ z. inr z) (below_split c.args.inside.now.values.keys (IsPinned c.args.program.now c.args.op) c.loop-value.value-index _ w here b)) h)
    (λ w h. ⊎_elim (λ l. inl l) (λ b. inr (below_up c.args.inside.now.values.keys (IsPinned c.args.program.now c.args.op) c.loop-value.value-index w b)) h)
    (λ so. inr (below_here c.args.inside.now.values.keys (IsPinned c.args.program.now c.args.op) c.loop-value.value-index _ here so))
    c.loop-value.invariant c.in_ok-keep_pinned.ensures

pub returns : goal.returns
returns g c = record {
  sound = λ x h. let w = c.loop-value.invariant.sound x h in (w.0, ⊎_elim (λ l. inl l) (λ b. inr ((b.0, b.2), b.3)) w.1, w.2);
  all = λ v h. c.loop-value.invariant.all v (⊎_elim (λ l. inl l) (λ b. inr (b.0.0, (let lt = slice_get_within c.args.inside.now.values.keys b.0.0 v b.0.1 in let end = c.loop-value-test.false in let len = ap length c.as_slice-value-items.ensures.keys in omega arith), b.0.1, b.1)) h);
}
