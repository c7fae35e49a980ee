use Rattle.std.proofs.Common.{◌<◌, length, ◌≡◌, true, false, Some, length, slice_get, get_or, take, sym, ap, subst, ◌∙◌, arith}
use Rattle.std.proofs.lemmas.Option.{same_Some, slice_get-get_or}
use Rattle.opt_dce.specs.liveness.Taken.{ArePaired, Picks, same}
use Rattle.opt_dce.proofs.LivenessLemmas.Partway.{item_at}
use Rattle.opt_dce.proofs.LivenessLemmas.Picking.{picks_begin, picks_step, picks_end}
use Rattle.opt_dce.proofs.liveness.taking.dead_operations.Goals as goal

pub loop-index-init : goal.loop-index-init
loop-index-init c =
    subst (Picks same (λ p. Unit {0}) (λ p. ArePaired c.args.inside.now.operations.keys c.args.marks.now p true) (take 0 c.args.inside.now.operations.keys)) (sym c.new-dead.ensures.items)
    (picks_begin same (λ p. Unit {0}) (λ p. ArePaired c.args.inside.now.operations.keys c.args.marks.now p true) c.args.inside.now.operations.keys c.requires.once)

pub loop-index-preserved : goal.loop-index-preserved
loop-index-preserved c =
    let within : c.loop-index.index < length c.args.marks.now = (let lt = c.loop-index-test.true in let keys = ap length c.as_slice-op-items.ensures.keys in let len = c.requires.len in omega arith) in
    let here = item_at c.as_slice-op-items.result.now c.args.inside.now.operations.keys c.loop-index.index _ c.as_slice-op-items.ensures.keys c.loop-index-test.true in
    let mark : slice_get c.args.marks.now c.loop-index.index ≡ Some (get_or c.args.marks.now c.loop-index.index false) = slice_get-get_or c.args.marks.now c.loop-index.index false within in
    picks_step same (λ p. Unit {0}) (λ p. ArePaired c.args.inside.now.operations.keys c.args.marks.now p true) c.args.inside.now.operations.keys c.requires.once (λ p. Unit {0}) (get_or c.args.marks.now c.loop-index.index false ≡ true) c.loop-index.index _ c.loop-index.dead.items c.take_operation.new.dead.items here
    (λ r e i. tt)
    (λ goes. (c.loop-index.index, here, mark ∙ ap Some goes))
    (λ w. let k = c.requires.once w.0 c.loop-index.index _ w.1 here in same_Some (get_or c.args.marks.now c.loop-index.index false) true (sym mark ∙ (ap (slice_get c.args.marks.now) (sym k) ∙ w.2)))
    c.loop-index.invariant c.in_ok-take_operation.ensures

pub returns : goal.returns
returns c = picks_end same (λ p. Unit {0}) (λ p. ArePaired c.args.inside.now.operations.keys c.args.marks.now p true) c.args.inside.now.operations.keys c.requires.once c.loop-index.index c.loop-index.dead.items (let end = c.loop-index-test.false in let keys = ap length c.as_slice-op-items.ensures.keys in omega arith) c.loop-index.invariant
