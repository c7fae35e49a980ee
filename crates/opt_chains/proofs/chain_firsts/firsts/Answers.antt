use Rattle.std.proofs.Common.{◌<◌, None, Some, get_or, subst, sym, ap, ◌∙◌}
use Rattle.std.proofs.lemmas.Option.{slice_get-get_or}
use Rattle.opt_chains.proofs.ChainFirsts.{all_marked, one_unmarked}
use Rattle.opt_chains.proofs.chain_firsts.firsts.Goals as goal

pub loop-to-init : goal.loop-to-init
loop-to-init c = all_marked c.args.next.now c.in_ok-marks.marks.items c.in_ok-marks.ensures.len c.in_ok-marks.ensures.marked

pub unmark-requires : goal.unmark-requires
unmark-requires c n e =
    let here = slice_get-get_or c.args.next.now c.loop-to.to-index None c.loop-to-test.true ∙ ap Some e in
    subst (λ l. n < l) (sym c.loop-to.invariant.len) (c.requires.within c.loop-to.to-index n here)

pub loop-to-preserved : goal.loop-to-preserved
loop-to-preserved c = one_unmarked c.args.next.now c.loop-to.to-index c.loop-to.marks.items c.unmark.new.marks.items (get_or c.args.next.now c.loop-to.to-index None) c.loop-to.invariant
    (slice_get-get_or c.args.next.now c.loop-to.to-index None c.loop-to-test.true) c.unmark.ensures.len c.unmark.ensures.unmarked
