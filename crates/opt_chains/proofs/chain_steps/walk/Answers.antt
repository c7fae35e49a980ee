use Rattle.std.proofs.Common.{◌<◌, ◌-◌, length, Some, None, subst, sym, ap, ◌∙◌}
use Rattle.std.proofs.lemmas.Option.{slice_get-get_or}
use Rattle.opt_chains.specs.ChainSteps.{behind}
use Rattle.opt_chains.proofs.ChainRows.{IsWalking, walking_goes, fewer_left, walking_ends}
use Rattle.opt_chains.proofs.chain_steps.walk.Goals as goal

pub loop-at-smaller : goal.loop-at-smaller
loop-at-smaller c =
    let leads = slice_get-get_or c.args.next.now c.loop-at.at None c.loop-at.invariant.within ∙ ap Some c.in-Some.is in
    subst (λ l. length c.args.next.now - length (behind l c.args.first) < length c.args.next.now - length (behind c.loop-at.steps.items c.args.first)) (sym c.in_ok-push.ensures.items)
    (fewer_left c.args.next.now c.args.first c.args.steps.now.items c.requires.links c.requires.first c.requires.within c.loop-at.steps.items c.loop-at.at c.in-Some.to c.loop-at.invariant leads)

pub loop-at-preserved : goal.loop-at-preserved
loop-at-preserved c =
    let leads = slice_get-get_or c.args.next.now c.loop-at.at None c.loop-at.invariant.within ∙ ap Some c.in-Some.is in
    subst (λ l. IsWalking c.args.next.now c.args.first c.args.steps.now.items l c.in-Some.to) (sym c.in_ok-push.ensures.items)
    (walking_goes c.args.next.now c.args.first c.args.steps.now.items c.requires.links c.requires.first c.requires.within c.loop-at.steps.items c.loop-at.at c.in-Some.to c.loop-at.invariant leads)

pub returns : goal.returns
returns c =
    let stops = slice_get-get_or c.args.next.now c.loop-at.at None c.loop-at.invariant.within ∙ ap Some c.in_default.is in
    walking_ends c.args.next.now c.args.first c.args.steps.now.items c.loop-at.steps.items c.loop-at.at c.loop-at.invariant stops
