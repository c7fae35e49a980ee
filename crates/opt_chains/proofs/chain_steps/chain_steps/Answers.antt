use Rattle.std.proofs.Common.{◌≡◌, ◌<◌, ◌+◌, true, false, length, Some, subst, sym, ap, ◌∙◌, arith}
use Rattle.std.proofs.lemmas.Option.{slice_get-get_or}
use Rattle.std.specs.declared.alloc.Global.{Global}
use Rattle.std.specs.declared.vec.Vec.{Vec}
use Rattle.opt_chains.specs.declared.chain_steps.ChainStep.{ChainStep}
use Rattle.opt_chains.proofs.ChainApart.{all_walked}
use Rattle.opt_chains.proofs.ChainRows.{HasWalked, none_walked, one_walked, one_passed}
use Rattle.opt_chains.proofs.chain_steps.chain_steps.Goals as goal
use Rattle.opt_chains.proofs.chain_steps.chain_steps.Goals.{then-firsts-first+in_ok-walk, else-firsts-first}

pub loop-first-init : goal.loop-first-init
loop-first-init c = subst (HasWalked c.args.next.now 0) (sym c.new-steps.ensures.items) (none_walked c.args.next.now)

pub walk-requires-clause-first : goal.walk-requires-clause-first
walk-requires-clause-first c =
    let here : c.loop-first.first < length c.args.firsts.now = omega (arith, c.requires.len, c.loop-first-test.true) in
    (c.requires.firsts c.loop-first.first c.loop-first-test.true).0 (slice_get-get_or c.args.firsts.now c.loop-first.first false here ∙ ap Some c.if-firsts-first.true)

pub loop-first-preserved : goal.loop-first-preserved
loop-first-preserved c =
    let here : c.loop-first.first < length c.args.firsts.now = omega (arith, c.requires.len, c.loop-first-test.true) in
    elim c.if-firsts-first.branch [
      | then-firsts-first+in_ok-walk w ↦ subst (HasWalked c.args.next.now (c.loop-first.first + 1)) (sym (ap (λ (v : Vec ChainStep Global). v.items) w.steps-is)) (one_walked c.args.next.now c.loop-first.first c.loop-first.steps.items _ c.loop-first.invariant w.in_ok-walk.ensures)
      | else-firsts-first w ↦ subst (HasWalked c.args.next.now (c.loop-first.first + 1)) (sym (ap (λ (v : Vec ChainStep Global). v.items) w.steps-is)) (one_passed c.args.next.now c.loop-first.first c.loop-first.steps.items c.loop-first.invariant (λ first.
          let yes = (c.requires.firsts c.loop-first.first c.loop-first-test.true).1 first in
          let no = slice_get-get_or c.args.firsts.now c.loop-first.first false here ∙ ap Some w.if-firsts-first.false in
          let f : Some true ≡ Some false = sym yes ∙ no in
          cc))
    ]

pub returns : goal.returns
returns c = all_walked c.args.next.now c.requires.links c.loop-first.first c.loop-first.steps.items (omega arith) (omega arith) c.loop-first.invariant
