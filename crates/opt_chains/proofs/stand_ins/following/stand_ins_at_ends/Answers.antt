use Rattle.std.proofs.Common.{None, Some, sym, ap, ◌∙◌, get_or, arith}
use Rattle.std.proofs.lemmas.Option.{slice_get-get_or}
use Rattle.opt_chains.proofs.StandInsLemmas.FollowingLemmas.{some_there, none_there, none_followed, followed_more, followed_past, followed_all}
use Rattle.opt_chains.proofs.stand_ins.following.stand_ins_at_ends.Goals as goal
use Rattle.opt_chains.proofs.stand_ins.following.stand_ins_at_ends.Goals.{then-is_some+in_ok-push, else-is_some}

pub loop-number-init : goal.loop-number-init
loop-number-init c = none_followed c.args.values.now c.args.given.now c.args.finals.now c.new-found.result.items c.new-found.ensures.items

pub loop-number-preserved : goal.loop-number-preserved
loop-number-preserved c =
    let given = c.args.given.now in
    let i = c.loop-number.number in
    let here = slice_get-get_or given i None c.loop-number-test.true in
    elim c.if-is_some.branch [
      | then-is_some+in_ok-push w ↦
          let one = some_there (get_or given i None) (sym c.is_some.ensures ∙ w.if-is_some.true) in
          followed_more c.args.values.now given c.args.finals.now i c.loop-number.found.items c.if-is_some.found.items w.stand_in.result c.loop-number.invariant (one.0, here ∙ ap Some one.1) w.stand_in.ensures (ap (λ x. x.items) w.found-is ∙ w.in_ok-push.ensures.items)
      | else-is_some w ↦ followed_past c.args.values.now given c.args.finals.now i c.loop-number.found.items c.if-is_some.found.items c.loop-number.invariant (here ∙ ap Some (none_there (get_or given i None) (sym c.is_some.ensures ∙ w.if-is_some.false))) (ap (λ x. x.items) w.found-is)
    ]

pub returns : goal.returns
returns c = followed_all c.args.values.now c.args.given.now c.args.finals.now c.loop-number.number c.loop-number.found.items (omega arith) c.loop-number.invariant
