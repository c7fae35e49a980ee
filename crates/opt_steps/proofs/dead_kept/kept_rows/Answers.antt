use Rattle.std.proofs.Common.{◌<◌, length, take, sym, subst, rules}
use Rattle.std.proofs.lemmas.List.{take_all}
use Rattle.opt_steps.specs.DeadPlaces.{operand_places, AreKeptRows}
use Rattle.opt_steps.proofs.DeadPlacing.{places_more}
use Rattle.opt_steps.proofs.DeadKeeping.{none_kept}
use Rattle.opt_steps.proofs.dead_kept.kept_rows.Goals as goal

pub loop-user-init : goal.loop-user-init
loop-user-init c = none_kept c.args.problem.now _ c.in_ok-rows.ensures

pub loop-user-preserved : goal.loop-user-preserved
loop-user-preserved c =
    let p = c.args.problem.now in
    let h : c.loop-user.user < length p.operations = search rules in
    subst (λ qs. AreKeptRows p qs c.keep_operands.new.rows) (sym (places_more p.operations c.loop-user.user h)) (c.in_ok-keep_operands.ensures (operand_places 0 (take c.loop-user.user p.operations)) c.loop-user.invariant)

pub returns : goal.returns
returns c =
    let p = c.args.problem.now in
    c.in_ok-keep_kept.ensures (operand_places 0 p.operations) (subst (λ cs. AreKeptRows p (operand_places 0 cs) c.loop-user.rows) (take_all c.loop-user.user p.operations (search rules)) c.loop-user.invariant)
