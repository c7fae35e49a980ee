use Rattle.std.proofs.Common.{get_or, map, sym, ◌∙◌, subst}
use Rattle.std.proofs.lemmas.List.{take_all}
use Rattle.std.proofs.lemmas.List.Elements.{Contains-get_or}
use Rattle.opt_steps.specs.DeadPlaces.{operand_place, KeepsRow, KeepMore}
use Rattle.opt_steps.proofs.DeadPlacing.{default}
use Rattle.opt_steps.proofs.DeadKeeping.{nothing_more, next_kept, operand_known}
use Rattle.opt_steps.proofs.dead_kept.keep_operands.Goals as goal

pub keep_items-requires-clause-definer : goal.keep_items-requires-clause-definer
keep_items-requires-clause-definer c =
    let os = c.operands-operand-items.result.now in
    operand_known c.args.problem.now c.requires.problem c.args.user os (get_or os c.loop-operand.operand-index default.operand) c.operands-operand-items.ensures (Contains-get_or os c.loop-operand.operand-index default.operand c.loop-operand-test.true)

pub loop-operand-init : goal.loop-operand-init
loop-operand-init c = nothing_more c.args.problem.now c.args.rows.now

pub loop-operand-preserved : goal.loop-operand-preserved
loop-operand-preserved c =
    let os = c.operands-operand-items.result.now in
    next_kept c.args.problem.now (operand_place c.args.user) os c.loop-operand.operand-index default.operand c.args.rows.now c.loop-operand.rows c.push_row.new.self c.deref.result.now c.loop-operand-test.true c.loop-operand.invariant
    (subst (KeepsRow c.args.problem.now _ (get_or os c.loop-operand.operand-index default.operand).definer) (sym c.deref.ensures.value) c.in_ok-keep_items.ensures) c.in_ok-push_row.ensures.ok

pub returns : goal.returns
returns c =
    subst (λ os. KeepMore c.args.problem.now (map (operand_place c.args.user) os) c.args.rows.now c.loop-operand.rows) (take_all c.loop-operand.operand-index c.operands-operand-items.result.now c.loop-operand-test.false ∙ c.operands-operand-items.ensures) c.loop-operand.invariant
