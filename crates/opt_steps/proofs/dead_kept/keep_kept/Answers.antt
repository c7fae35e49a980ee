use Rattle.std.proofs.Common.{get_or, map, sym, ◌∙◌, subst}
use Rattle.std.specs.Prelude.{Contains}
use Rattle.std.proofs.lemmas.List.{take_all}
use Rattle.std.proofs.lemmas.List.Elements.{Contains-get_or}
use Rattle.opt_steps.specs.DeadPlaces.{kept_place, KeepsRow, KeepMore}
use Rattle.opt_steps.proofs.DeadPlacing.{default}
use Rattle.opt_steps.proofs.DeadKeeping.{nothing_more, next_kept, kept_known}
use Rattle.opt_steps.proofs.dead_kept.keep_kept.Goals as goal

pub loop-definer-init : goal.loop-definer-init
loop-definer-init c = nothing_more c.args.problem.now c.args.rows.now

pub keep_items-requires-clause-definer : goal.keep_items-requires-clause-definer
keep_items-requires-clause-definer c =
    let ds = c.deref-definer-items.result.now in let d = get_or ds c.loop-definer.definer-index default.operand.definer in
    kept_known c.args.problem.now c.requires d (subst (λ xs. Contains xs d) c.deref-definer-items.ensures.value (Contains-get_or ds c.loop-definer.definer-index default.operand.definer c.loop-definer-test.true))

pub loop-definer-preserved : goal.loop-definer-preserved
loop-definer-preserved c =
    let ds = c.deref-definer-items.result.now in
    next_kept c.args.problem.now kept_place ds c.loop-definer.definer-index default.operand.definer c.args.rows.now c.loop-definer.rows c.push_row.new.self c.deref.result.now c.loop-definer-test.true c.loop-definer.invariant
    (subst (KeepsRow c.args.problem.now _ (get_or ds c.loop-definer.definer-index default.operand.definer)) (sym c.deref.ensures.value) c.in_ok-keep_items.ensures) c.in_ok-push_row.ensures.ok

pub returns : goal.returns
returns c =
    subst (λ ds. KeepMore c.args.problem.now (map kept_place ds) c.args.rows.now c.loop-definer.rows) (take_all c.loop-definer.definer-index c.deref-definer-items.result.now c.loop-definer-test.false ∙ c.deref-definer-items.ensures.value) c.loop-definer.invariant
