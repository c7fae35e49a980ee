use Rattle.std.proofs.Common.{◌∙◌, sym, ap, subst}
use Rattle.std.specs.Prelude.{option_to_list}
use Rattle.opt_steps.specs.DeadPlaces.{maker, around_definer, around_user, IsOperationNumber, AreNumbersAbove, Crosses}
use Rattle.opt_steps.proofs.DeadKeeping.{around_user_number, around_definer_number, maker_behind, row_kept}
use Rattle.opt_steps.proofs.dead_kept.keep_items.Goals as goal

pub push_crossed-requires-clause-inner : goal.push_crossed-requires-clause-inner
push_crossed-requires-clause-inner c = subst (IsOperationNumber c.args.problem.now) (sym c.around_definer-inner.ensures) (around_definer_number c.args.problem.now c.requires.problem c.args.definer c.requires.definer)

pub push_crossed-requires-clause-outer : goal.push_crossed-requires-clause-outer
push_crossed-requires-clause-outer c = subst (IsOperationNumber c.args.problem.now) (sym c.around_user-outer.ensures) (around_user_number c.args.problem.now c.requires.problem c.args.user c.requires.user)

pub push_crossed-requires-clause-behind : goal.push_crossed-requires-clause-behind
push_crossed-requires-clause-behind c =
    let d = c.args.definer in
    subst (λ o. AreNumbersAbove o c.begin_row.new.row.items) (sym c.around_definer-inner.ensures) (subst (AreNumbersAbove (around_definer c.args.problem.now d)) (sym (c.in_ok-begin_row.ensures ∙ ap option_to_list c.maker.ensures))
    (maker_behind c.args.problem.now c.requires.problem d c.requires.definer))

pub returns : goal.returns
returns c =
    let p = c.args.problem.now in let d = c.args.definer in
    row_kept p c.requires.problem c.args.user d _ c.requires.definer
    (subst (λ o. Crosses p o (around_user p c.args.user) (option_to_list (maker p d)) c.push_crossed.new.kept.items) c.around_definer-inner.ensures
    (subst (λ o. Crosses p c.around_definer-inner.result o (option_to_list (maker p d)) c.push_crossed.new.kept.items) c.around_user-outer.ensures
    (subst (λ xs. Crosses p c.around_definer-inner.result c.around_user-outer.result xs c.push_crossed.new.kept.items) (c.in_ok-begin_row.ensures ∙ ap option_to_list c.maker.ensures) c.in_ok-push_crossed.ensures)))
