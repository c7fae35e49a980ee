use Rattle.std.proofs.Common.{rules, sym, ◌∙◌}
use Rattle.opt_steps.proofs.DeadCrossing.{is_some_of, some_is, room_falls, crossing_goes_on, crossing_ends, met, none_rests}
use Rattle.opt_steps.proofs.dead_kept.push_crossed.Goals as goal

pub returns-then-eq : goal.returns-then-eq
returns-then-eq c = crossing_ends c.args.problem.now c.requires.problem c.args.inner c.args.outer c.loop-definer.definer c.loop-definer.user _ _
    (met c.args.problem.now c.requires.problem c.loop-definer.definer c.loop-definer.user c.outwards-user.result c.in-Some.at c.in-Some.is c.outwards-user.ensures (is_some_of c.outwards-user.result c.in-Some.at (sym c.eq.ensures ∙ c.if-eq.true)))
    c.loop-definer.invariant

pub loop-definer-smaller : goal.loop-definer-smaller
loop-definer-smaller c =
    room_falls c.args.problem.now c.requires.problem c.loop-definer.definer _ c.in-Some.at c.in-Some.is c.around-definer.ensures

pub loop-definer-preserved : goal.loop-definer-preserved
loop-definer-preserved c =
    crossing_goes_on c.args.problem.now c.requires.problem c.args.inner c.args.outer c.loop-definer.definer c.loop-definer.user c.outwards-user.result _ _ _ _ c.in-Some.at c.in-Some.is c.outwards-user.ensures
    (λ e. let t = some_is c.outwards-user.result c.in-Some.at e in let u = c.eq.ensures in let f = c.if-eq.false in cc)
    c.in_ok-push.ensures.items c.around-definer.ensures c.loop-definer.invariant

pub returns : goal.returns
returns c = crossing_ends c.args.problem.now c.requires.problem c.args.inner c.args.outer c.loop-definer.definer c.loop-definer.user _ _ (none_rests c.args.problem.now c.requires.problem c.loop-definer.definer c.loop-definer.user (search rules)) c.loop-definer.invariant
