use Rattle.std.proofs.Common.{rules, subst}
use Rattle.opt_steps.specs.DeadPlaces.{GoesOut}
use Rattle.opt_steps.proofs.DeadCrossing.{room_falls, going_on, going_ends, going_nowhere}
use Rattle.opt_steps.proofs.dead_kept.outwards.Goals as goal

pub returns-then-at-limit : goal.returns-then-at-limit
returns-then-at-limit c = subst (GoesOut c.args.problem.now c.args.from c.args.limit) c.in-Some.is
    (going_ends c.args.problem.now c.requires.problem c.args.from c.loop-operation.operation c.args.limit c.in-Some.at c.in-Some.is c.if-at-limit.true c.loop-operation.invariant)

pub loop-operation-smaller : goal.loop-operation-smaller
loop-operation-smaller c =
    room_falls c.args.problem.now c.requires.problem c.loop-operation.operation _ c.in-Some.at c.in-Some.is c.around-operation.ensures

pub loop-operation-preserved : goal.loop-operation-preserved
loop-operation-preserved c =
    going_on c.args.problem.now c.requires.problem c.args.from c.loop-operation.operation _ c.args.limit c.in-Some.at c.in-Some.is c.if-at-limit.false c.around-operation.ensures c.loop-operation.invariant

pub returns : goal.returns
returns c = going_nowhere c.args.problem.now c.requires.problem c.args.from c.loop-operation.operation c.args.limit (search rules) c.loop-operation.invariant
