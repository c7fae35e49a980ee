use Rattle.std.proofs.Common.{rules, subst}
use Rattle.opt_solvers.specs.ChainsFollowed.{FindsFinal}
use Rattle.opt_solvers.proofs.ChainsFollowing.{followed_first, followed_more, followed_all}
use Rattle.opt_solvers.proofs.chains_followed.followed.Goals as goal

pub loop-start-init : goal.loop-start-init
loop-start-init c = followed_first c.args.next.now c.in_ok-known.known c.in_ok-known.ensures

pub resolve-requires-clause-known : goal.resolve-requires-clause-known
resolve-requires-clause-known c = c.loop-start.invariant.following

pub returns-then-not-branch : goal.returns-then-not-branch
returns-then-not-branch c = subst (FindsFinal c.args.next.now c.loop-start.known c.resolve.new.known c.loop-start.start) c.if-not-branch.true c.in_ok-resolve.ensures

pub loop-start-preserved : goal.loop-start-preserved
loop-start-preserved c =
    followed_more c.args.next.now c.loop-start.known c.resolve.new.known c.loop-start.start c.loop-start.invariant
    (subst (FindsFinal c.args.next.now c.loop-start.known c.resolve.new.known c.loop-start.start) c.if-not-branch.false c.in_ok-resolve.ensures)

pub returns : goal.returns
returns c = followed_all c.args.next.now c.loop-start.known c.loop-start.start (search rules) c.loop-start.invariant
