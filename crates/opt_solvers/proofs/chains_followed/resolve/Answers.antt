use Rattle.std.proofs.Common.{ap, subst, length, get_or, arith}
use Rattle.std.specs.Prelude.{Contains}
use Rattle.std.proofs.lemmas.List.Elements.{Contains-get_or}
use Rattle.opt_solvers.specs.ChainsFollowed.{Walks, WritesBack, EndsPath}
use Rattle.opt_solvers.proofs.ChainsFollowing.{resolved}
use Rattle.opt_solvers.proofs.chains_followed.resolve.Goals as goal

pub write_back-requires-clause-marks : goal.write_back-requires-clause-marks
write_back-requires-clause-marks c = λ k d h.
    let s : EndsPath c.args.next.now c.args.known.now c.walk.new.known c.walk.new.path.items c.args.start c.in-Some.end = subst (Walks c.args.next.now c.args.known.now c.walk.new.known c.walk.new.path.items c.args.start) c.in-Some.is c.in_ok-end.ensures in
    let l = s.in_range (get_or c.deref.result.now k d) (subst (λ xs. Contains xs (get_or c.deref.result.now k d)) c.deref.ensures.value (Contains-get_or c.deref.result.now k d h)) in
    let m = s.marks in omega (arith, l, m)

pub write_back-requires-clause-finals : goal.write_back-requires-clause-finals
write_back-requires-clause-finals c = λ k d h.
    let s : EndsPath c.args.next.now c.args.known.now c.walk.new.known c.walk.new.path.items c.args.start c.in-Some.end = subst (Walks c.args.next.now c.args.known.now c.walk.new.known c.walk.new.path.items c.args.start) c.in-Some.is c.in_ok-end.ensures in
    let l = s.in_range (get_or c.deref.result.now k d) (subst (λ xs. Contains xs (get_or c.deref.result.now k d)) c.deref.ensures.value (Contains-get_or c.deref.result.now k d h)) in
    let f = ap length s.finals in let o = c.requires.known.finals in omega (arith, l, f, o)

pub returns-in_default : goal.returns-in_default
returns-in_default c = subst (Walks c.args.next.now c.args.known.now c.walk.new.known c.walk.new.path.items c.args.start) c.in_default.is c.in_ok-end.ensures

pub returns : goal.returns
returns c =
    let s : EndsPath c.args.next.now c.args.known.now c.walk.new.known c.walk.new.path.items c.args.start c.in-Some.end = subst (Walks c.args.next.now c.args.known.now c.walk.new.known c.walk.new.path.items c.args.start) c.in-Some.is c.in_ok-end.ensures in
    resolved c.args.next.now c.args.known.now c.walk.new.known c.write_back.new.known c.walk.new.path.items c.args.start c.in-Some.end c.requires.known s
    (subst (λ xs. WritesBack c.walk.new.known c.write_back.new.known xs c.in-Some.end) c.deref.ensures.value c.write_back.ensures)
