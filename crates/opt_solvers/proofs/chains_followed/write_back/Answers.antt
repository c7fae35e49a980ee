use Rattle.std.proofs.Common.{rules, get_or, refl}
use Rattle.opt_solvers.proofs.ChainsFollowing.{write_next}
use Rattle.opt_solvers.proofs.chains_followed.write_back.Goals as goal

pub loop-number-preserved : goal.loop-number-preserved
loop-number-preserved c =
    let i = c.loop-number.number-index in
    let l = c.requires.marks i 0 c.loop-number-test.true in
    let k = c.requires.finals i 0 c.loop-number-test.true in
    let m = c.loop-number.invariant.marks in
    let f = c.loop-number.invariant.finals in
    write_next c.args.known.now c.loop-number.known _ c.args.path.now i (get_or c.args.path.now i 0) c.args.end c.loop-number-test.true (search rules) (search rules) (search rules) refl refl c.loop-number.invariant
