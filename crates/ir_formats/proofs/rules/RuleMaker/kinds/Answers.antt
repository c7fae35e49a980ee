use Rattle.std.proofs.Common.{map}
use Rattle.ir_formats.specs.Making.{kind_of}
use Rattle.ir_formats.proofs.Numbered.{kind_here, no_kind_left}
use Rattle.ir_formats.proofs.Makes.{kinds_more, kinds_done}
use Rattle.ir_formats.proofs.rules.RuleMaker.kinds.Goals as goal

pub returns : goal.returns
returns c =
    let ks = c.args.kinds.now in
    let i = c.loop-number.number in
    kinds_done c.args.sort (map kind_of ks) i _ _ _ (no_kind_left ks i c.loop-number-test.false) c.loop-number.invariant

pub loop-number-preserved : goal.loop-number-preserved
loop-number-preserved c =
    let ks = c.args.kinds.now in
    let i = c.loop-number.number in
    let here = kind_here ks i _ c.loop-number-test.true in
    kinds_more c.args.sort (map kind_of ks) i _ _ _ _ _ here c.loop-number.invariant c.in_ok-kind.ensures
