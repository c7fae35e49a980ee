use Rattle.std.proofs.Common.{arith}
use Rattle.ir_formats.specs.Rules.{kinds_of}
use Rattle.ir_formats.proofs.Numbered.{kinds_taken, no_more_kinds, all_taken, few_of}
use Rattle.text_dialect.proofs.formats.rules.kinds_of.Goals as goal

pub returns-in_default : goal.returns-in_default
returns-in_default g c =
    let ks = kinds_of g.D.TextDialect.formats c.args.sort in
    let i = c.loop-number.number in
    all_taken ks i _ (no_more_kinds ks i c.in_default.ensures) c.loop-number.invariant

pub loop-number-preserved : goal.loop-number-preserved
loop-number-preserved g c =
    let ks = kinds_of g.D.TextDialect.formats c.args.sort in
    kinds_taken ks c.loop-number.number _ _ _ c.in-Some.ensures c.loop-number.invariant c.in_ok-push.ensures.items

pub returns : goal.returns
returns g c =
    let ks = kinds_of g.D.TextDialect.formats c.args.sort in
    let few = few_of g.D.TextDialect.formats g.met.D.TextDialect.few c.args.sort in
    all_taken ks c.loop-number.number _ (omega (arith, few, c.loop-number-test.false)) c.loop-number.invariant
