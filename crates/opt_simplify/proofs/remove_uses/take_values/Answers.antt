use Rattle.std.proofs.Common.{arith}
use Rattle.std.proofs.lemmas.Option.{slice_get_within}
use Rattle.opt_simplify.proofs.remove_uses.take_values.Goals as goal

pub returns : goal.returns
returns g c = (
  λ h. cc,
  λ t. absurd (c.loop-value.invariant t.1.0 t.0 (let l = slice_get_within c.args.values.now t.1.0 t.0 t.1.1 in let e = c.loop-value-test.false in omega (arith, l, e)) t.1.1 t.2 t.3),
)
