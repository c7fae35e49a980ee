use Rattle.std.proofs.Common.{inl, inr, refl}
use Rattle.opt_dce.proofs.liveness.taking.take_lost.Goals as goal

pub returns-in_ok-push : goal.returns-in_ok-push
returns-in_ok-push c = inl (
  c.loses_some.ensures.0 c.if-loses_some.true,
  (record { op = c.args.op; marks = c.in_ok-marks.marks }, refl, c.in_ok-marks.ensures, c.in_ok-push.ensures.items),
)

pub returns-else-loses_some : goal.returns-else-loses_some
returns-else-loses_some c = inr (
  λ w.
      let yes = c.loses_some.ensures.1 w in
      absurd (cc (yes, c.if-loses_some.false)),
  refl,
)
