use Rattle.std.proofs.Common.{arith, refl}
use Rattle.kit_interpreter.proofs.Fitting.{within_any}
use Rattle.kit_interpreter.proofs.executing.is_below_power.Goals as goal

pub returns-then-width-ge64 : goal.returns-then-width-ge64
returns-then-width-ge64 c = (λ _. within_any c.args.x c.args.width c.ranges.x.fits (omega arith), λ _. refl)
