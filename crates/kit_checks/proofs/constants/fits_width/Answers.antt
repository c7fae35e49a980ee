use Rattle.std.proofs.Common.{rules, refl}
use Rattle.std.proofs.lemmas.Bool.{eqb-true, eq-eqb}
use Rattle.std.proofs.Math.Nat.{div-eq_of_lt}
use Rattle.kit_checks.proofs.Widths.{wide_fits, shift_fits}
use Rattle.kit_checks.proofs.constants.fits_width.Goals as goal

pub returns-then-width-ge64 : goal.returns-then-width-ge64
returns-then-width-ge64 c = (λ h. wide_fits c.args.bits c.args.width (search rules) (search rules), λ h. refl)

pub returns : goal.returns
returns c = (
  λ h. shift_fits c.args.bits c.args.width (eqb-true _ 0 h),
  λ h. eq-eqb _ 0 (div-eq_of_lt h),
)
