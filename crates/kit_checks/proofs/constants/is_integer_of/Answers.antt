use Rattle.std.proofs.Common.{◌≡◌, ◌∙◌, Some, None, ap, sym}
use Rattle.std.proofs.lemmas.Bool.{false≢true}
use Rattle.kit_checks.proofs.Combined.{part_fails, last_decides}
use Rattle.kit_checks.proofs.constants.is_integer_of.Goals as goal

pub returns-then-not-is_same_integer : goal.returns-then-not-is_same_integer
returns-then-not-is_same_integer c =
    part_fails c.is_same_integer.result c.if-not-is_same_integer.true c.is_same_integer.ensures
    (λ q. let e : Some c.in-Some.ty ≡ Some c.args.value.integer = sym c.in-Some.is ∙ sym c.integer_type.ensures ∙ q.is_type in cc)

pub returns-else-not-is_same_integer : goal.returns-else-not-is_same_integer
returns-else-not-is_same_integer c =
    last_decides c.fits_width.result c.fits_width.ensures
    (λ p. record { is_type = c.integer_type.ensures ∙ c.in-Some.is ∙ ap Some (c.is_same_integer.ensures.0 c.if-not-is_same_integer.false); in_range = p }) (λ q. q.in_range)

pub returns-in-None : goal.returns-in-None
returns-in-None c = (
  λ h. absurd (false≢true h),
  λ q. let e : None ≡ Some c.args.value.integer = sym c.in-None.is ∙ sym c.integer_type.ensures ∙ q.is_type in cc,
)
