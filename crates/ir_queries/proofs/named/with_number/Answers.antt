use Rattle.std.proofs.Common.{◌∙◌, ap}
use Rattle.std.specs.List.{list_all}
use Rattle.ir_names.specs.Text.{is_later_code}
use Rattle.ir_queries.proofs.DigitLemmas.{wide_later}
use Rattle.ir_queries.proofs.named.with_number.Goals as goal

pub add-requires : goal.add-requires
add-requires c = ap (list_all is_later_code) (c.as_str.ensures.value ∙ c.in_ok-digits.ensures.ok) ∙ wide_later c.args.number c.ranges.number.fits
