use Rattle.std.proofs.Common.{◌∙◌, sym}
use Rattle.kit_checks.proofs.Combined.{last_decides, not_asked, asked}
use Rattle.kit_checks.proofs.constants.constants_fit.Goals as goal

pub returns-then-not-is_constant : goal.returns-then-not-is_constant
returns-then-not-is_constant c u s =
    not_asked c.is_constant.result c.if-not-is_constant.true (last_decides c.is_constant.result c.is_constant.ensures (λ p. c.kind_of.ensures u s ∙ p) (λ q. sym (c.kind_of.ensures u s) ∙ q))

pub returns : goal.returns
returns c u s =
    asked c.is_constant.result c.has_constant_value.result c.if-not-is_constant.false
    (last_decides c.is_constant.result c.is_constant.ensures (λ p. c.kind_of.ensures u s ∙ p) (λ q. sym (c.kind_of.ensures u s) ∙ q)) (c.has_constant_value.ensures u s)
