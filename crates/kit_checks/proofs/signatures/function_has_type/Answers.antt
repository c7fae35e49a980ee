use Rattle.std.proofs.Common.{◌∙◌, sym}
use Rattle.kit_checks.proofs.Combined.{last_decides, not_asked, asked}
use Rattle.kit_checks.proofs.signatures.function_has_type.Goals as goal

pub returns-then-not-is_function : goal.returns-then-not-is_function
returns-then-not-is_function c u s =
    not_asked c.is_function.result c.if-not-is_function.true (last_decides c.is_function.result c.is_function.ensures (λ p. c.kind_of.ensures u s ∙ p) (λ q. sym (c.kind_of.ensures u s) ∙ q))

pub returns : goal.returns
returns c u s =
    asked c.is_function.result c.has_function_body.result c.if-not-is_function.false
    (last_decides c.is_function.result c.is_function.ensures (λ p. c.kind_of.ensures u s ∙ p) (λ q. sym (c.kind_of.ensures u s) ∙ q)) (c.has_function_body.ensures u s)
