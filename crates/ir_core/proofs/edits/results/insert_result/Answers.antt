use Rattle.std.proofs.Common.{Err, ap, sym, ◌∙◌, arith}
use Rattle.ir_core.proofs.EditsLemmas.Refused.{refused_result}
use Rattle.ir_core.proofs.edits.results.insert_result.Goals as goal

pub returns-in_err-value : goal.returns-in_err-value
returns-in_err-value g c = refused_result c.from_residual.result _ _ _ _ c.in_err-value.field-0.0 c.from_residual.ensures
    (sym c.is_live.ensures ∙ c.if-not-is_live.false, omega arith, c.is_live-else-index-get_num_results.ensures.0 c.if-not-is_live-2.false)
    (λ is. c.in_err-value.ensures.full (ap Err is))
    (record { program = c.in_err-value.ensures.err; values = c.in_err-value.ensures.err_values; types = c.in_err-value.ensures.types })
