use Rattle.std.proofs.Common.{sym, ap, ◌∙◌}
use Rattle.tiny_texts.specs.Making.{entries_of, parts_fit}
use Rattle.tiny_texts.proofs.Made.{operation_made}
use Rattle.tiny_texts.proofs.operations.make_operation.Goals as goal

pub returns-clause-made : goal.returns-clause-made
returns-clause-made c = operation_made c.args.kind c.args.ctx.now.types.keys _ c.args.parts.now _ _
    (ap (λ form. parts_fit form c.args.parts.now) (sym c.form.ensures) ∙ (sym c.fits.ensures ∙ c.if-not-fits.false))
    (c.in_ok-attributes.ensures ∙ ap entries_of c.value_in.ensures) c.in_ok-result_types.ensures.made
