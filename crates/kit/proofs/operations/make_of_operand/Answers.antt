use Rattle.std.proofs.Common.{Some, sym, ap, ◌∙◌}
use Rattle.kit.specs.Forms.{OneOperand}
use Rattle.kit.proofs.Drafted.{drafted, operand_made}
use Rattle.kit.proofs.operations.make_of_operand.Goals as goal

pub returns-clause-made : goal.returns-clause-made
returns-clause-made c = λ types. drafted OneOperand c.args.parts.now types types _ _ _ _ (operand_made c.args.parts.now types (sym c.in-Some.ensures ∙ ap Some c.if-count-ne1.false))
    (c.draft.ensures.attributes ∙ c.new.ensures) (ap (λ v. v.items) c.draft.ensures.types ∙ c.new-2.ensures.items)
