use Rattle.std.proofs.Common.{sym, ap, ◌∙◌}
use Rattle.kit.specs.Forms.{AnyOperands}
use Rattle.kit.proofs.Drafted.{drafted, operands_made}
use Rattle.kit.proofs.operations.make_of_operands.Goals as goal

pub returns-clause-made : goal.returns-clause-made
returns-clause-made c = λ types. drafted AnyOperands c.args.parts.now types types _ _ _ _ (operands_made c.args.parts.now c.in-Some._count types (sym c.in-Some.ensures))
    (c.draft.ensures.attributes ∙ c.new.ensures) (ap (λ v. v.items) c.draft.ensures.types ∙ c.new-2.ensures.items)
