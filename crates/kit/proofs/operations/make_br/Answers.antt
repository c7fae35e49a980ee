use Rattle.std.proofs.Common.{sym, ap, ◌∙◌}
use Rattle.kit.specs.Forms.{Edge}
use Rattle.kit.specs.Making.{RefusesForm}
use Rattle.kit.proofs.Drafted.{drafted, edge_made, edge_refused}
use Rattle.kit.proofs.Made.{refused_at}
use Rattle.kit.proofs.operations.make_br.Goals as goal

pub returns-clause-made : goal.returns-clause-made
returns-clause-made c = λ types. drafted Edge c.args.parts.now types types _ _ _ _ (edge_made c.args.parts.now c.in-Some._count types (sym c.in-Some.ensures))
    (c.draft.ensures.attributes ∙ c.new.ensures) (ap (λ v. v.items) c.draft.ensures.types ∙ c.new-2.ensures.items)

pub returns-in_default-clause-refused : goal.returns-in_default-clause-refused
returns-in_default-clause-refused c = λ i e types. refused_at (λ j. RefusesForm Edge c.args.parts.now types j) 0 (edge_refused c.args.parts.now types (sym c.in_default.ensures)) i e
