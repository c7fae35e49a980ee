use Rattle.std.proofs.Common.{◌≡◌, ◌∙◌, Err, sym, ap}
use Rattle.text_dialect.specs.declared.dialect.MakeFault.TheVariants.{Refused}
use Rattle.kit.specs.Making.{one_given_name, each_member, first_unread, RefusesAttributeOfKind}
use Rattle.kit.proofs.AttributesMade.{names_made, names_refused, no_names}
use Rattle.kit.proofs.Made.{refused_at}
use Rattle.kit.proofs.attributes.make_names.Goals as goal

pub returns-in-Ok-clause-made : goal.returns-in-Ok-clause-made
returns-in-Ok-clause-made c =
    names_made c.args.parts.now c.in-Some.members.now c.in-Ok.names (sym c.in-Some.ensures) (ap (each_member one_given_name) (sym c.deref.ensures.value) ∙ c.in-Ok.ensures.read)

pub returns-in-Err-clause-refused : goal.returns-in-Err-clause-refused
returns-in-Err-clause-refused c = λ i e.
    let same : c.in-Err.fault ≡ Refused i = cc in
    names_refused c.args.parts.now c.in-Some.members.now i (sym c.in-Some.ensures) (ap (first_unread one_given_name 0) (sym c.deref.ensures.value) ∙ c.in-Err.ensures.refused i (ap Err same))

pub returns-in_default-clause-refused : goal.returns-in_default-clause-refused
returns-in_default-clause-refused c = refused_at (RefusesAttributeOfKind 4 c.args.parts.now) 0 (no_names c.args.parts.now (sym c.in_default.ensures))
