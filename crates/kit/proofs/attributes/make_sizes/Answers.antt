use Rattle.std.proofs.Common.{◌≡◌, ◌∙◌, Err, sym, ap}
use Rattle.text_dialect.specs.declared.dialect.MakeFault.TheVariants.{Refused}
use Rattle.kit.specs.Making.{one_size, each_member, first_unread, RefusesAttributeOfKind}
use Rattle.kit.proofs.AttributesMade.{sizes_made, sizes_refused, no_sizes}
use Rattle.kit.proofs.Made.{refused_at}
use Rattle.kit.proofs.attributes.make_sizes.Goals as goal

pub returns-in-Ok-clause-made : goal.returns-in-Ok-clause-made
returns-in-Ok-clause-made c =
    sizes_made c.args.parts.now c.in-Some.members.now c.in-Ok.sizes (sym c.in-Some.ensures) (ap (each_member one_size) (sym c.deref.ensures.value) ∙ c.in-Ok.ensures.read)

pub returns-in-Err-clause-refused : goal.returns-in-Err-clause-refused
returns-in-Err-clause-refused c = λ i e.
    let same : c.in-Err.fault ≡ Refused i = cc in
    sizes_refused c.args.parts.now c.in-Some.members.now i (sym c.in-Some.ensures) (ap (first_unread one_size 0) (sym c.deref.ensures.value) ∙ c.in-Err.ensures.refused i (ap Err same))

pub returns-in_default-clause-refused : goal.returns-in_default-clause-refused
returns-in_default-clause-refused c = refused_at (RefusesAttributeOfKind 3 c.args.parts.now) 0 (no_sizes c.args.parts.now (sym c.in_default.ensures))
