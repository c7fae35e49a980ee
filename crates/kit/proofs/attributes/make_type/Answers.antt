use Rattle.std.proofs.Common.{sym}
use Rattle.kit.specs.Making.{RefusesAttributeOfKind}
use Rattle.kit.proofs.AttributesMade.{type_attribute_made, type_attribute_refused}
use Rattle.kit.proofs.Made.{refused_at}
use Rattle.kit.proofs.attributes.make_type.Goals as goal

pub returns-clause-made : goal.returns-clause-made
returns-clause-made c = type_attribute_made c.args.parts.now c.in-Some.ty (sym c.in-Some.ensures)

pub returns-in_default-clause-refused : goal.returns-in_default-clause-refused
returns-in_default-clause-refused c = refused_at (RefusesAttributeOfKind 2 c.args.parts.now) 0 (type_attribute_refused c.args.parts.now (sym c.in_default.ensures))
