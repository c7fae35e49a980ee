use Rattle.std.proofs.Common.{sym}
use Rattle.kit.specs.Making.{RefusesAttributeOfKind}
use Rattle.kit.proofs.AttributesMade.{origin_made, origin_refused}
use Rattle.kit.proofs.Made.{refused_at}
use Rattle.kit.proofs.attributes.make_origin.Goals as goal

pub returns-clause-made : goal.returns-clause-made
returns-clause-made c = origin_made c.args.parts.now _ c.in_ok-clone.field-0 (sym c.in-Some.ensures) c.in_ok-clone.ensures.cases

pub returns-in_default-clause-refused : goal.returns-in_default-clause-refused
returns-in_default-clause-refused c = refused_at (RefusesAttributeOfKind 6 c.args.parts.now) 0 (origin_refused c.args.parts.now (sym c.in_default.ensures))
