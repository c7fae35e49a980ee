use Rattle.std.proofs.Common.{sym}
use Rattle.kit.specs.Making.{RefusesAttributeOfKind}
use Rattle.kit.proofs.AttributesMade.{identifier_made, identifier_refused}
use Rattle.kit.proofs.Made.{refused_at}
use Rattle.kit.proofs.attributes.make_identifier.Goals as goal

pub returns-clause-made : goal.returns-clause-made
returns-clause-made c = identifier_made c.args.parts.now c.in-Some.name.now c.in_ok-try_clone.field-0 (sym c.in-Some.ensures) c.in_ok-try_clone.ensures

pub returns-in_default-clause-refused : goal.returns-in_default-clause-refused
returns-in_default-clause-refused c = refused_at (RefusesAttributeOfKind 1 c.args.parts.now) 0 (identifier_refused c.args.parts.now (sym c.in_default.ensures))
