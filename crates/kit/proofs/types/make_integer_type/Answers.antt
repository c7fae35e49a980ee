use Rattle.std.proofs.Common.{sym, rules}
use Rattle.kit.specs.Making.{RefusesTypeOfKind}
use Rattle.kit.proofs.Made.{integer_type_made, integer_type_refused, refused_at}
use Rattle.kit.proofs.types.make_integer_type.Goals as goal

pub returns-clause-made : goal.returns-clause-made
returns-clause-made c = integer_type_made c.args.parts.now c.in-Some.integer (sym c.in-Some.ensures) (search rules)

pub returns-in_default-clause-refused : goal.returns-in_default-clause-refused
returns-in_default-clause-refused c = refused_at (RefusesTypeOfKind 0 c.args.parts.now) 0 (integer_type_refused c.args.parts.now (sym c.in_default.ensures))
