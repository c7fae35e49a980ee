use Rattle.std.proofs.Common.{arith, sym, ◌∙◌}
use Rattle.std.proofs.lemmas.Bool.Decides.{nat_tests}
use Rattle.kit.proofs.Made.{unit_type_made}
use Rattle.kit.proofs.types.make_unit_type.Goals as goal

pub returns-then-is_empty-clause-made : goal.returns-then-is_empty-clause-made
returns-then-is_empty-clause-made c = let e = sym c.is_empty.ensures ∙ c.if-is_empty.true in unit_type_made c.args.parts.now (grind (arith, nat_tests))
