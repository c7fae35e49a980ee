use Rattle.std.proofs.Common.{ap}
use Rattle.kit.proofs.Numbered.{number_of_type, type_made, type_refused}
use Rattle.kit.proofs.types.make_type.Goals as goal

pub returns-in-Integer-clause-made : goal.returns-in-Integer-clause-made
returns-in-Integer-clause-made c = type_made 0 c.args.kind c.args.parts.now _ (ap number_of_type c.in-Integer.is) c.make_integer_type.ensures.made

pub returns-in-Integer-clause-refused : goal.returns-in-Integer-clause-refused
returns-in-Integer-clause-refused c = λ i f. type_refused 0 c.args.kind c.args.parts.now i (ap number_of_type c.in-Integer.is) (c.make_integer_type.ensures.refused i f)

pub returns-in-Function-clause-made : goal.returns-in-Function-clause-made
returns-in-Function-clause-made c = type_made 1 c.args.kind c.args.parts.now _ (ap number_of_type c.in-Function.is) c.make_function_type.ensures.made

pub returns-in-Function-clause-refused : goal.returns-in-Function-clause-refused
returns-in-Function-clause-refused c = λ i f. type_refused 1 c.args.kind c.args.parts.now i (ap number_of_type c.in-Function.is) (c.make_function_type.ensures.refused i f)

pub returns-in-Unit-clause-made : goal.returns-in-Unit-clause-made
returns-in-Unit-clause-made c = type_made 2 c.args.kind c.args.parts.now _ (ap number_of_type c.in-Unit.is) c.make_unit_type.ensures.made

pub returns-in-Unit-clause-refused : goal.returns-in-Unit-clause-refused
returns-in-Unit-clause-refused c = λ i f. type_refused 2 c.args.kind c.args.parts.now i (ap number_of_type c.in-Unit.is) (c.make_unit_type.ensures.refused i f)
