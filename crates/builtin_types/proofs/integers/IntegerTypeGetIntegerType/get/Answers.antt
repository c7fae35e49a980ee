use Rattle.builtin_data.specs.declared.types.IntegerType.{IntegerType}
use Rattle.builtin_types.proofs.TypeLemmas.{only_got}
use Rattle.builtin_types.proofs.integers.IntegerTypeGetIntegerType.get.Goals as goal

pub returns-clause-only : goal.returns-clause-only
returns-clause-only g c =
    let integer : IntegerType = record { signedness = c.args.signedness; width = c.args.width } in
    only_got g.D.TypeKey.PartialEq.eq g.D.BuiltinTypes.integer_in c.from_integer_type.result (g.D.BuiltinTypes.integer_key integer) c.from_integer_type.ensures
    integer (g.met.D.BuiltinTypes.integers integer) c.instantiate_key.new.self.types c.instantiate_key.result c.instantiate_key.ensures.same
