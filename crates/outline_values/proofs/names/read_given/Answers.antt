use Rattle.std.proofs.Common.{Some, refl}
use Rattle.outline_values.proofs.names.read_given.Goals as goal

pub returns-clause-adds : goal.returns-clause-adds
returns-clause-adds c = record {
  name = Some c.in_ok-name.name;
  last = c.in_ok-push-2.ensures.items;
  says = record { token = c.in_ok-token.token; next = c.in_ok-token.ensures.token; spelled = c.in_ok-name.ensures; ends = refl };
}
