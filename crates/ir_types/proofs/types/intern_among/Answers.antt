use Rattle.ir_types.proofs.Places.{stored_there}
use Rattle.ir_types.proofs.types.intern_among.Goals as goal

pub returns-in-Some-clause-equal : goal.returns-in-Some-clause-equal
returns-in-Some-clause-equal g c = rw c.new.ensures (stored_there g.K.PartialEq.eq c.args.keys.now.keys c.args.key c.in-Some.number c.in-Some.ensures.index)
