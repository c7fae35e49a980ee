use Rattle.ir_program.proofs.defined.Standing.{seen-definer, seen-typed, live-stands, live-given, live-own}
use Rattle.ir_program.proofs.defined.Kept.{used-live}
use Rattle.ir_program.proofs.program.Program.know_values.Goals as goal

pub returns-clause-definer : goal.returns-clause-definer
returns-clause-definer g c = seen-definer c.args.self.now

pub returns-clause-typed : goal.returns-clause-typed
returns-clause-typed g c = rw (← c.self.view_is) (seen-typed _ c.self.invariant)

pub returns-clause-stands : goal.returns-clause-stands
returns-clause-stands g c = rw (← c.self.view_is) (live-stands _ c.self.invariant)

pub returns-clause-given : goal.returns-clause-given
returns-clause-given g c = rw (← c.self.view_is) (live-given _ c.self.invariant)

pub returns-clause-used : goal.returns-clause-used
returns-clause-used g c = rw (← c.self.view_is) (used-live _ c.self.invariant c.know_named.ensures)

pub returns-clause-own : goal.returns-clause-own
returns-clause-own g c = rw (← c.self.view_is) (live-own _ c.self.invariant)
