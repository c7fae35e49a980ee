use Rattle.ir_entities.proofs.Places.{has_named, defined_shown}
use Rattle.ir_entities.proofs.uses.Uses.know_named.Goals as goal

pub returns : goal.returns
returns g c p d n = defined_shown c.self.inside.definitions.slots c.self.inside.places.slots c.self.inside.threads.lists c.args.self.now c.self.view_is d (c.self.invariant.0.defined p d (has_named c.self.inside.definitions.slots c.self.inside.places.slots c.self.inside.threads.lists c.args.self.now c.self.view_is c.self.invariant.1 p d n))
