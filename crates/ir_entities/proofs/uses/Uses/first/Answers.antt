use Rattle.ir_entities.proofs.Places.{is_defined, first_named}
use Rattle.ir_entities.proofs.uses.Uses.first.Goals as goal

pub head-requires : goal.head-requires
head-requires g c = c.self.invariant.0.known c.args.definition (is_defined c.self.inside.definitions.slots c.self.inside.places.slots c.self.inside.threads.lists c.args.self.now c.self.view_is c.args.definition c.requires)

pub returns : goal.returns
returns g c = first_named c.self.inside.definitions.slots c.self.inside.places.slots c.self.inside.threads.lists c.args.self.now c.self.view_is c.args.definition c.head.result c.self.invariant.1 c.self.invariant.0.apart c.head.ensures.first
