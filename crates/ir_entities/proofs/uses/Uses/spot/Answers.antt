use Rattle.std.proofs.Common.{◌∙◌}
use Rattle.ir_entities.proofs.Places.{is_place, at_spot}
use Rattle.ir_entities.proofs.uses.Uses.spot.Goals as goal

pub index-requires : goal.index-requires
index-requires g c = is_place c.self.inside.definitions.slots c.self.inside.places.slots c.self.inside.threads.lists c.args.self.now c.self.view_is c.self.invariant.1 c.args.place c.requires

pub returns : goal.returns
returns g c = at_spot c.self.inside.definitions.slots c.self.inside.places.slots c.self.inside.threads.lists c.args.self.now c.self.view_is c.self.invariant.1 c.args.place c.self.invariant.0.apart c.requires ∙ c.index.ensures
