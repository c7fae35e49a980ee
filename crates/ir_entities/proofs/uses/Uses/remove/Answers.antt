use Rattle.std.proofs.Common.{◌∙◌, ap, None}
use Rattle.ir_entities.specs.Threads.{place_in, thread_of}
use Rattle.ir_entities.proofs.Naming.{place_none}
use Rattle.ir_entities.proofs.Places.{is_place, is_linked, sets_place}
use Rattle.ir_entities.proofs.uses.Uses.remove.Goals as goal

pub take-requires-clause-linked : goal.take-requires-clause-linked
take-requires-clause-linked g c = is_linked c.self.inside.definitions.slots c.self.inside.places.slots c.self.inside.threads.lists c.args.self.now c.self.view_is c.self.invariant.1 c.args.place c.requires

pub remove-requires : goal.remove-requires
remove-requires g c = is_place c.self.inside.definitions.slots c.self.inside.places.slots c.self.inside.threads.lists c.args.self.now c.self.view_is c.self.invariant.1 c.args.place c.requires

pub returns-clause-gone : goal.returns-clause-gone
returns-clause-gone g c =
    sets_place c.self.inside.definitions.slots c.self.inside.places.slots c.self.inside.threads.lists c.args.self.now c.self.view_is c.take.new.definitions.slots c.remove.new.self.slots c.take.new.threads.lists c.args.place None c.take.ensures.sound.apart c.take.ensures.others c.remove.ensures.updates.others
    (ap (place_in (thread_of c.take.new.threads.lists c.args.place)) c.remove.ensures.updates.changed ∙ place_none (thread_of c.take.new.threads.lists c.args.place))
