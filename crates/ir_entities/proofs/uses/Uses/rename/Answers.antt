use Rattle.std.proofs.Common.{◌∙◌, refl}
use Rattle.ir_entities.proofs.Places.{is_place, is_linked, places_after, sets_place, now_named}
use Rattle.ir_entities.proofs.uses.Uses.rename.Goals as goal

pub take-requires-clause-linked : goal.take-requires-clause-linked
take-requires-clause-linked g c = is_linked c.self.inside.definitions.slots c.self.inside.places.slots c.self.inside.threads.lists c.args.self.now c.self.view_is c.self.invariant.1 c.args.place c.requires.place

pub invariant_of-self : goal.invariant_of-self
invariant_of-self g c = (
  c.put.ensures.sound,
  places_after c.self.inside.places.slots c.self.inside.places.slots c.self.inside.threads.lists c.put.new.threads.lists c.args.place c.self.invariant.1
      (λ q d n. c.put.ensures.others q d n ∙ c.take.ensures.others q d n) (λ q n. refl)
      (λ d h. is_place c.self.inside.definitions.slots c.self.inside.places.slots c.self.inside.threads.lists c.args.self.now c.self.view_is c.self.invariant.1 c.args.place c.requires.place) (λ h. (c.args.definition, c.put.ensures.here)),
)

pub returns-clause-renamed : goal.returns-clause-renamed
returns-clause-renamed g c =
    sets_place c.self.inside.definitions.slots c.self.inside.places.slots c.self.inside.threads.lists c.args.self.now c.self.view_is c.put.new.definitions.slots c.self.inside.places.slots c.put.new.threads.lists c.args.place _ c.put.ensures.sound.apart
    (λ q d n. c.put.ensures.others q d n ∙ c.take.ensures.others q d n) (λ q n. refl)
    (now_named c.self.inside.definitions.slots c.self.inside.places.slots c.self.inside.threads.lists c.args.self.now c.self.view_is c.self.invariant.1 c.args.place c.put.new.threads.lists c.args.definition c.self.invariant.0.apart c.put.ensures.sound.apart c.requires.place c.put.ensures.here)
