use Rattle.ir_entities.proofs.Places.{merged_places, merged_shown}
use Rattle.ir_entities.proofs.uses.Uses.replace_all.Goals as goal

pub invariant_of-self : goal.invariant_of-self
invariant_of-self g c = (
  c.merge.ensures.sound,
  merged_places c.self.inside.definitions.slots c.self.inside.places.slots c.self.inside.threads.lists c.args.self.now c.self.view_is c.merge.new.definitions.slots c.merge.new.threads.lists c.args.from c.args.to c.merge.ensures.sound.apart c.merge.ensures.emptied c.merge.ensures.joined c.merge.ensures.others c.self.invariant.1,
)

pub returns-then-from-to-clause-renamed : goal.returns-then-from-to-clause-renamed
returns-then-from-to-clause-renamed g c p =
    merged_shown c.self.inside.definitions.slots c.self.inside.places.slots c.self.inside.threads.lists c.args.self.now c.self.view_is c.merge.new.definitions.slots c.merge.new.threads.lists c.args.from c.args.to c.merge.ensures.sound.apart c.merge.ensures.emptied c.merge.ensures.joined c.merge.ensures.others c.if-from-to.true p
