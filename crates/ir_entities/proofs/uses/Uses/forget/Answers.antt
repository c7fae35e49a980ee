use Rattle.std.proofs.Common.{ap, None}
use Rattle.ir_entities.specs.Threads.{key_in}
use Rattle.ir_entities.proofs.Places.{names, forgotten_threads, sets_key}
use Rattle.ir_entities.proofs.uses.Uses.forget.Goals as goal

pub invariant_of-self : goal.invariant_of-self
invariant_of-self g c = (
  forgotten_threads c.self.inside.definitions.slots c.remove.new.self.slots c.self.inside.threads.lists c.args.definition c.self.invariant.0
      (λ p h. c.requires.unused p (names c.self.inside.definitions.slots c.self.inside.places.slots c.self.inside.threads.lists c.args.self.now c.self.view_is c.self.invariant.1 p c.args.definition c.self.invariant.0.apart h))
      c.remove.ensures.updates.changed c.remove.ensures.updates.others,
  c.self.invariant.1,
)

pub returns-clause-gone : goal.returns-clause-gone
returns-clause-gone g c = sets_key c.self.inside.definitions.slots c.self.inside.places.slots c.self.inside.threads.lists c.args.self.now c.self.view_is c.remove.new.self.slots c.self.inside.places.slots c.self.inside.threads.lists c.args.definition None (ap key_in c.remove.ensures.updates.changed) c.remove.ensures.updates.others
