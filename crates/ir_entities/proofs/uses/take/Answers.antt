use Rattle.std.proofs.Common.{subst, sym, ◌-◌, ◌<◌, length}
use Rattle.ir_entities.specs.Links.{list_at, without}
use Rattle.ir_entities.specs.Threads.{AreThreads}
use Rattle.ir_entities.proofs.Naming.{one_thread, keys_counted, has_without_other, others_one, long_without}
use Rattle.ir_entities.proofs.uses.take.Goals as goal

pub returns-clause-sound : goal.returns-clause-sound
returns-clause-sound g c =
    subst (λ ds. AreThreads ds c.unlink.new.self.lists) (sym c.set_uses.ensures)
    (one_thread c.args.definitions.now.slots c.args.threads.now.lists c.unlink.new.self.lists c.in-Some.definition (c.index.result.now.uses - 1) (without c.args.place (list_at c.args.threads.now.lists c.in-Some.definition)) c.index.result.now c.requires.sound c.know_apart.ensures c.index.ensures (c.unlink.ensures.one c.in-Some.definition c.in-Some.ensures.linked)
    (long_without c.args.place _ _ c.in-Some.ensures.linked (c.requires.sound.counts c.in-Some.definition c.index.result.now c.index.ensures)))

pub returns-clause-keys : goal.returns-clause-keys
returns-clause-keys g c = rw c.set_uses.ensures (keys_counted c.args.definitions.now.slots c.in-Some.definition (c.index.result.now.uses - 1))

pub returns-clause-others : goal.returns-clause-others
returns-clause-others g c p d ne =
    let lt : c.in-Some.definition < length c.args.threads.now.lists = c.requires.sound.known c.in-Some.definition (c.requires.sound.defined c.args.place c.in-Some.definition c.in-Some.ensures.linked) in
    others_one c.args.threads.now.lists c.unlink.new.self.lists c.in-Some.definition _ (c.unlink.ensures.one c.in-Some.definition c.in-Some.ensures.linked) lt c.args.place (has_without_other c.args.place (list_at c.args.threads.now.lists c.in-Some.definition)) p d ne
