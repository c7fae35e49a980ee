use Rattle.std.proofs.Common.{◌≡◌, ◌<◌, ◌≤◌, ◌+◌, ◌∙◌, refl, ap, sym, subst, arith, length}
use Rattle.ir_entities.specs.Links.{list_at}
use Rattle.ir_entities.specs.Threads.{AreThreads}
use Rattle.std.proofs.lemmas.List.{length-set}
use Rattle.ir_entities.proofs.Segments.{has-append}
use Rattle.ir_entities.proofs.Naming.{merged_to, merged_length, merged_keys, merged_threads}
use Rattle.ir_entities.proofs.uses.merge.Goals as goal

pub overflow_add-kept : goal.overflow_add-kept
overflow_add-kept g c =
    let ls = c.args.threads.now.lists in
    let ms = c.append.new.self.lists in
    let lt : c.args.to < length ls = c.requires.sound.known c.args.to c.requires.to in
    let same : length ms ≡ length ls = ap length c.append.ensures.lists ∙ length-set _ _ _ ∙ length-set _ _ _ in
    let short : length (list_at ms c.args.to) ≤ c.append.new.self.nodes = c.know_members.ensures.short c.args.to (omega arith) in
    let long : c.index-2.result.now.uses + c.index.result.now.uses ≡ length (list_at ms c.args.to) = merged_length c.args.definitions.now.slots ls ms c.args.from c.args.to c.index.result.now c.index-2.result.now c.requires.sound c.requires.differ c.index.ensures c.index-2.ensures c.append.ensures.lists in
    omega arith

pub returns-clause-sound : goal.returns-clause-sound
returns-clause-sound g c =
    subst (λ ds. AreThreads ds c.append.new.self.lists) (sym (c.set_uses-2.ensures))
    (rw c.set_uses.ensures (merged_threads c.args.definitions.now.slots c.args.threads.now.lists c.append.new.self.lists c.args.from c.args.to c.index.result.now c.index-2.result.now c.requires.sound c.requires.differ c.index.ensures c.index-2.ensures c.append.ensures.lists c.know_apart.ensures))

pub returns-clause-keys : goal.returns-clause-keys
returns-clause-keys g c = rw (c.set_uses-2.ensures, c.set_uses.ensures) (merged_keys c.args.definitions.now.slots c.args.threads.now.lists c.append.new.self.lists c.args.from c.args.to c.index.result.now c.index-2.result.now c.requires.sound c.requires.differ c.index.ensures c.index-2.ensures c.append.ensures.lists)

pub returns-clause-joined : goal.returns-clause-joined
returns-clause-joined g c p = rw (merged_to c.args.definitions.now.slots c.args.threads.now.lists c.append.new.self.lists c.args.from c.args.to c.index.result.now c.index-2.result.now c.requires.sound c.requires.differ c.index.ensures c.index-2.ensures c.append.ensures.lists, has-append) refl
