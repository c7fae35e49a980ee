use Rattle.std.proofs.Common.{◌≡◌, ◌<◌, ◌+◌, ◌≤◌, ◌++◌, ◌∷◌, [], length, arith, subst, sym, ap, ◌∙◌}
use Rattle.ir_entities.specs.Links.{list_at}
use Rattle.ir_entities.specs.Threads.{AreThreads}
use Rattle.std.proofs.lemmas.List.{length-set}
use Rattle.ir_entities.proofs.Naming.{one_thread, keys_counted, has_added, has_added_other, others_one, list_here, long_added}
use Rattle.ir_entities.proofs.uses.put.Goals as goal

pub overflow_add-uses : goal.overflow_add-uses
overflow_add-uses g c =
    let ls = c.args.threads.now.lists in
    let ms = c.insert_at_back.new.self.lists in
    let lt : c.args.definition < length ls = c.requires.sound.known c.args.definition c.requires.definition in
    let same : length ms ≡ length ls = ap length c.insert_at_back.ensures.lists ∙ length-set _ _ _ in
    let short : length (list_at ms c.args.definition) ≤ c.insert_at_back.new.self.nodes = c.know_members.ensures.short c.args.definition (omega arith) in
    let long : c.index.result.now.uses + 1 ≡ length (list_at ms c.args.definition) = long_added c.args.place _ (list_at ls c.args.definition) (c.requires.sound.counts c.args.definition c.index.result.now c.index.ensures) ∙ ap length (sym (list_here ls ms c.args.definition _ c.insert_at_back.ensures.lists lt)) in
    omega arith

pub returns-clause-sound : goal.returns-clause-sound
returns-clause-sound g c =
    subst (λ ds. AreThreads ds c.insert_at_back.new.self.lists) (sym c.set_uses.ensures)
    (one_thread c.args.definitions.now.slots c.args.threads.now.lists c.insert_at_back.new.self.lists c.args.definition (c.index.result.now.uses + 1) (list_at c.args.threads.now.lists c.args.definition ++ c.args.place ∷ []) c.index.result.now c.requires.sound c.know_apart.ensures c.index.ensures c.insert_at_back.ensures.lists
    (long_added c.args.place _ _ (c.requires.sound.counts c.args.definition c.index.result.now c.index.ensures)))

pub returns-clause-keys : goal.returns-clause-keys
returns-clause-keys g c = rw c.set_uses.ensures (keys_counted c.args.definitions.now.slots c.args.definition (c.index.result.now.uses + 1))

pub returns-clause-here : goal.returns-clause-here
returns-clause-here g c = rw (list_here c.args.threads.now.lists c.insert_at_back.new.self.lists c.args.definition _ c.insert_at_back.ensures.lists (c.requires.sound.known c.args.definition c.requires.definition)) (has_added c.args.place (list_at c.args.threads.now.lists c.args.definition))

pub returns-clause-others : goal.returns-clause-others
returns-clause-others g c p d ne = others_one c.args.threads.now.lists c.insert_at_back.new.self.lists c.args.definition _ c.insert_at_back.ensures.lists (c.requires.sound.known c.args.definition c.requires.definition) c.args.place (has_added_other c.args.place (list_at c.args.threads.now.lists c.args.definition)) p d ne
