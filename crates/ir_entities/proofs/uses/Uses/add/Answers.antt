use Rattle.std.proofs.Common.{◌∙◌, ap, sym, Some, None, get_or}
use Rattle.ir_entities.specs.Links.{has, list_at}
use Rattle.ir_entities.specs.Threads.{place_in, thread_of}
use Rattle.ir_entities.proofs.Naming.{thread_is, place_none}
use Rattle.ir_entities.proofs.Places.{seen_place, sets_place}
use Rattle.ir_entities.proofs.uses.Uses.add.Goals as goal

pub returns-clause-fresh : goal.returns-clause-fresh
returns-clause-fresh g c =
    seen_place c.self.inside.definitions.slots c.self.inside.places.slots c.self.inside.threads.lists c.args.self.now c.self.view_is c.insert_reserved-place.result
    ∙ ap (λ ss. place_in (thread_of c.self.inside.threads.lists c.insert_reserved-place.result) (get_or ss c.insert_reserved-place.result None)) (sym c.make_room_for_place.ensures.slots)
    ∙ ap (place_in (thread_of c.self.inside.threads.lists c.insert_reserved-place.result)) c.insert_reserved-place.ensures.was_vacant ∙ place_none (thread_of c.self.inside.threads.lists c.insert_reserved-place.result)

pub returns-clause-added : goal.returns-clause-added
returns-clause-added g c =
    sets_place c.self.inside.definitions.slots c.self.inside.places.slots c.self.inside.threads.lists c.args.self.now c.self.view_is c.put.new.definitions.slots c.insert_reserved-place.new.self.slots c.put.new.threads.lists c.insert_reserved-place.result _ c.put.ensures.sound.apart
    (λ q d n. c.put.ensures.others q d n ∙ ap (λ ls. has q (list_at ls d)) c.make_room_for_place.ensures.lists)
    (λ q n. c.insert_reserved-place.ensures.updates.others q n ∙ ap (λ ss. get_or ss q None) c.make_room_for_place.ensures.slots)
    (ap (λ t. place_in t (get_or c.insert_reserved-place.new.self.slots c.insert_reserved-place.result None)) (thread_is c.put.new.threads.lists c.insert_reserved-place.result c.args.definition c.put.ensures.sound.apart c.put.ensures.here) ∙ ap (place_in (Some c.args.definition)) c.insert_reserved-place.ensures.updates.changed)
