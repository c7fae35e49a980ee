use Rattle.std.proofs.Common.{◌≡◌, ◌∙◌, ap, sym, refl, true}
use Rattle.ir_entities.proofs.Writes.{on_err_from}
use Rattle.ir_entities.specs.Links.{has, list_at}
use Rattle.ir_entities.specs.Uses.{Uses}
use Rattle.ir_entities.specs.Threads.{definition_at, key_in}
use Rattle.ir_entities.proofs.Naming.{shown}
use Rattle.ir_entities.proofs.Places.{has_named, some_not_none, same_view, same_threads, same_places, same_shown, defined_threads, sets_key}
use Rattle.ir_entities.proofs.uses.Uses.define.Goals as goal

pub returns-in_err-make_room_for_definition-clause-places : goal.returns-in_err-make_room_for_definition-clause-places
returns-in_err-make_room_for_definition-clause-places g c = same_shown c.self.inside.threads.lists c.make_room_for_definition.new.threads.lists c.make_room_for_definition.ensures.lists c.self.inside.places.slots c.self.invariant.0.apart ∙ ap (λ (u : Uses g.row.K.Denot). u.places) c.self.view_is

pub returns-in_err-make_room_for_definition-clause-err : goal.returns-in_err-make_room_for_definition-clause-err
returns-in_err-make_room_for_definition-clause-err g c =
    on_err_from c.from_residual.result
    (same_view c.self.inside.threads.lists c.make_room_for_definition.new.threads.lists c.make_room_for_definition.ensures.lists c.self.inside.definitions.slots c.make_room_for_definition.new.definitions.slots c.self.inside.places.slots c.self.invariant.0.apart c.make_room_for_definition.ensures.slots ∙ c.self.view_is)

pub invariant_of-self-2 : goal.invariant_of-self-2
invariant_of-self-2 g c = (
  defined_threads c.make_room_for_definition.new.definitions.slots c.insert_reserved.new.self.slots c.make_room_for_definition.new.threads.lists c.insert_reserved.result _
      (rw c.make_room_for_definition.ensures.slots (same_threads c.self.inside.threads.lists c.make_room_for_definition.new.threads.lists c.make_room_for_definition.ensures.lists c.self.inside.definitions.slots c.make_room_for_definition.ensures.grows c.self.invariant.0))
      (rw c.insert_reserved.ensures.key c.in_ok-make_room_for_definition.ensures.within)
      c.insert_reserved.ensures.was_vacant c.insert_reserved.ensures.updates.changed refl c.insert_reserved.ensures.updates.others,
  same_places c.self.inside.threads.lists c.make_room_for_definition.new.threads.lists c.make_room_for_definition.ensures.lists c.self.inside.places.slots c.self.invariant.1,
)

pub returns-clause-defined : goal.returns-clause-defined
returns-clause-defined g c =
    sets_key c.self.inside.definitions.slots c.self.inside.places.slots c.self.inside.threads.lists c.args.self.now c.self.view_is c.insert_reserved.new.self.slots c.self.inside.places.slots c.make_room_for_definition.new.threads.lists c.insert_reserved.result _ (ap key_in c.insert_reserved.ensures.updates.changed)
    (λ e n. c.insert_reserved.ensures.updates.others e n ∙ ap (λ ds. definition_at ds e) c.make_room_for_definition.ensures.slots)

pub returns-clause-places : goal.returns-clause-places
returns-clause-places g c = same_shown c.self.inside.threads.lists c.make_room_for_definition.new.threads.lists c.make_room_for_definition.ensures.lists c.self.inside.places.slots c.self.invariant.0.apart ∙ ap (λ (u : Uses g.row.K.Denot). u.places) c.self.view_is

pub returns-clause-unused : goal.returns-clause-unused
returns-clause-unused g c p n =
    let h : has p (list_at c.make_room_for_definition.new.threads.lists c.insert_reserved.result) ≡ true = has_named c.insert_reserved.new.self.slots c.self.inside.places.slots c.make_room_for_definition.new.threads.lists (shown c.insert_reserved.new.self.slots c.self.inside.places.slots c.make_room_for_definition.new.threads.lists) refl
    (same_places c.self.inside.threads.lists c.make_room_for_definition.new.threads.lists c.make_room_for_definition.ensures.lists c.self.inside.places.slots c.self.invariant.1) p c.insert_reserved.result n in
    some_not_none (definition_at c.self.inside.definitions.slots c.insert_reserved.result)
    (ap (λ ds. definition_at ds c.insert_reserved.result) (sym c.make_room_for_definition.ensures.slots) ∙ c.insert_reserved.ensures.was_vacant)
    (c.self.invariant.0.defined p c.insert_reserved.result (sym (ap (has p) (c.make_room_for_definition.ensures.lists c.insert_reserved.result)) ∙ h))
