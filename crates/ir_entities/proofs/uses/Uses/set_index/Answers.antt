use Rattle.std.proofs.Common.{◌<◌, None, Some, length, refl}
use Rattle.std.proofs.lemmas.List.{get_or-set_same, get_or-set_other}
use Rattle.slab.proofs.SlabLemmas.{ContainsKey-within}
use Rattle.ir_entities.proofs.Places.{is_place, sets_place, now_at}
use Rattle.ir_entities.specs.declared.uses.Spot.{Spot}
use Rattle.std.specs.Prelude.{slice_set}
use Rattle.ir_entities.proofs.uses.Uses.set_index.Goals as goal

pub index_mut-requires : goal.index_mut-requires
index_mut-requires g c = is_place c.self.inside.definitions.slots c.self.inside.places.slots c.self.inside.threads.lists c.args.self.now c.self.view_is c.self.invariant.1 c.args.place c.requires

pub returns-clause-moved : goal.returns-clause-moved
returns-clause-moved g c =
    let lt : c.args.place < length c.self.inside.places.slots = ContainsKey-within c.self.inside.places c.args.place (is_place c.self.inside.definitions.slots c.self.inside.places.slots c.self.inside.threads.lists c.args.self.now c.self.view_is c.self.invariant.1 c.args.place c.requires) in
    let spot : Spot = record { user = c.index_mut.result.now.user; index = c.args.index } in
    sets_place c.self.inside.definitions.slots c.self.inside.places.slots c.self.inside.threads.lists c.args.self.now c.self.view_is c.self.inside.definitions.slots (slice_set c.self.inside.places.slots c.args.place (Some spot)) c.self.inside.threads.lists c.args.place _ c.self.invariant.0.apart (λ q d n. refl)
    (λ q n. get_or-set_other c.self.inside.places.slots c.args.place q (Some spot) None n)
    (now_at c.self.inside.definitions.slots c.self.inside.places.slots c.self.inside.threads.lists c.args.self.now c.self.view_is c.self.invariant.1 c.args.place (slice_set c.self.inside.places.slots c.args.place (Some spot)) c.args.index c.index_mut.result.now c.index_mut.ensures.value
    (get_or-set_same c.self.inside.places.slots c.args.place (Some spot) None lt))
