use Rattle.std.proofs.Common.{refl, arith}
use Rattle.std.proofs.lemmas.Option.{slice_get_read}
use Rattle.opt_inside.proofs.SlotLemmas.{leads_to_none, place_within, leads_on, leads_to_all}
use Rattle.opt_inside.proofs.numbered_list.SlotTable.of_items.Goals as goal

pub loop-index-init : goal.loop-index-init
loop-index-init g c = leads_to_none g.K.Slotted.slot_of c.args.items.now c.args.least c.args.places c.in_ok-numbers.numbers.items (omega (arith, c.in_ok-numbers.ensures.len, c.in_ok-numbers.numbers.ok.0))

pub overflow_sub-place : goal.overflow_sub-place
overflow_sub-place g c =
    let at = slice_get_read c.args.items.now _ c.loop-index.index c.index-items-index.result refl c.loop-index-test.true c.index-items-index.is in
    omega (arith, (c.requires.within c.loop-index.index c.index-items-index.result at).0, c.slot.ensures)

pub index-requires : goal.index-requires
index-requires g c =
    let at = slice_get_read c.args.items.now _ c.loop-index.index c.index-items-index.result refl c.loop-index-test.true c.index-items-index.is in
    let within = place_within g.K.Slotted.slot_of c.args.items.now c.args.least c.args.places c.requires.within c.loop-index.numbers.items c.loop-index.index c.loop-index.invariant c.index-items-index.result at c.slot.result c.slot.ensures in
    omega (arith, within, c.loop-index.numbers.ok.0)

pub index_mut-requires : goal.index_mut-requires
index_mut-requires g c =
    let at = slice_get_read c.args.items.now _ c.loop-index.index c.index-items-index.result refl c.loop-index-test.true c.index-items-index.is in
    let within = place_within g.K.Slotted.slot_of c.args.items.now c.args.least c.args.places c.requires.within c.loop-index.numbers.items c.loop-index.index c.loop-index.invariant c.index-items-index.result at c.slot.result c.slot.ensures in
    omega (arith, within, c.loop-index.numbers.ok.0)

pub loop-index-preserved : goal.loop-index-preserved
loop-index-preserved g c =
    let at = slice_get_read c.args.items.now _ c.loop-index.index c.index-items-index.result refl c.loop-index-test.true c.index-items-index.is in
    leads_on g.K.Slotted.slot_of c.args.items.now c.args.least c.args.places c.requires.within c.loop-index.numbers.items c.loop-index.index c.loop-index.invariant c.index-items-index.result at c.slot.result c.slot.ensures
    c.index.result.now c.index.ensures c.if-index.false

pub returns : goal.returns
returns g c = leads_to_all g.K.Slotted.slot_of c.args.items.now _ c.args.places c.loop-index.index c.requires.within c.loop-index.invariant c.loop-index-test.false
