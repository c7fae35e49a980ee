use Rattle.std.proofs.Common.{sym, refl}
use Rattle.std.proofs.lemmas.Option.{slice_get_read}
use Rattle.opt_inside.proofs.SlotLemmas.{none_told, past_told, other_told, item_told}
use Rattle.opt_inside.proofs.numbered_list.SlotTable.number_of.Goals as goal

pub returns-in_err-number : goal.returns-in_err-number
returns-in_err-number g c =
    none_told g.K.Slotted.slot_of c.args.items.now c.args.self.now c.requires c.args.item c.slot.result c.slot.ensures c.get.result c.get.ensures c.in_err-number.was c.from_residual.result c.from_residual.ensures

pub returns-in_err-found : goal.returns-in_err-found
returns-in_err-found g c =
    past_told g.K.Slotted.slot_of c.args.items.now c.args.self.now c.requires c.args.item c.slot.result c.slot.ensures c.get.result c.get.ensures c.in_ok-number.number c.in_ok-number.was
    c.in_err-found.ensures.lookup.3 c.from_residual-in_err-found.result c.from_residual-in_err-found.ensures

pub returns-then-eq : goal.returns-then-eq
returns-then-eq g c =
    let there = slice_get_read c.args.items.now _ c.in_ok-number.number c.in_ok-found.found.now refl c.in_ok-found.ensures.lookup.3.0 c.in_ok-found.ensures.lookup.1 in
    item_told g.K.Slotted.slot_of c.args.items.now c.args.self.now c.requires c.args.item c.slot.result c.slot.ensures c.get.result c.get.ensures c.in_ok-number.number c.in_ok-number.was
    c.in_ok-found.found.now there g.K.PartialEq.eq g.met.K.Slotted.same (sym {b = g.K.PartialEq.eq c.in_ok-found.found.now c.args.item} c.if-eq.ensures)

pub returns-else-eq : goal.returns-else-eq
returns-else-eq g c =
    let there = slice_get_read c.args.items.now _ c.in_ok-number.number c.in_ok-found.found.now refl c.in_ok-found.ensures.lookup.3.0 c.in_ok-found.ensures.lookup.1 in
    other_told g.K.Slotted.slot_of c.args.items.now c.args.self.now c.requires c.args.item c.slot.result c.slot.ensures c.get.result c.get.ensures c.in_ok-number.number c.in_ok-number.was
    c.in_ok-found.found.now there g.K.PartialEq.eq g.met.K.Eq.laws.refl (sym {b = g.K.PartialEq.eq c.in_ok-found.found.now c.args.item} c.if-eq.ensures)
