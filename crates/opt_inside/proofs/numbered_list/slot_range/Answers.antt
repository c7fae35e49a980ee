use Rattle.std.proofs.Common.{length, refl, arith}
use Rattle.std.proofs.lemmas.Option.{slice_get_read, slice_get_within}
use Rattle.opt_inside.proofs.SlotLemmas.{greatest_of, slots_next}
use Rattle.opt_inside.proofs.numbered_list.slot_range.Goals as goal

pub loop-item-init : goal.loop-item-init
loop-item-init g c = λ n k before at. absurd (omega (arith, before))

pub loop-item-preserved : goal.loop-item-preserved
loop-item-preserved g c =
    let at = slice_get_read c.args.items.now (length c.args.items.now) c.loop-item.item-index c.item-item.result refl c.loop-item-test.true c.item-item.is in
    slots_next g.K.Slotted.slot_of c.args.items.now c.loop-item.item-index c.loop-item.least c.loop-item.greatest c.loop-item.invariant c.item-item.result at c.min-least.result c.max-greatest.result
    (omega (arith, c.min-least.ensures)) (omega (arith, c.min-least.ensures, c.slot.ensures)) (greatest_of c.loop-item.greatest _ _ c.max-greatest.ensures).0 (omega (arith, (greatest_of c.loop-item.greatest _ _ c.max-greatest.ensures).1, c.slot-in-loop-item.ensures))

pub returns : goal.returns
returns g c = λ n k at.
    let within = slice_get_within c.args.items.now n k at in
    let slots = c.loop-item.invariant n k (omega (arith, within, c.loop-item-test.false)) at in
    (slots.0, omega (arith, slots.1))
