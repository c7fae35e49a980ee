use Rattle.std.proofs.Common.{◌≡◌, ◌<◌, ◌-◌, ◌^◌, ◌∙◌, refl, sym, arith, ap}
use Rattle.ir_arena.specs.declared.arena.Slot.{Slot}
use Rattle.ir_arena.specs.Arena.{slot_at}
use Rattle.ir_arena.proofs.Slots.{sound_back, sound_lent, live_slot, lent_slot, live_value, erased_keeps, erased_updates, erased_spent, cleared_slot, Live}
use Rattle.ir_arena.proofs.arena.Arena.erase.Goals as goal

pub index_mut-slot-requires : goal.index_mut-slot-requires
index_mut-slot-requires g c =
    let l : Live c.self.inside.slots.items c.args.p = live_slot c.self.inside.slots.items c.args.p (rw c.self.view_is c.requires) in
    omega (arith, l.within, c.self.inside.slots.ok.0)

pub invariant_of-self : goal.invariant_of-self
invariant_of-self g c =
    let l : Live c.self.inside.slots.items c.args.p = live_slot c.self.inside.slots.items c.args.p (rw c.self.view_is c.requires) in
    sound_lent c.self.inside.slots.items c.self.inside.free c.args.p.slot _ c.self.invariant l.used

pub returns-then-slot-clause-spent : goal.returns-then-slot-clause-spent
returns-then-slot-clause-spent g c =
    let l : Live c.self.inside.slots.items c.args.p = live_slot c.self.inside.slots.items c.args.p (rw c.self.view_is c.requires) in
    let was : c.index_mut-slot.result.now ≡ slot_at c.self.inside.slots.items c.args.p.slot = lent_slot c.self.inside.slots.items c.args.p c.index_mut-slot.result.now l c.index_mut-slot.ensures.value in
    rw (← c.self.view_is) (erased_keeps c.self.inside.slots.items c.args.p _ l c.take.ensures.after (ap (λ (k : Slot g.row.T.Denot). k.version) was))

pub invariant_of-self-2 : goal.invariant_of-self-2
invariant_of-self-2 g c =
    let l : Live c.self.inside.slots.items c.args.p = live_slot c.self.inside.slots.items c.args.p (rw c.self.view_is c.requires) in
    let left : c.index_mut-slot.result.now.version < 2 ^ 64 - 1 = omega (arith, c.if-slot.false) in
    sound_back c.self.inside.slots.items c.self.inside.free c.args.p.slot _ c.self.invariant l.within l.used left refl c.take.ensures.after

pub returns-clause-spent : goal.returns-clause-spent
returns-clause-spent g c =
    let l : Live c.self.inside.slots.items c.args.p = live_slot c.self.inside.slots.items c.args.p (rw c.self.view_is c.requires) in
    let was : c.index_mut-slot.result.now ≡ slot_at c.self.inside.slots.items c.args.p.slot = lent_slot c.self.inside.slots.items c.args.p c.index_mut-slot.result.now l c.index_mut-slot.ensures.value in
    rw (← c.self.view_is) (erased_keeps c.self.inside.slots.items c.args.p _ l c.take.ensures.after (ap (λ (k : Slot g.row.T.Denot). k.version) was))

pub returns-then-slot-clause-value : goal.returns-then-slot-clause-value
returns-then-slot-clause-value g c =
    let l : Live c.self.inside.slots.items c.args.p = live_slot c.self.inside.slots.items c.args.p (rw c.self.view_is c.requires) in
    let was : c.index_mut-slot.result.now ≡ slot_at c.self.inside.slots.items c.args.p.slot = lent_slot c.self.inside.slots.items c.args.p c.index_mut-slot.result.now l c.index_mut-slot.ensures.value in
    rw (← c.self.view_is) (c.in-Some.ensures.value ∙ ap (λ (k : Slot g.row.T.Denot). k.value) was ∙ sym (live_value c.self.inside.slots.items c.args.p l))

pub returns-then-slot-clause-updates : goal.returns-then-slot-clause-updates
returns-then-slot-clause-updates g c =
    let l : Live c.self.inside.slots.items c.args.p = live_slot c.self.inside.slots.items c.args.p (rw c.self.view_is c.requires) in
    let was : c.index_mut-slot.result.now ≡ slot_at c.self.inside.slots.items c.args.p.slot = lent_slot c.self.inside.slots.items c.args.p c.index_mut-slot.result.now l c.index_mut-slot.ensures.value in
    rw (← c.self.view_is) (erased_updates c.self.inside.slots.items c.args.p _ l c.take.ensures.after (ap (λ (k : Slot g.row.T.Denot). k.version) was ∙ l.version))

pub returns-then-slot-clause-slot : goal.returns-then-slot-clause-slot
returns-then-slot-clause-slot g c =
    let l : Live c.self.inside.slots.items c.args.p = live_slot c.self.inside.slots.items c.args.p (rw c.self.view_is c.requires) in
    rw (← c.self.view_is) (cleared_slot c.self.inside.slots.items c.args.p.slot _ l.within l.used c.take.ensures.after)

pub returns-then-slot-clause-spent_now : goal.returns-then-slot-clause-spent_now
returns-then-slot-clause-spent_now g c =
    let l : Live c.self.inside.slots.items c.args.p = live_slot c.self.inside.slots.items c.args.p (rw c.self.view_is c.requires) in
    let was : c.index_mut-slot.result.now ≡ slot_at c.self.inside.slots.items c.args.p.slot = lent_slot c.self.inside.slots.items c.args.p c.index_mut-slot.result.now l c.index_mut-slot.ensures.value in
    erased_spent c.self.inside.slots.items c.args.p _ l c.take.ensures.after (ap (λ (k : Slot g.row.T.Denot). k.version) was ∙ l.version)

pub returns-clause-value : goal.returns-clause-value
returns-clause-value g c =
    let l : Live c.self.inside.slots.items c.args.p = live_slot c.self.inside.slots.items c.args.p (rw c.self.view_is c.requires) in
    let was : c.index_mut-slot.result.now ≡ slot_at c.self.inside.slots.items c.args.p.slot = lent_slot c.self.inside.slots.items c.args.p c.index_mut-slot.result.now l c.index_mut-slot.ensures.value in
    rw (← c.self.view_is) (c.in-Some.ensures.value ∙ ap (λ (k : Slot g.row.T.Denot). k.value) was ∙ sym (live_value c.self.inside.slots.items c.args.p l))

pub returns-clause-updates : goal.returns-clause-updates
returns-clause-updates g c =
    let l : Live c.self.inside.slots.items c.args.p = live_slot c.self.inside.slots.items c.args.p (rw c.self.view_is c.requires) in
    let was : c.index_mut-slot.result.now ≡ slot_at c.self.inside.slots.items c.args.p.slot = lent_slot c.self.inside.slots.items c.args.p c.index_mut-slot.result.now l c.index_mut-slot.ensures.value in
    rw (← c.self.view_is) (erased_updates c.self.inside.slots.items c.args.p _ l c.take.ensures.after (ap (λ (k : Slot g.row.T.Denot). k.version) was ∙ l.version))

pub returns-clause-slot : goal.returns-clause-slot
returns-clause-slot g c =
    let l : Live c.self.inside.slots.items c.args.p = live_slot c.self.inside.slots.items c.args.p (rw c.self.view_is c.requires) in
    rw (← c.self.view_is) (cleared_slot c.self.inside.slots.items c.args.p.slot _ l.within l.used c.take.ensures.after)

pub returns-clause-spent_now : goal.returns-clause-spent_now
returns-clause-spent_now g c =
    let l : Live c.self.inside.slots.items c.args.p = live_slot c.self.inside.slots.items c.args.p (rw c.self.view_is c.requires) in
    let was : c.index_mut-slot.result.now ≡ slot_at c.self.inside.slots.items c.args.p.slot = lent_slot c.self.inside.slots.items c.args.p c.index_mut-slot.result.now l c.index_mut-slot.ensures.value in
    erased_spent c.self.inside.slots.items c.args.p _ l c.take.ensures.after (ap (λ (k : Slot g.row.T.Denot). k.version) was ∙ l.version)
