use Rattle.std.proofs.Common.{◌≡◌, ◌∙◌, IsSome, refl, sym, ap, subst, set, arith}
use Rattle.ir_arena.specs.declared.arena.Slot.{Slot}
use Rattle.ir_arena.specs.Arena.{slot_at}
use Rattle.ir_arena.specs.Lends.{with_slot_value}
use Rattle.ir_arena.proofs.Slots.{sound_lent, live_slot, lent_slot, live_value, Live}
use Rattle.ir_arena.proofs.arena.Arena.deref_mut.Goals as goal

pub index_mut-requires : goal.index_mut-requires
index_mut-requires g c =
    let l : Live c.self.inside.slots.items c.args.p = live_slot c.self.inside.slots.items c.args.p (rw c.self.view_is c.requires) in
    omega (arith, l.within, c.self.inside.slots.ok.0)

pub value_mut-requires : goal.value_mut-requires
value_mut-requires g c =
    let l : Live c.self.inside.slots.items c.args.p = live_slot c.self.inside.slots.items c.args.p (rw c.self.view_is c.requires) in
    let was : c.index_mut.result.now ≡ slot_at c.self.inside.slots.items c.args.p.slot = lent_slot c.self.inside.slots.items c.args.p c.index_mut.result.now l c.index_mut.ensures.value in
    subst (λ (k : Slot g.row.T.Denot). IsSome k.value) (sym was) l.used

pub invariant_of-self-lent : goal.invariant_of-self-lent
invariant_of-self-lent g c w =
    let l : Live c.self.inside.slots.items c.args.p = live_slot c.self.inside.slots.items c.args.p (rw c.self.view_is c.requires) in
    sound_lent c.self.inside.slots.items c.self.inside.free c.args.p.slot (with_slot_value c.index_mut.result.now w) c.self.invariant l.used

pub returns : goal.returns
returns g c =
    let l : Live c.self.inside.slots.items c.args.p = live_slot c.self.inside.slots.items c.args.p (rw c.self.view_is c.requires) in
    let was : c.index_mut.result.now ≡ slot_at c.self.inside.slots.items c.args.p.slot = lent_slot c.self.inside.slots.items c.args.p c.index_mut.result.now l c.index_mut.ensures.value in
    rw (← c.self.view_is) (
      (refl, λ w. ap (λ (k : Slot g.row.T.Denot). set c.self.inside.slots.items c.args.p.slot (with_slot_value k w)) was),
      record {
        lends = tt;
        value = live_value c.self.inside.slots.items c.args.p l ∙ sym (ap (λ (k : Slot g.row.T.Denot). k.value) was) ∙ c.value_mut.ensures.value;
      },
    )
