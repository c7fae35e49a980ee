use Rattle.std.proofs.Common.{◌≡◌, ◌<◌, ◌+◌, ◌-◌, ◌^◌, ◌∙◌, Some, None, refl, length, length-append, arith, ap}
use Rattle.std.proofs.lemmas.List.{get_or_default, length-set}
use Rattle.ir_arena.specs.declared.arena.Slot.{Slot}
use Rattle.ir_arena.specs.Arena.{slot_at, no_slot}
use Rattle.ir_arena.proofs.Slots.{IsFirst, first_free, sound_used, pushed_updates, pushed_slot, used_slot, used_updates, spent_kept, newer_not_spent, newer_unspent, empty_nothing, past_nothing, past_unspent, pushed_keeps}
use Rattle.ir_arena.proofs.arena.Arena.alloc.Goals as goal

pub index_mut-vacant-requires : goal.index_mut-vacant-requires
index_mut-vacant-requires g c =
    let h : c.in-Some.slot < length c.self.inside.slots.items = (first_free c.self.inside.slots.items c.self.inside.free c.in-Some.slot c.self.invariant c.in-Some.is).within in
    omega (arith, c.self.inside.slots.ok.0)

pub invariant_of-self-in-Some : goal.invariant_of-self-in-Some
invariant_of-self-in-Some g c = sound_used c.self.inside.slots.items c.self.inside.free c.in-Some.slot c.index_mut-vacant.result.now _ c.self.invariant c.in-Some.is c.index_mut-vacant.ensures.value

pub returns-in_ok-push-in-None-clause-updates : goal.returns-in_ok-push-in-None-clause-updates
returns-in_ok-push-in-None-clause-updates g c q =
    let at_end : c.len-slot.result ≡ length c.self.inside.slots.items = c.len-slot.ensures ∙ c.self.inside.slots.ok.0 in
    rw (c.in_ok-push-in-None.ensures.items, ← c.self.view_is)
    (pushed_updates c.self.inside.slots.items (record { version = 1; next = None; value = Some c.args.value }) (record { slot = c.len-slot.result; version = 1 }) (Some c.args.value) at_end refl refl q)

pub returns-in-Some-clause-updates : goal.returns-in-Some-clause-updates
returns-in-Some-clause-updates g c q =
    let f : IsFirst c.self.inside.slots.items c.in-Some.slot = first_free c.self.inside.slots.items c.self.inside.free c.in-Some.slot c.self.invariant c.in-Some.is in
    rw (← c.self.view_is)
    (used_updates c.self.inside.slots.items c.in-Some.slot _ (record { slot = c.in-Some.slot; version = c.index_mut-vacant.result.now.version + 1 }) (Some c.args.value) f.within f.empty refl refl refl q)

pub returns-in-Some-clause-spent : goal.returns-in-Some-clause-spent
returns-in-Some-clause-spent g c =
    let f : IsFirst c.self.inside.slots.items c.in-Some.slot = first_free c.self.inside.slots.items c.self.inside.free c.in-Some.slot c.self.invariant c.in-Some.is in
    let was : c.index_mut-vacant.result.now ≡ slot_at c.self.inside.slots.items c.in-Some.slot = c.index_mut-vacant.ensures.value ∙ get_or_default c.self.inside.slots.items c.in-Some.slot c.index_mut-vacant.result.now no_slot f.within in
    let v : c.index_mut-vacant.result.now.version ≡ (slot_at c.self.inside.slots.items c.in-Some.slot).version = ap (λ (k : Slot g.row.T.Denot). k.version) was in
    rw (← c.self.view_is)
    (spent_kept c.self.inside.slots.items c.in-Some.slot _ (record { slot = c.in-Some.slot; version = c.index_mut-vacant.result.now.version + 1 }) (Some c.args.value) f.within
    (used_updates c.self.inside.slots.items c.in-Some.slot _ _ (Some c.args.value) f.within f.empty refl refl refl)
    (omega arith)
    (newer_not_spent c.self.inside.slots.items _ (Some c.args.value) (omega arith)))

pub returns-in_ok-push-in-None-clause-slot : goal.returns-in_ok-push-in-None-clause-slot
returns-in_ok-push-in-None-clause-slot g c =
    let at_end : c.len-slot.result ≡ length c.self.inside.slots.items = c.len-slot.ensures ∙ c.self.inside.slots.ok.0 in
    rw (c.in_ok-push-in-None.ensures.items, ← c.self.view_is, at_end) (pushed_slot c.self.inside.slots.items _ c.args.value refl)

pub returns-in-Some-clause-slot : goal.returns-in-Some-clause-slot
returns-in-Some-clause-slot g c =
    let f : IsFirst c.self.inside.slots.items c.in-Some.slot = first_free c.self.inside.slots.items c.self.inside.free c.in-Some.slot c.self.invariant c.in-Some.is in
    rw (← c.self.view_is) (used_slot c.self.inside.slots.items c.in-Some.slot _ c.args.value f.within f.empty refl)

pub overflow_add-version : goal.overflow_add-version
overflow_add-version g c =
    let f : IsFirst c.self.inside.slots.items c.in-Some.slot = first_free c.self.inside.slots.items c.self.inside.free c.in-Some.slot c.self.invariant c.in-Some.is in
    let was : c.index_mut-vacant.result.now ≡ slot_at c.self.inside.slots.items c.in-Some.slot = c.index_mut-vacant.ensures.value ∙ get_or_default c.self.inside.slots.items c.in-Some.slot c.index_mut-vacant.result.now no_slot f.within in
    let left : c.index_mut-vacant.result.now.version < 2 ^ 64 - 1 = rw was f.left in
    omega (arith, left)

pub returns-in_ok-push-in-None-clause-fresh : goal.returns-in_ok-push-in-None-clause-fresh
returns-in_ok-push-in-None-clause-fresh g c =
    let at_end : c.len-slot.result ≡ length c.self.inside.slots.items = c.len-slot.ensures ∙ c.self.inside.slots.ok.0 in
    rw (← c.self.view_is) (past_nothing c.self.inside.slots.items (record { slot = c.len-slot.result; version = 1 }) (omega (arith, at_end)))

pub returns-in_ok-push-in-None-clause-unspent : goal.returns-in_ok-push-in-None-clause-unspent
returns-in_ok-push-in-None-clause-unspent g c =
    let at_end : c.len-slot.result ≡ length c.self.inside.slots.items = c.len-slot.ensures ∙ c.self.inside.slots.ok.0 in
    rw (← c.self.view_is) (past_unspent c.self.inside.slots.items (record { slot = c.len-slot.result; version = 1 }) (omega (arith, at_end)))

pub returns-in_ok-push-in-None-clause-grows : goal.returns-in_ok-push-in-None-clause-grows
returns-in_ok-push-in-None-clause-grows g c =
    rw (c.in_ok-push-in-None.ensures.items, ← c.self.view_is, length-append) (omega arith)

pub returns-in_ok-push-in-None-clause-by_one : goal.returns-in_ok-push-in-None-clause-by_one
returns-in_ok-push-in-None-clause-by_one g c =
    rw (c.in_ok-push-in-None.ensures.items, ← c.self.view_is, length-append) (omega arith)

pub returns-in_ok-push-in-None-clause-spent : goal.returns-in_ok-push-in-None-clause-spent
returns-in_ok-push-in-None-clause-spent g c =
    rw (c.in_ok-push-in-None.ensures.items, ← c.self.view_is) (pushed_keeps c.self.inside.slots.items _)

pub returns-in-Some-clause-fresh : goal.returns-in-Some-clause-fresh
returns-in-Some-clause-fresh g c =
    let f : IsFirst c.self.inside.slots.items c.in-Some.slot = first_free c.self.inside.slots.items c.self.inside.free c.in-Some.slot c.self.invariant c.in-Some.is in
    rw (← c.self.view_is) (empty_nothing c.self.inside.slots.items (record { slot = c.in-Some.slot; version = c.index_mut-vacant.result.now.version + 1 }) f.empty)

pub returns-in-Some-clause-unspent : goal.returns-in-Some-clause-unspent
returns-in-Some-clause-unspent g c =
    let f : IsFirst c.self.inside.slots.items c.in-Some.slot = first_free c.self.inside.slots.items c.self.inside.free c.in-Some.slot c.self.invariant c.in-Some.is in
    let was : c.index_mut-vacant.result.now ≡ slot_at c.self.inside.slots.items c.in-Some.slot = c.index_mut-vacant.ensures.value ∙ get_or_default c.self.inside.slots.items c.in-Some.slot c.index_mut-vacant.result.now no_slot f.within in
    let v : c.index_mut-vacant.result.now.version ≡ (slot_at c.self.inside.slots.items c.in-Some.slot).version = ap (λ (k : Slot g.row.T.Denot). k.version) was in
    rw (← c.self.view_is) (newer_unspent c.self.inside.slots.items (record { slot = c.in-Some.slot; version = c.index_mut-vacant.result.now.version + 1 }) (omega (arith, v)))

pub returns-in-Some-clause-grows : goal.returns-in-Some-clause-grows
returns-in-Some-clause-grows g c =
    rw (length-set, ← c.self.view_is) (omega arith)

pub returns-in-Some-clause-by_one : goal.returns-in-Some-clause-by_one
returns-in-Some-clause-by_one g c =
    rw (length-set, ← c.self.view_is) (omega arith)
