-- What an arena is once the value at a key is another.
use Rattle.std.proofs.Common.{◌≡◌, ◌≢◌, ℕ, ◌≤◌, ⊎_elim, true, false, cond, eqb, List, Option, Some, None, IsSome, refl, sym, ap, ◌∙◌, subst}
use Rattle.std.proofs.lemmas.List.{length-set, get_or-set_same, get_or-set_other}
use Rattle.std.proofs.lemmas.Bool.{eq-eqb, ne_eqb, cases_eq}
use Rattle.ir_arena.specs.declared.arena.Key.{Key}
use Rattle.ir_arena.specs.declared.arena.Slot.{Slot}
use Rattle.ir_arena.specs.Arena.{get, held, no_slot, slot_at, KeepsSpent}
use Rattle.ir_entities.specs.Forest.{pointer_to}
use Rattle.ir_arena.specs.Lends.{with_value, with_slot_value}
use Rattle.ir_arena.proofs.Slots.{Live, live_slot}

pub some_is : {T : Type 0} (o : Option T) (v : T) → o ≡ Some v → IsSome o
some_is o v e = rw e refl

-- keys with the same slot and version are the same
pub same_key : (p q : Key) → p.slot ≡ q.slot → p.version ≡ q.version → p ≡ q
same_key p q s v = rw (s, v) refl

module _ {T : Type 0} (slots : List (Slot T)) (k : Key) (v w : T) (here : get slots k ≡ Some v) where
  is_live : Live slots k
  is_live = live_slot slots k (some_is (get slots k) v here)

  -- the slot of the key
  pub slot-lent : slot_at (with_value slots k w) k.slot ≡ with_slot_value (slot_at slots k.slot) w
  slot-lent = get_or-set_same slots k.slot (with_slot_value (slot_at slots k.slot) w) no_slot is_live.within

  pub slot-lent_other : (i : ℕ) → i ≢ k.slot → slot_at (with_value slots k w) i ≡ slot_at slots i
  slot-lent_other i ne = get_or-set_other slots k.slot i (with_slot_value (slot_at slots k.slot) w) no_slot ne

  pub held-was : held slots k.slot ≡ Some v
  held-was = let e : eqb (slot_at slots k.slot).version k.version ≡ true = eq-eqb (slot_at slots k.slot).version k.version is_live.version in
      subst (λ b. cond b (slot_at slots k.slot).value None ≡ Some v) e here

  pub held-lent : held (with_value slots k w) k.slot ≡ Some w
  held-lent = ap (λ (s : Slot T). s.value) slot-lent

  pub held-lent_other : (i : ℕ) → i ≢ k.slot → held (with_value slots k w) i ≡ held slots i
  held-lent_other i ne = ap (λ (s : Slot T). s.value) (slot-lent_other i ne)

  pub version-lent : (i : ℕ) → (slot_at (with_value slots k w) i).version ≡ (slot_at slots i).version
  version-lent i = ⊎_elim
      (λ (e : i ≡ k.slot). subst (λ j. (slot_at (with_value slots k w) j).version ≡ (slot_at slots j).version) (sym e) (ap (λ (s : Slot T). s.version) slot-lent))
      (λ ne. ap (λ (s : Slot T). s.version) (slot-lent_other i ne))
      (cases_eq i k.slot)

  pub pointer-lent : (i : ℕ) → pointer_to (with_value slots k w) i ≡ pointer_to slots i
  pointer-lent i = ap (λ n. record { slot = i; version = n }) (version-lent i)

  pub get-lent : get (with_value slots k w) k ≡ Some w
  get-lent = let e : eqb (slot_at (with_value slots k w) k.slot).version k.version ≡ true = eq-eqb (slot_at (with_value slots k w) k.slot).version k.version (version-lent k.slot ∙ is_live.version) in
      rw e held-lent

  pub get-lent_other : (q : Key) → q ≢ k → get (with_value slots k w) q ≡ get slots q
  get-lent_other q ne = ⊎_elim
      (λ (e : q.slot ≡ k.slot).
      let nv : q.version ≢ k.version = λ h. ne (same_key q k e h) in
      let was : (slot_at slots q.slot).version ≡ k.version = subst (λ j. (slot_at slots j).version ≡ k.version) (sym e) is_live.version in
      let f : eqb (slot_at slots q.slot).version q.version ≡ false = ne_eqb _ _ (λ h. nv (sym h ∙ was)) in
      let g : eqb (slot_at (with_value slots k w) q.slot).version q.version ≡ false = ne_eqb _ _ (λ h. nv (sym h ∙ version-lent q.slot ∙ was)) in
      rw (f, g) refl)
      (λ n. ap (λ (s : Slot T). cond (eqb s.version q.version) s.value None) (slot-lent_other q.slot n))
      (cases_eq q.slot k.slot)

  pub live-lent : (q : Key) → IsSome (get (with_value slots k w) q) → IsSome (get slots q)
  live-lent q h = ⊎_elim
      (λ (e : q.slot ≡ k.slot). ⊎_elim (λ (f : q.version ≡ k.version). subst (λ x. IsSome (get slots x)) (sym (same_key q k e f)) (some_is _ v here)) (λ nv. subst IsSome (get-lent_other q (λ h. nv (ap (λ (x : Key). x.version) h))) h) (cases_eq q.version k.version))
      (λ n. subst IsSome (get-lent_other q (λ h. n (ap (λ (x : Key). x.slot) h))) h)
      (cases_eq q.slot k.slot)

  pub spent-lent : KeepsSpent slots (with_value slots k w)
  spent-lent q s = record {
    slot = rw length-set s.slot;
    version = subst (λ n. q.version ≤ n) (sym (version-lent q.slot)) s.version;
    gone = get-lent_other q (λ e. let n : get slots k ≡ None = subst (λ x. get slots x ≡ None) e s.gone in let u : None ≡ Some v = sym n ∙ here in cc) ∙ s.gone;
  }
