-- What writing a slot makes of the pointers and of the vacant slots.
use Rattle.std.proofs.Common.{◌≡◌, ℕ, ◌<◌, ◌≤◌, ◌-◌, ◌^◌, ⊎_elim, Bool, true, false, cond, eqb, List, [], ◌∷◌, ◌++◌, length, Option, Some, None, IsSome, refl, sym, ap, subst, ◌∙◌, arith, set, get_or, zero, suc, length-append}
use Rattle.std.specs.List.{list_any}
use Rattle.std.proofs.lemmas.List.{length-set, get_or-set_same, get_or-set_other, get_or_append_left, get_or-append_right, get_or_past, get_or_default}
use Rattle.std.proofs.lemmas.Bool.{eqb-true, eqb-false, eq-eqb, ne_eqb, or_parts, or_from, cases_Bool, cases_eq, cases_order, cases_lt}
use Rattle.ir_arena.specs.declared.arena.Key.{Key}
use Rattle.ir_arena.specs.declared.arena.Slot.{Slot}
use Rattle.ir_arena.specs.Arena.{held, SetsSlot, ClearsSlot, no_slot, slot_at, value_at, get, same, Updates, IsSpent, KeepsSpent, IsFreeFrom, HasFreeList}

module _ {T : Type 0} where
  none_is_not_some : (o : Option T) → o ≡ None → IsSome o → ⊥
  none_is_not_some None e s = cc
  none_is_not_some (Some v) e s = cc

  -- the first vacant slot
  pub record IsFirst (slots : List (Slot T)) (x : ℕ) : Type 0 where
    pub within : x < length slots
    pub empty : (slot_at slots x).value ≡ None
    pub left : (slot_at slots x).version < 2 ^ 64 - 1
    pub rest : List ℕ
    pub apart : list_any (eqb x) rest ≡ false
    pub chain : IsFreeFrom slots (slot_at slots x).next rest

  pub first_free : (slots : List (Slot T)) (o : Option ℕ) (x : ℕ) → HasFreeList slots o → o ≡ Some x → IsFirst slots x
  first_free slots o x sound is = from_chain sound.vacant sound.chain where
    from_chain : (xs : List ℕ) → IsFreeFrom slots o xs → IsFirst slots x
    from_chain [] e = let two : None ≡ Some x = sym e ∙ is in cc
    from_chain (y ∷ ys) c =
        let i : y ≡ x = let two : Some y ≡ Some x = sym c.0 ∙ is in cc in
        let all : IsFirst slots y = record { within = c.1; empty = c.2; left = c.3; rest = ys; apart = c.4; chain = c.5 } in
        subst (λ (k : ℕ). IsFirst slots k) i all

  pub free_kept : (slots : List (Slot T)) (i : ℕ) (s : Slot T) (o : Option ℕ) (xs : List ℕ) → list_any (eqb i) xs ≡ false → IsFreeFrom slots o xs → IsFreeFrom (set slots i s) o xs
  free_kept slots i s o [] n c = c
  free_kept slots i s o (x ∷ xs) n c =
      let apart : (eqb i x ≡ false) × (list_any (eqb i) xs ≡ false) = or_parts _ _ n in
      let kept : slot_at (set slots i s) x ≡ slot_at slots x = get_or-set_other slots i x s no_slot (λ e. eqb-false i x apart.0 (sym e)) in
      let rest : IsFreeFrom (set slots i s) (slot_at slots x).next xs = free_kept slots i s (slot_at slots x).next xs apart.1 c.5 in
      (c.0, rw length-set c.1, ap (λ (k : Slot T). k.value) kept ∙ c.2, rw kept c.3, c.4, rw kept rest)

  pub not_free : (slots : List (Slot T)) (o : Option ℕ) (xs : List ℕ) (i : ℕ) → IsFreeFrom slots o xs → IsSome (slot_at slots i).value → list_any (eqb i) xs ≡ false
  not_free slots o [] i c s = refl
  not_free slots o (x ∷ xs) i c s = or_from _ _
      (ne_eqb i x (λ e. none_is_not_some (slot_at slots i).value (rw e c.2) s))
      (not_free slots (slot_at slots x).next xs i c.5 s)

  -- the vacant slot that was read is put to use
  pub sound_used : (slots : List (Slot T)) (o : Option ℕ) (x : ℕ) (was s : Slot T) → HasFreeList slots o → o ≡ Some x → was ≡ get_or slots x was → HasFreeList (set slots x s) was.next
  sound_used slots o x was s sound is read =
      let f : IsFirst slots x = first_free slots o x sound is in
      let at : was ≡ slot_at slots x = read ∙ get_or_default slots x was no_slot f.within in
      record { vacant = f.rest; chain = rw at (free_kept slots x s (slot_at slots x).next f.rest f.apart f.chain) }

  -- a slot in use is given back
  pub sound_back : (slots : List (Slot T)) (o : Option ℕ) (x : ℕ) (s : Slot T) → HasFreeList slots o → x < length slots → IsSome (slot_at slots x).value → s.version < 2 ^ 64 - 1 → s.next ≡ o → s.value ≡ None → HasFreeList (set slots x s) (Some x)
  sound_back slots o x s sound lt used left next gone =
      let no : list_any (eqb x) sound.vacant ≡ false = not_free slots o sound.vacant x sound.chain used in
      let here : slot_at (set slots x s) x ≡ s = get_or-set_same slots x s no_slot lt in
      record {
        vacant = x ∷ sound.vacant;
        chain = (refl, rw length-set lt, ap (λ (k : Slot T). k.value) here ∙ gone, rw here left, no, rw (here, next) (free_kept slots x s o sound.vacant no sound.chain));
      }

  value_none : (s : Slot T) (v : ℕ) → s.value ≡ None → value_at s v ≡ None
  value_none s v e = elim (eqb s.version v) as (λ b. cond b s.value None ≡ None) [ true ↦ e | false ↦ refl ]

  pub used_updates : (slots : List (Slot T)) (x : ℕ) (s : Slot T) (p : Key) (w : Option T) → x < length slots → (slot_at slots x).value ≡ None → p.slot ≡ x → p.version ≡ s.version → s.value ≡ w → Updates slots (set slots x s) p w
  used_updates slots x s p w lt empty ps pv sv q = ⊎_elim
      (λ e.
      let here : slot_at (set slots x s) q.slot ≡ s = rw e (get_or-set_same slots x s no_slot lt) in
      let is : eqb p.slot q.slot ≡ true = eq-eqb p.slot q.slot (ps ∙ sym e) in
      let old : get slots q ≡ None = value_none (slot_at slots q.slot) q.version (rw e empty) in
      rw (here, is, old, pv, sv) refl)
      (λ ne.
      let is : eqb p.slot q.slot ≡ false = ne_eqb p.slot q.slot (λ e. ne (sym e ∙ ps)) in
      rw (is, get_or-set_other slots x q.slot s no_slot ne) refl)
      (cases_eq q.slot x)

  past_end : (s : Slot T) (k : ℕ) → 0 < k → slot_at (s ∷ []) k ≡ no_slot
  past_end s zero h = absurd (omega arith)
  past_end s (suc k) h = refl

  last_is : (slots : List (Slot T)) (s : Slot T) → slot_at (slots ++ s ∷ []) (length slots) ≡ s
  last_is [] s = refl
  last_is (t ∷ slots) s = last_is slots s

  pub pushed_updates : (slots : List (Slot T)) (s : Slot T) (p : Key) (w : Option T) → p.slot ≡ length slots → p.version ≡ s.version → s.value ≡ w → Updates slots (slots ++ s ∷ []) p w
  pushed_updates slots s p w ps pv sv q = ⊎_elim
      (λ e.
      let here : slot_at (slots ++ s ∷ []) q.slot ≡ s = rw e (last_is slots s) in
      let is : eqb p.slot q.slot ≡ true = eq-eqb p.slot q.slot (ps ∙ sym e) in
      let old : get slots q ≡ None = value_none (slot_at slots q.slot) q.version (rw (get_or_past slots q.slot no_slot (omega arith)) refl) in
      rw (here, is, old, pv, sv) refl)
      (λ ne.
      let is : eqb p.slot q.slot ≡ false = ne_eqb p.slot q.slot (⊎_elim (λ l e. omega arith) (λ l e. omega arith) ne) in
      let kept : slot_at (slots ++ s ∷ []) q.slot ≡ slot_at slots q.slot = ⊎_elim
      (λ l. get_or_append_left slots (s ∷ []) no_slot q.slot l)
      (λ l. get_or-append_right slots (s ∷ []) (length slots) q.slot no_slot refl (omega arith) ∙ past_end s (q.slot - length slots) (omega arith) ∙ sym (get_or_past slots q.slot no_slot (omega arith)))
      ne in
      rw (is, kept) refl)
      (cases_order q.slot (length slots))

  -- a write that lowers no version keeps spent pointers spent
  pub spent_kept : (slots : List (Slot T)) (x : ℕ) (s : Slot T) (p : Key) (w : Option T) → x < length slots → Updates slots (set slots x s) p w → (slot_at slots x).version ≤ s.version → ((q : Key) → IsSpent slots q → cond (same p q) w None ≡ None) → KeepsSpent slots (set slots x s)
  spent_kept slots x s p w lt updates more none q spent = record {
    slot = rw length-set spent.slot;
    version = ⊎_elim
        (λ e.
        let here : slot_at (set slots x s) q.slot ≡ s = rw e (get_or-set_same slots x s no_slot lt) in
        let was : q.version ≤ (slot_at slots x).version = rw e at spent.version in
        rw here (omega arith))
        (λ ne. rw (get_or-set_other slots x q.slot s no_slot ne) spent.version)
        (cases_eq q.slot x);
    gone = updates q ∙ rw spent.gone (none q spent);
  }

  -- at a version above all those given out
  pub newer_not_spent : (slots : List (Slot T)) (p : Key) (w : Option T) → (slot_at slots p.slot).version < p.version → (q : Key) → IsSpent slots q → cond (same p q) w None ≡ None
  newer_not_spent slots p w more q spent = ⊎_elim
      (λ e.
      let no : eqb p.version q.version ≡ false = ne_eqb p.version q.version (λ v. let is : q.version ≤ (slot_at slots p.slot).version = rw (← e) at spent.version in omega arith) in
      rw (eq-eqb p.slot q.slot e, no) refl)
      (λ ne. rw (ne_eqb p.slot q.slot ne) refl)
      (cases_eq p.slot q.slot)

  pub newer_unspent : (slots : List (Slot T)) (p : Key) → (slot_at slots p.slot).version < p.version → IsSpent slots p → ⊥
  newer_unspent slots p more spent = omega (arith, more, spent.version)

  pub empty_nothing : (slots : List (Slot T)) (p : Key) → (slot_at slots p.slot).value ≡ None → get slots p ≡ None
  empty_nothing slots p empty = value_none (slot_at slots p.slot) p.version empty

  pub past_nothing : (slots : List (Slot T)) (p : Key) → length slots ≤ p.slot → get slots p ≡ None
  past_nothing slots p past = empty_nothing slots p (rw (get_or_past slots p.slot no_slot past) refl)

  pub past_unspent : (slots : List (Slot T)) (p : Key) → length slots ≤ p.slot → IsSpent slots p → ⊥
  past_unspent slots p past spent = omega (arith, past, spent.slot)

  pub pushed_keeps : (slots : List (Slot T)) (s : Slot T) → KeepsSpent slots (slots ++ s ∷ [])
  pushed_keeps slots s q spent =
      let kept : slot_at (slots ++ s ∷ []) q.slot ≡ slot_at slots q.slot = get_or_append_left slots (s ∷ []) no_slot q.slot spent.slot in
      record {
        slot = rw length-append (omega (arith, spent.slot));
        version = rw kept spent.version;
        gone = rw kept spent.gone;
      }

  pub cond_none : (b : Bool) → cond {A = Option T} b None None ≡ None
  cond_none true = refl
  cond_none false = refl

  fall : (b : Bool) (o : Option T) → (b ≡ false → o ≡ None) → cond b None o ≡ None
  fall true o h = refl
  fall false o h = h refl

  other_version : (s : Slot T) (v : ℕ) → eqb s.version v ≡ false → value_at s v ≡ None
  other_version s v h = rw h refl

  -- the slot of a live pointer
  pub record Live (slots : List (Slot T)) (p : Key) : Type 0 where
    pub within : p.slot < length slots
    pub version : (slot_at slots p.slot).version ≡ p.version
    pub used : IsSome (slot_at slots p.slot).value

  pub live_slot : (slots : List (Slot T)) (p : Key) → IsSome (get slots p) → Live slots p
  live_slot slots p s =
      let v : eqb (slot_at slots p.slot).version p.version ≡ true = ⊎_elim (λ t. t) (λ f. absurd (none_is_not_some (get slots p) (rw f refl) s)) (cases_Bool (eqb (slot_at slots p.slot).version p.version)) in
      record {
        within = ⊎_elim (λ l. l) (λ l. absurd (none_is_not_some (get slots p) (value_none (slot_at slots p.slot) p.version (rw (get_or_past slots p.slot no_slot l) refl)) s)) (cases_lt p.slot (length slots));
        version = eqb-true (slot_at slots p.slot).version p.version v;
        used = rw v at s;
      }

  pub erased_updates : (slots : List (Slot T)) (p : Key) (s : Slot T) → Live slots p → s.value ≡ None → s.version ≡ p.version → Updates slots (set slots p.slot s) p None
  erased_updates slots p s live gone version q = ⊎_elim
      (λ e.
      let here : slot_at (set slots p.slot s) q.slot ≡ s = rw e (get_or-set_same slots p.slot s no_slot live.within) in
      let none : get (set slots p.slot s) q ≡ None = value_none (slot_at (set slots p.slot s) q.slot) q.version (ap (λ (k : Slot T). k.value) here ∙ gone) in
      let is : eqb p.slot q.slot ≡ true = eq-eqb p.slot q.slot (sym e) in
      none ∙ sym (rw is (fall (eqb p.version q.version) (get slots q) (λ f.
      let v : eqb (slot_at slots q.slot).version q.version ≡ false = rw (e, live.version) f in
      other_version (slot_at slots q.slot) q.version v))))
      (λ ne.
      let is : eqb p.slot q.slot ≡ false = ne_eqb p.slot q.slot (λ e. ne (sym e)) in
      rw (is, get_or-set_other slots p.slot q.slot s no_slot ne) refl)
      (cases_eq q.slot p.slot)

  -- the slot that was lent at a live pointer
  pub lent_slot : (slots : List (Slot T)) (p : Key) (s : Slot T) → Live slots p → s ≡ get_or slots p.slot s → s ≡ slot_at slots p.slot
  lent_slot slots p s live read = read ∙ get_or_default slots p.slot s no_slot live.within

  pub live_value : (slots : List (Slot T)) (p : Key) → Live slots p → get slots p ≡ (slot_at slots p.slot).value
  live_value slots p live = rw (eq-eqb (slot_at slots p.slot).version p.version live.version) refl

  pub erased_spent : (slots : List (Slot T)) (p : Key) (s : Slot T) → Live slots p → s.value ≡ None → s.version ≡ p.version → IsSpent (set slots p.slot s) p
  erased_spent slots p s live gone version =
      let here : slot_at (set slots p.slot s) p.slot ≡ s = get_or-set_same slots p.slot s no_slot live.within in
      record {
        slot = rw length-set live.within;
        version = rw here (omega (arith, version));
        gone = value_none (slot_at (set slots p.slot s) p.slot) p.version (rw here gone);
      }

  -- what was spent stays so where a live pointer's slot loses its value
  pub erased_keeps : (slots : List (Slot T)) (p : Key) (s : Slot T) → Live slots p → s.value ≡ None → s.version ≡ (slot_at slots p.slot).version → KeepsSpent slots (set slots p.slot s)
  erased_keeps slots p s live gone version = spent_kept slots p.slot s p None live.within
      (erased_updates slots p s live gone (version ∙ live.version))
      (omega (arith, version))
      (λ q _. cond_none _)

  pub used_slot : (slots : List (Slot T)) (x : ℕ) (s : Slot T) (value : T) → x < length slots → (slot_at slots x).value ≡ None → s.value ≡ Some value → SetsSlot slots (set slots x s) x value
  used_slot slots x s value lt empty sv = record {
    within = rw length-set lt;
    vacant = empty;
    set = ap (λ (k : Slot T). k.value) (get_or-set_same slots x s no_slot lt) ∙ sv;
    others = λ i ne. get_or-set_other slots x i s no_slot ne;
  }

  pub pushed_slot : (slots : List (Slot T)) (s : Slot T) (value : T) → s.value ≡ Some value → SetsSlot slots (slots ++ s ∷ []) (length slots) value
  pushed_slot slots s value sv = record {
    within = rw length-append (omega arith);
    vacant = ap (λ (k : Slot T). k.value) (get_or_past slots (length slots) no_slot (omega arith));
    set = ap (λ (k : Slot T). k.value) (last_is slots s) ∙ sv;
    others = λ i ne. ⊎_elim
        (λ l. get_or_append_left slots (s ∷ []) no_slot i l)
        (λ l. get_or-append_right slots (s ∷ []) (length slots) i no_slot refl l ∙ past_end s (i - length slots) (let more : length slots < i = ⊎_elim (λ m. m) (λ m. absurd (ne (omega arith))) (cases_lt (length slots) i) in omega arith) ∙ sym (get_or_past slots i no_slot l))
        (cases_lt i (length slots));
  }

  pub cleared_slot : (slots : List (Slot T)) (x : ℕ) (s : Slot T) → x < length slots → IsSome (held slots x) → s.value ≡ None → ClearsSlot slots (set slots x s) x
  cleared_slot slots x s lt used sv = record {
    used = used;
    count = length-set slots x s;
    cleared = ap (λ (k : Slot T). k.value) (get_or-set_same slots x s no_slot lt) ∙ sv;
    others = λ i ne. get_or-set_other slots x i s no_slot ne;
  }

  -- a slot in use gets another value
  pub sound_lent : (slots : List (Slot T)) (o : Option ℕ) (x : ℕ) (s : Slot T) → HasFreeList slots o → IsSome (slot_at slots x).value → HasFreeList (set slots x s) o
  sound_lent slots o x s sound used = record {
    vacant = sound.vacant;
    chain = free_kept slots x s o sound.vacant (not_free slots o sound.vacant x sound.chain used) sound.chain;
  }
