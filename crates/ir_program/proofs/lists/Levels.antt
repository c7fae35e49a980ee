-- What stands in what at one level, such as operations in blocks: by slots, and by handles.
use Rattle.std.proofs.Common.{◌≡◌, ℕ, zero, suc, ◌+◌, ◌-◌, add-one, ◌⊎◌, inl, inr, ⊎_elim, true, false, List, [], ◌∷◌, map, length, Option, Some, None, IsSome, IfSome, option_map, slice_get, refl, sym, ap, subst, ◌∙◌}
use Rattle.std.proofs.lemmas.Bool.{cases_Bool}
use Rattle.std.proofs.lemmas.List.{length-map}
use Rattle.std.proofs.lemmas.Option.{slice_get-map}
use Rattle.ir_arena.specs.declared.arena.Slot.{Slot}
use Rattle.ir_arena.specs.Arena.{get, held}
use Rattle.ir_entities.specs.Links.{has, list_at, next_in, prev_in, first_or, last_or, AreDistinctNumbers, AreApart, IsLinked, IsUnlinked}
use Rattle.ir_program.specs.declared.handles.Ptr.{Ptr}
use Rattle.ir_program.proofs.lists.Slotted.{of_slot, pointer_live, one_handle, at_slot, at_handle, at_has, has_at, once_at, first_at, last_at, next_at, prev_at, prev_first}

-- a number stands in some list or in none
pub linked_or_not : (ls : List (List ℕ)) (i : ℕ) → IsLinked ls i ⊎ IsUnlinked ls i
linked_or_not [] i = inr (λ c. refl)
linked_or_not (l ∷ ls) i = ⊎_elim
    (λ t. inl (zero, t))
    (λ f. ⊎_elim
    (λ (r : IsLinked ls i). inl (suc r.0, r.1))
    (λ (r : IsUnlinked ls i). inr (λ c. unlinked_more f r c))
    (linked_or_not ls i))
    (cases_Bool (has i l))
  where
    unlinked_more : has i l ≡ false → IsUnlinked ls i → (c : ℕ) → has i (list_at (l ∷ ls) c) ≡ false
    unlinked_more f r zero = f
    unlinked_more f r (suc c) = r c

-- the lists of a level say which handles stand in which
pub record IsLevel {T C E F : Type 0} (slots : List (Slot T)) (containers : List (Slot C)) (lists : List (List ℕ)) (listed : Ptr F → List (Ptr E)) : Type 0 where
  pub some : (b : Ptr F) (k : ℕ) (p : Ptr E) → slice_get (listed b) k ≡ Some p → IsSome (get containers b.key)
  pub all : (b : Ptr F) → IsSome (get containers b.key) → listed b ≡ map (of_slot slots) (list_at lists b.key.slot)
  pub members : (c i : ℕ) → has i (list_at lists c) ≡ true → IsSome (held slots i)
  pub holders : (c i : ℕ) → has i (list_at lists c) ≡ true → IsSome (held containers c)
  pub apart : AreApart lists
  pub distinct : (c : ℕ) → AreDistinctNumbers (list_at lists c)

module _ {T C E F : Type 0} (slots : List (Slot T)) (containers : List (Slot C)) (lists : List (List ℕ)) (listed : Ptr F → List (Ptr E)) (level : IsLevel slots containers lists listed) where
  -- the slot at the same index
  pub slot_at_index : (b : Ptr F) (k : ℕ) (p : Ptr E) → slice_get (listed b) k ≡ Some p → slice_get (list_at lists b.key.slot) k ≡ Some p.key.slot
  slot_at_index b k p h = at_slot slots (list_at lists b.key.slot) k p (rw (level.all b (level.some b k p h)) at h)

  pub has_slot : (b : Ptr F) (k : ℕ) (p : Ptr E) → slice_get (listed b) k ≡ Some p → has p.key.slot (list_at lists b.key.slot) ≡ true
  has_slot b k p h = at_has (list_at lists b.key.slot) k p.key.slot (slot_at_index b k p h)

  -- what stands somewhere is there
  pub item_live : (b : Ptr F) (k : ℕ) (p : Ptr E) → slice_get (listed b) k ≡ Some p → IsSome (get slots p.key)
  item_live b k p h =
      let in_list : slice_get (map (of_slot slots) (list_at lists b.key.slot)) k ≡ Some p = rw (level.all b (level.some b k p h)) at h in
      let both : option_map (of_slot slots) (slice_get (list_at lists b.key.slot) k) ≡ Some p = sym (slice_get-map (of_slot slots) (list_at lists b.key.slot) k) ∙ in_list in
      let here : Some (of_slot slots p.key.slot) ≡ Some p = ap (option_map (of_slot slots)) (sym (slot_at_index b k p h)) ∙ both in
      let is : of_slot slots p.key.slot ≡ p = cc in
      subst (λ (q : Ptr E). IsSome (get slots q.key)) is (pointer_live slots p.key.slot (level.members b.key.slot p.key.slot (has_slot b k p h)))

  -- the handle at an index is that of the slot there
  pub handle_at_index : (b : Ptr F) (k : ℕ) → IsSome (get containers b.key) → option_map (of_slot slots) (slice_get (list_at lists b.key.slot) k) ≡ slice_get (listed b) k
  handle_at_index b k live = sym (slice_get-map (of_slot slots) (list_at lists b.key.slot) k) ∙ ap (λ xs. slice_get xs k) (sym (level.all b live))

  -- where a handle's slot stands, the handle does
  pub stands_at : (b : Ptr F) (k : ℕ) (p : Ptr E) → IsSome (get containers b.key) → IsSome (get slots p.key) → slice_get (list_at lists b.key.slot) k ≡ Some p.key.slot → slice_get (listed b) k ≡ Some p
  stands_at b k p live_b live_p h = rw (level.all b live_b) (at_handle slots (list_at lists b.key.slot) k p live_p h)

  pub holder_live : (c i : ℕ) → has i (list_at lists c) ≡ true → IsSome (get containers (of_slot {E = F} containers c).key)
  holder_live c i h = pointer_live containers c (level.holders c i h)

  pub stands_in : (c : ℕ) (p : Ptr E) → IsSome (get slots p.key) → has p.key.slot (list_at lists c) ≡ true → (k : ℕ) × (slice_get (listed (of_slot containers c)) k ≡ Some p)
  stands_in c p live h =
      let at : (k : ℕ) × (slice_get (list_at lists c) k ≡ Some p.key.slot) = has_at (list_at lists c) p.key.slot h in
      (at.0, stands_at (of_slot containers c) at.0 p (holder_live c p.key.slot h) live at.1)

  -- nothing stands in two, and nothing twice
  pub one_holder : (p : Ptr E) (a b : Ptr F) (j k : ℕ) → slice_get (listed a) j ≡ Some p → slice_get (listed b) k ≡ Some p → a ≡ b
  one_holder p a b j k g h = one_handle containers a b (level.some a j p g) (level.some b k p h) (level.apart p.key.slot a.key.slot b.key.slot (has_slot a j p g) (has_slot b k p h))

  pub one_index : (p : Ptr E) (a b : Ptr F) (j k : ℕ) → slice_get (listed a) j ≡ Some p → slice_get (listed b) k ≡ Some p → j ≡ k
  one_index p a b j k g h =
      let same : a ≡ b = one_holder p a b j k g h in
      once_at (list_at lists b.key.slot) j k p.key.slot (level.distinct b.key.slot) (slot_at_index b j p (subst (λ (z : Ptr F). slice_get (listed z) j ≡ Some p) same g)) (slot_at_index b k p h)

  -- what stands in no list by handles stands in none by slots
  pub unlinked_slot : (p : Ptr E) → IsSome (get slots p.key) → ((b : Ptr F) (k : ℕ) → slice_get (listed b) k ≡ Some p → ⊥) → IsUnlinked lists p.key.slot
  unlinked_slot p live nowhere c = ⊎_elim
      (λ t. let s : (k : ℕ) × (slice_get (listed (of_slot containers c)) k ≡ Some p) = stands_in c p live t in absurd (nowhere (of_slot containers c) s.0 s.1))
      (λ f. f)
      (cases_Bool (has p.key.slot (list_at lists c)))

  -- whatever is found at an index of a list is there
  pub held_at_index : (c k : ℕ) → IfSome (slice_get (list_at lists c) k) (λ i. IsSome (held slots i))
  held_at_index c k = found (slice_get (list_at lists c) k) (λ i e. level.members c i (at_has (list_at lists c) k i e)) where
    found : (o : Option ℕ) → ((i : ℕ) → o ≡ Some i → IsSome (held slots i)) → IfSome o (λ i. IsSome (held slots i))
    found None f = tt
    found (Some i) f = f i refl

  pub held_as : (o : Option ℕ) (c k : ℕ) → o ≡ slice_get (list_at lists c) k → IfSome o (λ i. IsSome (held slots i))
  held_as o c k e = subst (λ (z : Option ℕ). IfSome z (λ i. IsSome (held slots i))) (sym e) (held_at_index c k)

  -- what an answer by slots says by handles
  module _ (b : Ptr F) (live : IsSome (get containers b.key)) (o : Option ℕ) where
    pub first_held : o ≡ first_or None (list_at lists b.key.slot) → IfSome o (λ i. IsSome (held slots i))
    first_held e = held_as o b.key.slot 0 (e ∙ first_at (list_at lists b.key.slot))

    pub first_handle : o ≡ first_or None (list_at lists b.key.slot) → option_map (of_slot slots) o ≡ slice_get (listed b) 0
    first_handle e = ap (option_map (of_slot slots)) (e ∙ first_at (list_at lists b.key.slot)) ∙ handle_at_index b 0 live

    pub last_held : o ≡ last_or None (list_at lists b.key.slot) → IfSome o (λ i. IsSome (held slots i))
    last_held e = held_as o b.key.slot (length (list_at lists b.key.slot) - 1) (e ∙ last_at (list_at lists b.key.slot))

    pub last_handle : o ≡ last_or None (list_at lists b.key.slot) → option_map (of_slot slots) o ≡ slice_get (listed b) (length (listed b) - 1)
    last_handle e =
        let as_long : length (listed b) ≡ length (list_at lists b.key.slot) = ap length (level.all b live) ∙ length-map (list_at lists b.key.slot) (of_slot slots) in
        ap (option_map (of_slot slots)) (e ∙ last_at (list_at lists b.key.slot)) ∙ handle_at_index b (length (list_at lists b.key.slot) - 1) live ∙ ap (λ n. slice_get (listed b) (n - 1)) (sym as_long)

  module _ (p : Ptr E) (live : IsSome (get slots p.key)) (o : Option ℕ) where
    pub next_held : ((c : ℕ) → has p.key.slot (list_at lists c) ≡ true → o ≡ next_in p.key.slot (list_at lists c)) → (IsUnlinked lists p.key.slot → o ≡ None) → IfSome o (λ i. IsSome (held slots i))
    next_held next root = ⊎_elim
        (λ (l : IsLinked lists p.key.slot).
        let at : (k : ℕ) × (slice_get (list_at lists l.0) k ≡ Some p.key.slot) = has_at (list_at lists l.0) p.key.slot l.1 in
        held_as o l.0 (at.0 + 1) (next l.0 l.1 ∙ next_at (list_at lists l.0) at.0 p.key.slot (level.distinct l.0) at.1))
        (λ (u : IsUnlinked lists p.key.slot). subst (λ (z : Option ℕ). IfSome z (λ i. IsSome (held slots i))) (sym (root u)) tt)
        (linked_or_not lists p.key.slot)

    pub next_handle : ((c : ℕ) → has p.key.slot (list_at lists c) ≡ true → o ≡ next_in p.key.slot (list_at lists c)) → (b : Ptr F) (k : ℕ) → slice_get (listed b) k ≡ Some p → option_map (of_slot slots) o ≡ slice_get (listed b) (k + 1)
    next_handle next b k h = ap (option_map (of_slot slots)) (next b.key.slot (has_slot b k p h) ∙ next_at (list_at lists b.key.slot) k p.key.slot (level.distinct b.key.slot) (slot_at_index b k p h)) ∙ handle_at_index b (k + 1) (level.some b k p h)

    pub prev_held : ((c : ℕ) → has p.key.slot (list_at lists c) ≡ true → o ≡ prev_in p.key.slot (list_at lists c)) → (IsUnlinked lists p.key.slot → o ≡ None) → IfSome o (λ i. IsSome (held slots i))
    prev_held prev root = ⊎_elim
        (λ (l : IsLinked lists p.key.slot).
        let at : (k : ℕ) × (slice_get (list_at lists l.0) k ≡ Some p.key.slot) = has_at (list_at lists l.0) p.key.slot l.1 in
        before l at.0 at.1)
        (λ (u : IsUnlinked lists p.key.slot). none (root u))
        (linked_or_not lists p.key.slot)
      where
        none : o ≡ None → IfSome o (λ i. IsSome (held slots i))
        none e = subst (λ (z : Option ℕ). IfSome z (λ i. IsSome (held slots i))) (sym e) tt

        before : (l : IsLinked lists p.key.slot) (k : ℕ) → slice_get (list_at lists l.0) k ≡ Some p.key.slot → IfSome o (λ i. IsSome (held slots i))
        before l zero at = none (prev l.0 l.1 ∙ prev_first (list_at lists l.0) p.key.slot at)
        before l (suc k) at = held_as o l.0 k (prev l.0 l.1 ∙ prev_at (list_at lists l.0) k p.key.slot (level.distinct l.0) (rw add-one at))

    pub prev_handle : ((c : ℕ) → has p.key.slot (list_at lists c) ≡ true → o ≡ prev_in p.key.slot (list_at lists c)) → (b : Ptr F) (k : ℕ) → slice_get (listed b) (k + 1) ≡ Some p → option_map (of_slot slots) o ≡ slice_get (listed b) k
    prev_handle prev b k h = ap (option_map (of_slot slots)) (prev b.key.slot (has_slot b (k + 1) p h) ∙ prev_at (list_at lists b.key.slot) k p.key.slot (level.distinct b.key.slot) (slot_at_index b (k + 1) p h)) ∙ handle_at_index b k (level.some b (k + 1) p h)

    pub prev_none : ((c : ℕ) → has p.key.slot (list_at lists c) ≡ true → o ≡ prev_in p.key.slot (list_at lists c)) → (b : Ptr F) → slice_get (listed b) 0 ≡ Some p → option_map (of_slot {E = E} slots) o ≡ None
    prev_none prev b h = ap (option_map (of_slot slots)) (prev b.key.slot (has_slot b 0 p h) ∙ prev_first (list_at lists b.key.slot) p.key.slot (slot_at_index b 0 p h))
