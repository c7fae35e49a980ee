-- What a contract sees of an arena.
use Rattle.std.specs.Prelude.{◌≡◌, ◌≢◌, ℕ, ◌<◌, ◌≤◌, ◌^◌, ◌-◌, Bool, false, cond, ◌&&◌, eqb, List, [], ◌∷◌, length, Option, Some, None, IsSome, slice_index_or}
use Rattle.std.specs.List.{list_any}
use Rattle.ir_arena.specs.declared.arena.Key.{Key}
use Rattle.ir_arena.specs.declared.arena.Slot.{Slot}

-- both keys are the same
abbrev pub same : Key → Key → Bool
same p q = eqb p.slot q.slot && eqb p.version q.version

module _ {T : Type 0} where
  -- what stands past the last slot
  abbrev pub no_slot : Slot T
  no_slot = record { version = 0; next = None; value = None }

  abbrev pub slot_at : List (Slot T) → ℕ → Slot T
  slot_at slots i = slice_index_or slots i no_slot

  -- the value of a slot, if it has this version
  abbrev pub value_at : Slot T → ℕ → Option T
  value_at s version = cond (eqb s.version version) s.value None

  -- the value that a key leads to
  abbrev pub get : List (Slot T) → Key → Option T
  get slots p = value_at (slot_at slots p.slot) p.version

  -- p now leads to w, and each other key to what it led to
  abbrev pub Updates : List (Slot T) → List (Slot T) → Key → Option T → Type 0
  Updates old new p w = (q : Key) → get new q ≡ cond (same p q) w (get old q)

  -- the value in a slot
  abbrev pub held : List (Slot T) → ℕ → Option T
  held slots i = (slot_at slots i).value

  -- the vacant slot x now has the value, and the others have what they had
  pub record SetsSlot (old new : List (Slot T)) (x : ℕ) (value : T) : Type 0 where
    pub within : x < length new
    pub vacant : held old x ≡ None
    pub set : held new x ≡ Some value
    pub others : (i : ℕ) → i ≢ x → slot_at new i ≡ slot_at old i

  -- slot x is vacant now, and the others have what they had
  pub record ClearsSlot (old new : List (Slot T)) (x : ℕ) : Type 0 where
    pub used : IsSome (held old x)
    pub count : length new ≡ length old
    pub cleared : held new x ≡ None
    pub others : (i : ℕ) → i ≢ x → slot_at new i ≡ slot_at old i

  -- no key leads to a value
  abbrev pub IsVacant : List (Slot T) → Type 0
  IsVacant slots = (p : Key) → get slots p ≡ None

  -- the arena gave p out, and its value is gone
  pub record IsSpent (slots : List (Slot T)) (p : Key) : Type 0 where
    pub slot : p.slot < length slots
    pub version : p.version ≤ (slot_at slots p.slot).version
    pub gone : get slots p ≡ None

  -- what was spent stays so
  abbrev pub KeepsSpent : List (Slot T) → List (Slot T) → Type 0
  KeepsSpent old new = (q : Key) → IsSpent old q → IsSpent new q

  -- the vacant slots xs, which have versions left, lead one to the next, from o on
  abbrev pub IsFreeFrom : List (Slot T) → Option ℕ → List ℕ → Type 0
  IsFreeFrom slots o [] = o ≡ None
  IsFreeFrom slots o (x ∷ xs) = (o ≡ Some x) × (x < length slots) × ((slot_at slots x).value ≡ None) × ((slot_at slots x).version < 2 ^ 64 - 1) × (list_any (eqb x) xs ≡ false) × IsFreeFrom slots (slot_at slots x).next xs

  -- some vacant slots lead on from the first one
  pub record HasFreeList (slots : List (Slot T)) (free : Option ℕ) : Type 0 where
    pub vacant : List ℕ
    pub chain : IsFreeFrom slots free vacant
