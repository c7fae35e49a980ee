-- What it means to take things out of a place, and to take out a place with all that stands in it.
use Rattle.std.specs.Prelude.{◌≡◌, ℕ, ◌+◌, ◌⊎◌, false, cond, List, [], ◌∷◌, IsSome, is_some}
use Rattle.ir_arena.specs.declared.arena.Key.{Key}
use Rattle.ir_arena.specs.declared.arena.Slot.{Slot}
use Rattle.ir_arena.specs.Arena.{held, slot_at, get, IsSpent, KeepsSpent}
use Rattle.ir_entities.specs.Links.{has, list_at, first_or}
use Rattle.std.specs.Prelude.{Some, None}
use Rattle.ir_entities.specs.declared.forest.Place.{Place}
use Rattle.ir_entities.specs.declared.forest.Place.TheVariants.{Op, Block, Region}
use Rattle.ir_entities.specs.Shape.{IsIn, IsInside}
use Rattle.ir_entities.specs.Forest.{Forest, HoldsInUse, shape_of}

-- how many slots are in use
abbrev pub live : {T : Type 0} → List (Slot T) → ℕ
live [] = 0
live (s ∷ ss) = cond (is_some s.value) 1 0 + live ss

-- the place stands in nothing
abbrev pub StandsNowhere : {O B R : Type 0} → Forest O B R → Place → Type 0
StandsNowhere f (Op i) = (c : ℕ) → has i (list_at f.in_blocks.lists c) ≡ false
StandsNowhere f (Block i) = (c : ℕ) → has i (list_at f.in_regions.lists c) ≡ false
StandsNowhere f (Region i) = (c : ℕ) → has i (list_at f.in_ops.lists c) ≡ false

-- the place holds nothing
abbrev pub HoldsNothing : {O B R : Type 0} → Forest O B R → Place → Type 0
HoldsNothing f (Op i) = list_at f.in_ops.lists i ≡ []
HoldsNothing f (Block i) = list_at f.in_blocks.lists i ≡ []
HoldsNothing f (Region i) = list_at f.in_regions.lists i ≡ []

-- the slot of the place is the very same: its value and its version
abbrev pub KeepsSlot : {O B R : Type 0} → Forest O B R → Forest O B R → Place → Type 0
KeepsSlot old new (Op i) = slot_at new.ops i ≡ slot_at old.ops i
KeepsSlot old new (Block i) = slot_at new.blocks i ≡ slot_at old.blocks i
KeepsSlot old new (Region i) = slot_at new.regions i ≡ slot_at old.regions i

-- the place holds what it held, in the same order
abbrev pub KeepsList : {O B R : Type 0} → Forest O B R → Forest O B R → Place → Type 0
KeepsList old new (Op i) = list_at new.in_ops.lists i ≡ list_at old.in_ops.lists i
KeepsList old new (Block i) = list_at new.in_blocks.lists i ≡ list_at old.in_blocks.lists i
KeepsList old new (Region i) = list_at new.in_regions.lists i ≡ list_at old.in_regions.lists i

-- values were only taken out: a key that led to one still does, or is refused for good
pub record OnlyErases {T : Type 0} (old new : List (Slot T)) : Type 0 where
  pub spent : KeepsSpent old new
  pub gone : (p : Key) → IsSome (get old p) → IsSome (get new p) ⊎ IsSpent new p
  pub used : (i : ℕ) → IsSome (held new i) → IsSome (held old i)

-- each key that led to one of the slots of which `In` holds is refused for good
abbrev pub RefusesAll : {T : Type 0} → List (Slot T) → List (Slot T) → (ℕ → Type 0) → Type 0
RefusesAll old new In = (p : Key) → IsSome (get old p) → In p.slot → IsSpent new p

-- what goes first of the things in operation x: its first region, where that is bare, else the
-- first block of that region, where that is bare, else the first operation of that block
abbrev pub IsFirstInner : {O B R : Type 0} → Forest O B R → ℕ → Place → Type 0
IsFirstInner f x (Region r) = (Some r ≡ first_or None (list_at f.in_ops.lists x)) × HoldsNothing f (Region r)
IsFirstInner f x (Block b) = (r : ℕ) × (Some r ≡ first_or None (list_at f.in_ops.lists x)) × (Some b ≡ first_or None (list_at f.in_regions.lists r)) × HoldsNothing f (Block b)
IsFirstInner f x (Op o) = (r : ℕ) × (b : ℕ) × (Some r ≡ first_or None (list_at f.in_ops.lists x)) × (Some b ≡ first_or None (list_at f.in_regions.lists r)) × (Some o ≡ first_or None (list_at f.in_blocks.lists b))

module _ {O B R : Type 0} where
  abbrev pub live_in : Forest O B R → ℕ
  live_in f = live f.ops + live f.blocks + live f.regions

  -- g no longer stands where it stood, and nothing else has changed
  pub record IsDetached (old new : Forest O B R) (g : Place) : Type 0 where
    pub less : (e d : Place) → IsIn (shape_of new) e d → IsIn (shape_of old) e d
    pub rest : (e d : Place) → IsIn (shape_of old) e d → (e ≡ g → ⊥) → IsIn (shape_of new) e d
    pub lists : (d : Place) → IsIn (shape_of old) g d → (c : Place) → (c ≡ d → ⊥) → KeepsList old new c
    pub ops : new.ops ≡ old.ops
    pub blocks : new.blocks ≡ old.blocks
    pub regions : new.regions ≡ old.regions

  -- outside x nothing has changed, x is there still, and what was inside and is in use still is inside
  pub record IsPruned (old new : Forest O B R) (x : Place) : Type 0 where
    pub ops : OnlyErases old.ops new.ops
    pub blocks : OnlyErases old.blocks new.blocks
    pub regions : OnlyErases old.regions new.regions
    pub slots : (e : Place) → (IsInside (shape_of old) x e → ⊥) → KeepsSlot old new e
    pub lists : (e : Place) → (IsInside (shape_of old) x e → ⊥) → KeepsList old new e
    pub stay : (e : Place) → HoldsInUse new e → IsInside (shape_of old) x e → IsInside (shape_of new) x e
    pub come : (e : Place) → IsInside (shape_of new) x e → IsInside (shape_of old) x e
    pub top : KeepsSlot old new x
    pub root : StandsNowhere old x → StandsNowhere new x

  -- x and all that was inside it is gone, each key to it is refused for good, and all else is as it was
  pub record ErasesInside (old new : Forest O B R) (x : Place) : Type 0 where
    pub ops : OnlyErases old.ops new.ops
    pub blocks : OnlyErases old.blocks new.blocks
    pub regions : OnlyErases old.regions new.regions
    pub vacant : (e : Place) → IsInside (shape_of old) x e → HoldsInUse new e → ⊥
    pub refused_ops : RefusesAll old.ops new.ops (λ i. IsInside (shape_of old) x (Op i))
    pub refused_blocks : RefusesAll old.blocks new.blocks (λ i. IsInside (shape_of old) x (Block i))
    pub refused_regions : RefusesAll old.regions new.regions (λ i. IsInside (shape_of old) x (Region i))
    pub slots : (e : Place) → (IsInside (shape_of old) x e → ⊥) → KeepsSlot old new e
    pub lists : (e : Place) → (IsInside (shape_of old) x e → ⊥) → KeepsList old new e
