-- Operations in blocks, blocks in regions, regions in operations.
use Rattle.std.specs.Prelude.{◌≡◌, ℕ, ◌≤◌, true, false, List, length, map, IsSome}
use Rattle.ir_arena.specs.declared.arena.Key.{Key}
use Rattle.ir_arena.specs.declared.arena.Slot.{Slot}
use Rattle.ir_arena.specs.Arena.{held, slot_at}
use Rattle.ir_entities.specs.Lists.{ListsView}
use Rattle.ir_entities.specs.Links.{has, list_at}
use Rattle.ir_entities.specs.declared.forest.Place.{Place}
use Rattle.ir_entities.specs.declared.forest.Place.TheVariants.{Op, Block, Region}
use Rattle.ir_entities.specs.Shape.{Shape, IsGrounded}

-- what a contract sees: what each pointer leads to, and what stands where
pub record Forest (O B R : Type 0) : Type 0 where
  pub ops : List (Slot O)
  pub blocks : List (Slot B)
  pub regions : List (Slot R)
  pub in_blocks : ListsView
  pub in_regions : ListsView
  pub in_ops : ListsView

-- the pointer to what is in a slot now
abbrev pub pointer_to : {T : Type 0} → List (Slot T) → ℕ → Key
pointer_to slots i = record { slot = i; version = (slot_at slots i).version }

-- the members of the list of c, in order
abbrev pub members : {T : Type 0} → List (Slot T) → ListsView → Key → List (Key)
members slots lists c = map (pointer_to slots) (list_at lists.lists c.slot)

-- a list of each container; what stands in one is in use, and so is what holds it
pub record AreMembers {T C : Type 0} (slots : List (Slot T)) (containers : List (Slot C)) (lists : ListsView) : Type 0 where
  pub nodes : length slots ≤ lists.nodes
  pub lists_made : length containers ≤ length lists.lists
  pub members : (c i : ℕ) → has i (list_at lists.lists c) ≡ true → IsSome (held slots i)
  pub holders : (c i : ℕ) → has i (list_at lists.lists c) ≡ true → IsSome (held containers c)

module _ {O B R : Type 0} where
  abbrev pub ops_in : Forest O B R → Key → List (Key)
  ops_in f b = members f.ops f.in_blocks b

  abbrev pub blocks_in : Forest O B R → Key → List (Key)
  blocks_in f r = members f.blocks f.in_regions r

  abbrev pub regions_in : Forest O B R → Key → List (Key)
  regions_in f p = members f.regions f.in_ops p

  abbrev pub shape_of : Forest O B R → Shape
  shape_of f = record { in_blocks = f.in_blocks.lists; in_regions = f.in_regions.lists; in_ops = f.in_ops.lists }

  pub record IsForest (f : Forest O B R) : Type 0 where
    pub ops : AreMembers f.ops f.blocks f.in_blocks
    pub blocks : AreMembers f.blocks f.regions f.in_regions
    pub regions : AreMembers f.regions f.ops f.in_ops
    pub grounded : (e : Place) → IsGrounded (shape_of f) e

  -- the operation stands in no block
  abbrev pub IsRootOp : Forest O B R → Key → Type 0
  IsRootOp f p = (c : ℕ) → has p.slot (list_at f.in_blocks.lists c) ≡ false

  abbrev pub IsRootBlock : Forest O B R → Key → Type 0
  IsRootBlock f p = (c : ℕ) → has p.slot (list_at f.in_regions.lists c) ≡ false

module _ {O B R : Type 0} where
  abbrev pub IsRootRegion : Forest O B R → Key → Type 0
  IsRootRegion f p = (c : ℕ) → has p.slot (list_at f.in_ops.lists c) ≡ false

-- what a place holds is in use
abbrev pub HoldsInUse : {O B R : Type 0} → Forest O B R → Place → Type 0
HoldsInUse f (Op i) = IsSome (held f.ops i)
HoldsInUse f (Block i) = IsSome (held f.blocks i)
HoldsInUse f (Region i) = IsSome (held f.regions i)
