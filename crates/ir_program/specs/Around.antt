-- What an entity stands in, and what that stands in, up to what stands in nothing.
use Rattle.std.specs.Prelude.{◌≡◌, ℕ, zero, suc, List, [], ◌∷◌, length, map, cond, Option, Some, None, option_map}
use Rattle.ir_entities.specs.declared.forest.Place.{Place}
use Rattle.ir_entities.specs.declared.forest.Place.TheVariants.{Op, Block, Region as RegionPlace}
use Rattle.ir_entities.specs.Forest.{Forest, shape_of}
use Rattle.ir_entities.specs.Links.{has}
use Rattle.ir_entities.specs.Shape.{Shape}
use Rattle.ir_entities.specs.Walk.{levels}
use Rattle.ir_program.specs.Lists.{StandsInBlock, StandsInRegion, StandsInOperation, place_of_node}
use Rattle.ir_program.specs.Preorder.{node_at}
use Rattle.ir_program.specs.Program.{Program}
use Rattle.ir_program.specs.declared.handles.IRNode.{IRNode}
use Rattle.ir_program.specs.declared.handles.IRNode.TheVariants.{Operation as OperationNode, Region as RegionNode, BasicBlock as BlockNode}

-- which of the lists has x
abbrev pub list_with : ℕ → List (List ℕ) → Option ℕ
list_with x [] = None
list_with x (l ∷ ls) = cond (has x l) (Some zero) (option_map suc (list_with x ls))

-- the slot of what stands around what is in a slot
abbrev pub place_around : Shape → Place → Option Place
place_around s (Op i) = option_map Block (list_with i s.in_blocks)
place_around s (Block i) = option_map RegionPlace (list_with i s.in_regions)
place_around s (RegionPlace i) = option_map Op (list_with i s.in_ops)

-- the place, the one around it and so on, as far as n levels up
abbrev pub climb : ℕ → Shape → Option Place → List Place
climb zero s o = []
climb (suc n) s None = []
climb (suc n) s (Some e) = e ∷ climb n s (place_around s e)

-- the place and all around it: a way up has no more levels than an operation, a region and a block for each operation
-- that there can be, and a block and a region more
unfoldable pub climb_of : {O B R : Type 0} → Forest O B R → Place → List Place
climb_of f e = climb (levels (suc (length f.ops))) (shape_of f) (Some e)

-- the same from the place at `o` on
abbrev pub climb_from : {O B R : Type 0} → Forest O B R → Option Place → List Place
climb_from f None = []
climb_from f (Some e) = climb_of f e

module _ {O B : Type 0} where
  -- x and all that it stands in, from the inside out: `IsWayUp` says what this list is
  unfoldable pub nodes_around : Program O B → IRNode → List IRNode
  nodes_around c x = map (node_at c) (climb_of c.forest (place_of_node x))

  -- the first is a member of the second: an operation of a block, a block of a region or a region of an operation
  abbrev pub StandsIn : Program O B → IRNode → IRNode → Type 0
  StandsIn c (OperationNode p) (BlockNode b) = StandsInBlock c p b
  StandsIn c (BlockNode b) (RegionNode r) = StandsInRegion c b r
  StandsIn c (RegionNode r) (OperationNode p) = StandsInOperation c r p
  StandsIn c e d = ⊥

  -- the list has x, the one entity that x stands in, the one that this stands in, and so on, up to what stands in none
  pub data IsWayUp (c : Program O B) : IRNode → List IRNode → Type 0 where
    top : (x : IRNode) → ((d : IRNode) → StandsIn c x d → ⊥) → IsWayUp c x (x ∷ [])
    up : (x holder : IRNode) (around : List IRNode) → StandsIn c x holder → ((d : IRNode) → StandsIn c x d → d ≡ holder)
        → IsWayUp c holder around → IsWayUp c x (x ∷ around)
