-- All that stands inside an entity, in order: an entity before what stands in it, and what stands in it from first to last.
use Rattle.std.specs.Prelude.{◌≡◌, ℕ, List, [], ◌∷◌, ◌++◌, map, Some, slice_get}
use Rattle.ir_entities.specs.Forest.{pointer_to}
use Rattle.ir_entities.specs.Walk.{walk_of}
use Rattle.ir_entities.specs.declared.forest.Place.{Place}
use Rattle.ir_entities.specs.declared.forest.Place.TheVariants.{Op, Block, Region as RegionPlace}
use Rattle.ir_program.specs.Handles.{handle}
use Rattle.ir_program.specs.Lists.{operations_in, blocks_in, regions_in, place_of_node, StandsInside, IsLiveNode}
use Rattle.ir_program.specs.Program.{Program}
use Rattle.ir_program.specs.declared.handles.IRNode.{IRNode}
use Rattle.ir_program.specs.declared.handles.IRNode.TheVariants.{Operation as OperationNode, Region as RegionNode, BasicBlock as BlockNode}

module _ {O B : Type 0} where
  -- what is in a slot now
  abbrev pub node_at : Program O B → Place → IRNode
  node_at c (Op i) = OperationNode (handle (pointer_to c.forest.ops i))
  node_at c (Block i) = BlockNode (handle (pointer_to c.forest.blocks i))
  node_at c (RegionPlace i) = RegionNode (handle (pointer_to c.forest.regions i))

  -- x and all that stands in it, in order: `IsPreorder` says what this list is
  unfoldable pub nodes_inside : Program O B → IRNode → List IRNode
  nodes_inside c x = map (node_at c) (walk_of c.forest (place_of_node x))

  -- what stands in an entity, first to last
  abbrev pub nodes_in : Program O B → IRNode → List IRNode
  nodes_in c (OperationNode p) = map RegionNode (regions_in c p)
  nodes_in c (RegionNode r) = map BlockNode (blocks_in c r)
  nodes_in c (BlockNode b) = map OperationNode (operations_in c b)

  -- the second list has the entities of the first, each followed by all that stands in it
  pub data IsPreorder (c : Program O B) : List IRNode → List IRNode → Type 0 where
    nothing : IsPreorder c [] []
    more : (e : IRNode) (es inner rest : List IRNode) → IsPreorder c (nodes_in c e) inner → IsPreorder c es rest → IsPreorder c (e ∷ es) (e ∷ (inner ++ rest))

-- no entity stands twice in the list
abbrev pub StandOnceEach : List IRNode → Type 0
StandOnceEach es = (j k : ℕ) (e : IRNode) → slice_get es j ≡ Some e → slice_get es k ≡ Some e → j ≡ k

-- the list has exactly the entities that x is or that stand inside x, and all of them are there
pub record AreInside {O B : Type 0} (c : Program O B) (x : IRNode) (es : List IRNode) : Type 0 where
  pub inside : (k : ℕ) (e : IRNode) → slice_get es k ≡ Some e → StandsInside c x e
  pub live : (k : ℕ) (e : IRNode) → slice_get es k ≡ Some e → IsLiveNode c e
  pub all : (e : IRNode) → StandsInside c x e → (k : ℕ) × (slice_get es k ≡ Some e)
