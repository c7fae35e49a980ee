-- What stands inside what: by handles, and by slots.
use Rattle.std.proofs.Common.{◌≡◌, true, map, refl, sym, ap, subst}
use Rattle.ir_arena.specs.Arena.{get}
use Rattle.ir_entities.specs.Links.{has, list_at}
use Rattle.ir_entities.specs.Forest.{shape_of}
use Rattle.ir_entities.specs.Shape.{IsIn, IsInside, itself as inside_itself, deeper}
use Rattle.ir_entities.specs.declared.forest.Place.{Place}
use Rattle.ir_entities.specs.declared.forest.Place.TheVariants.{Op, Block, Region as RegionPlace}
use Rattle.ir_entities.proofs.Climb.{no_cycle}
use Rattle.ir_program.specs.Program.{Program, OperationView, BlockView, RegionView, operation_of, block_of, region_of}
use Rattle.ir_program.specs.Listed.{AreListed}
use Rattle.ir_program.specs.Lists.{operations_in, blocks_in, regions_in, StandsInBlock, StandsInRegion, StandsInOperation, StandsInside, itself, in_block, in_region, in_operation, IsLiveNode, place_of_node}
use Rattle.ir_program.specs.declared.handles.Ptr.{Ptr}
use Rattle.ir_program.specs.declared.handles.Operation.{Operation}
use Rattle.ir_program.specs.declared.handles.BasicBlock.{BasicBlock}
use Rattle.ir_program.specs.declared.handles.Region.{Region}
use Rattle.ir_program.specs.declared.handles.IRNode.{IRNode}
use Rattle.ir_program.specs.declared.handles.IRNode.TheVariants.{Operation as OperationNode, Region as RegionNode, BasicBlock as BlockNode}
use Rattle.ir_program.proofs.lists.Slotted.{of_slot, at_slot, at_has, list_of_some, one_handle}
use Rattle.ir_program.proofs.lists.There.{operation_got, block_got, region_got}
use Rattle.ir_program.proofs.lists.InBlocks.{in_blocks, block_of_slot}
use Rattle.ir_program.proofs.lists.InRegions.{in_regions, region_of_slot}
use Rattle.ir_program.proofs.lists.InOperations.{in_ops, operation_of_slot}

module _ {O B : Type 0} (c : Program O B) where
  -- what stands in a list by handles does by slots
  pub slot_in_block : (p : Ptr Operation) (b : Ptr BasicBlock) → StandsInBlock c p b → has p.key.slot (list_at c.forest.in_blocks.lists b.key.slot) ≡ true
  slot_in_block p b s =
      let listed : operations_in c b ≡ map (of_slot c.forest.ops) (list_at c.forest.in_blocks.lists b.key.slot) = list_of_some (λ (v : BlockView B). v.operations) (block_of c b) (get c.forest.blocks b.key) (map (of_slot c.forest.ops) (list_at c.forest.in_blocks.lists b.key.slot)) (λ a. refl) (block_got c b s.block) in
      at_has (list_at c.forest.in_blocks.lists b.key.slot) s.index p.key.slot (at_slot c.forest.ops (list_at c.forest.in_blocks.lists b.key.slot) s.index p (rw listed at s.here))

  pub slot_in_region : (b : Ptr BasicBlock) (r : Ptr Region) → StandsInRegion c b r → has b.key.slot (list_at c.forest.in_regions.lists r.key.slot) ≡ true
  slot_in_region b r s =
      let listed : blocks_in c r ≡ map (of_slot c.forest.blocks) (list_at c.forest.in_regions.lists r.key.slot) = list_of_some (λ (v : RegionView). v.blocks) (λ u. region_of c r) (get c.forest.regions r.key) (map (of_slot c.forest.blocks) (list_at c.forest.in_regions.lists r.key.slot)) (λ a. refl) (region_got c r s.region) in
      at_has (list_at c.forest.in_regions.lists r.key.slot) s.index b.key.slot (at_slot c.forest.blocks (list_at c.forest.in_regions.lists r.key.slot) s.index b (rw listed at s.here))

  pub slot_in_operation : (r : Ptr Region) (p : Ptr Operation) → StandsInOperation c r p → has r.key.slot (list_at c.forest.in_ops.lists p.key.slot) ≡ true
  slot_in_operation r p s =
      let listed : regions_in c p ≡ map (of_slot c.forest.regions) (list_at c.forest.in_ops.lists p.key.slot) = list_of_some (λ (v : OperationView O). v.regions) (operation_of c p) (get c.forest.ops p.key) (map (of_slot c.forest.regions) (list_at c.forest.in_ops.lists p.key.slot)) (λ a. refl) (operation_got c p s.operation) in
      at_has (list_at c.forest.in_ops.lists p.key.slot) s.index r.key.slot (at_slot c.forest.regions (list_at c.forest.in_ops.lists p.key.slot) s.index r (rw listed at s.here))

  pub inside_by_slots : (x e : IRNode) → StandsInside c x e → IsInside (shape_of c.forest) (place_of_node x) (place_of_node e)
  inside_by_slots x e itself = inside_itself
  inside_by_slots x e (in_block p b s w) = deeper (Op p.key.slot) (Block b.key.slot) (slot_in_block p b s) (inside_by_slots x (BlockNode b) w)
  inside_by_slots x e (in_region b r s w) = deeper (Block b.key.slot) (RegionPlace r.key.slot) (slot_in_region b r s) (inside_by_slots x (RegionNode r) w)
  inside_by_slots x e (in_operation r p s w) = deeper (RegionPlace r.key.slot) (Op p.key.slot) (slot_in_operation r p s) (inside_by_slots x (OperationNode p) w)

  -- what leads somewhere and is in the same place is the same
  same_node : (x e : IRNode) → IsLiveNode c x → IsLiveNode c e → place_of_node e ≡ place_of_node x → e ≡ x
  same_node (OperationNode p) (OperationNode q) lx le h = let s : q.key.slot ≡ p.key.slot = cc in ap OperationNode (one_handle c.forest.ops q p (operation_got c q le) (operation_got c p lx) s)
  same_node (BlockNode p) (BlockNode q) lx le h = let s : q.key.slot ≡ p.key.slot = cc in ap BlockNode (one_handle c.forest.blocks q p (block_got c q le) (block_got c p lx) s)
  same_node (RegionNode p) (RegionNode q) lx le h = let s : q.key.slot ≡ p.key.slot = cc in ap RegionNode (one_handle c.forest.regions q p (region_got c q le) (region_got c p lx) s)
  same_node (OperationNode p) (BlockNode q) lx le h = cc
  same_node (OperationNode p) (RegionNode q) lx le h = cc
  same_node (BlockNode p) (OperationNode q) lx le h = cc
  same_node (BlockNode p) (RegionNode q) lx le h = cc
  same_node (RegionNode p) (OperationNode q) lx le h = cc
  same_node (RegionNode p) (BlockNode q) lx le h = cc

  module _ (known : AreListed c) (x : IRNode) (live_x : IsLiveNode c x) where
    inside_from : (at : Place) → IsInside (shape_of c.forest) (place_of_node x) at → (e : IRNode) → IsLiveNode c e → place_of_node e ≡ at → StandsInside c x e
    inside_from at inside_itself e live h = subst (λ (z : IRNode). StandsInside c x z) (sym (same_node x e live_x live h)) itself
    inside_from at (deeper _ (Block d) h w) (OperationNode p) live is =
        let here : has p.key.slot (list_at c.forest.in_blocks.lists d) ≡ true = subst (λ (z : Place). IsIn (shape_of c.forest) z (Block d)) (sym is) h in
        let stands : StandsInBlock c p (of_slot c.forest.blocks d) = block_of_slot c (in_blocks c known) p d live here in
        in_block p (of_slot c.forest.blocks d) stands (inside_from (Block d) w (BlockNode (of_slot c.forest.blocks d)) stands.block refl)
    inside_from at (deeper _ (RegionPlace d) h w) (BlockNode b) live is =
        let here : has b.key.slot (list_at c.forest.in_regions.lists d) ≡ true = subst (λ (z : Place). IsIn (shape_of c.forest) z (RegionPlace d)) (sym is) h in
        let stands : StandsInRegion c b (of_slot c.forest.regions d) = region_of_slot c (in_regions c known) b d live here in
        in_region b (of_slot c.forest.regions d) stands (inside_from (RegionPlace d) w (RegionNode (of_slot c.forest.regions d)) stands.region refl)
    inside_from at (deeper _ (Op d) h w) (RegionNode r) live is =
        let here : has r.key.slot (list_at c.forest.in_ops.lists d) ≡ true = subst (λ (z : Place). IsIn (shape_of c.forest) z (Op d)) (sym is) h in
        let stands : StandsInOperation c r (of_slot c.forest.ops d) = operation_of_slot c (in_ops c known) r d live here in
        in_operation r (of_slot c.forest.ops d) stands (inside_from (Op d) w (OperationNode (of_slot c.forest.ops d)) stands.operation refl)
    inside_from at (deeper _ (Op d) h w) (OperationNode p) live is = absurd (subst (λ (z : Place). IsIn (shape_of c.forest) z (Op d)) (sym is) h)
    inside_from at (deeper _ (RegionPlace d) h w) (OperationNode p) live is = absurd (subst (λ (z : Place). IsIn (shape_of c.forest) z (RegionPlace d)) (sym is) h)
    inside_from at (deeper _ (Op d) h w) (BlockNode b) live is = absurd (subst (λ (z : Place). IsIn (shape_of c.forest) z (Op d)) (sym is) h)
    inside_from at (deeper _ (Block d) h w) (BlockNode b) live is = absurd (subst (λ (z : Place). IsIn (shape_of c.forest) z (Block d)) (sym is) h)
    inside_from at (deeper _ (Block d) h w) (RegionNode r) live is = absurd (subst (λ (z : Place). IsIn (shape_of c.forest) z (Block d)) (sym is) h)
    inside_from at (deeper _ (RegionPlace d) h w) (RegionNode r) live is = absurd (subst (λ (z : Place). IsIn (shape_of c.forest) z (RegionPlace d)) (sym is) h)

    pub inside_by_handles : (e : IRNode) → IsLiveNode c e → IsInside (shape_of c.forest) (place_of_node x) (place_of_node e) → StandsInside c x e
    inside_by_handles e live w = inside_from (place_of_node e) w e live refl

-- where less stands in something, less stands inside
pub inside_fewer : {O B : Type 0} (old new : Program O B)
    → ((p : Ptr Operation) (b : Ptr BasicBlock) → StandsInBlock new p b → StandsInBlock old p b)
    → ((b : Ptr BasicBlock) (r : Ptr Region) → StandsInRegion new b r → StandsInRegion old b r)
    → ((r : Ptr Region) (p : Ptr Operation) → StandsInOperation new r p → StandsInOperation old r p)
    → (x e : IRNode) → StandsInside new x e → StandsInside old x e
inside_fewer old new blocks regions ops x e itself = itself
inside_fewer old new blocks regions ops x e (in_block p b s w) = in_block p b (blocks p b s) (inside_fewer old new blocks regions ops x (BlockNode b) w)
inside_fewer old new blocks regions ops x e (in_region b r s w) = in_region b r (regions b r s) (inside_fewer old new blocks regions ops x (RegionNode r) w)
inside_fewer old new blocks regions ops x e (in_operation r p s w) = in_operation r p (ops r p s) (inside_fewer old new blocks regions ops x (OperationNode p) w)

-- the same of the program as its calls see it
pub handles_inside : {O B : Type 0} (i c : Program O B) → i ≡ c → AreListed c → (x e : IRNode) → IsLiveNode c x → IsLiveNode c e → IsInside (shape_of i.forest) (place_of_node x) (place_of_node e) → StandsInside c x e
handles_inside i c seen known x e live_x live_e w = inside_by_handles c known x live_x e live_e (subst (λ (z : Program _ _). IsInside (shape_of z.forest) (place_of_node x) (place_of_node e)) seen w)

pub slots_inside : {O B : Type 0} (i c : Program O B) → i ≡ c → (x e : IRNode) → StandsInside c x e → IsInside (shape_of i.forest) (place_of_node x) (place_of_node e)
slots_inside i c seen x e s = subst (λ (z : Program _ _). IsInside (shape_of z.forest) (place_of_node x) (place_of_node e)) (sym seen) (inside_by_slots c x e s)

pub outside_by_slots : {O B : Type 0} (i c : Program O B) → i ≡ c → AreListed c → (x e : IRNode) → IsLiveNode c x → IsLiveNode c e → (StandsInside c x e → ⊥) → IsInside (shape_of i.forest) (place_of_node x) (place_of_node e) → ⊥
outside_by_slots i c seen known x e live_x live_e out w = out (handles_inside i c seen known x e live_x live_e w)

-- nothing stands in what is inside it
module _ {O B : Type 0} (c : Program O B) (known : AreListed c) where
  pub operation_not_around : (p : Ptr Operation) (b : Ptr BasicBlock) → StandsInBlock c p b → StandsInside c (OperationNode p) (BlockNode b) → ⊥
  operation_not_around p b s w = no_cycle (shape_of c.forest) (Op p.key.slot) (known.forest.grounded (Op p.key.slot)) (Block b.key.slot) (slot_in_block c p b s) (inside_by_slots c (OperationNode p) (BlockNode b) w)

  pub block_not_around : (b : Ptr BasicBlock) (r : Ptr Region) → StandsInRegion c b r → StandsInside c (BlockNode b) (RegionNode r) → ⊥
  block_not_around b r s w = no_cycle (shape_of c.forest) (Block b.key.slot) (known.forest.grounded (Block b.key.slot)) (RegionPlace r.key.slot) (slot_in_region c b r s) (inside_by_slots c (BlockNode b) (RegionNode r) w)

  pub region_not_around : (r : Ptr Region) (p : Ptr Operation) → StandsInOperation c r p → StandsInside c (RegionNode r) (OperationNode p) → ⊥
  region_not_around r p s w = no_cycle (shape_of c.forest) (RegionPlace r.key.slot) (known.forest.grounded (RegionPlace r.key.slot)) (Op p.key.slot) (slot_in_operation c r p s) (inside_by_slots c (RegionNode r) (OperationNode p) w)
