-- The way up from an entity: by slots, and by handles.
use Rattle.std.proofs.Common.{◌≡◌, ℕ, zero, suc, ◌<◌, ◌≤◌, ◌+◌, ◌-◌, ◌*◌, Bool, true, false, cond, List, [], ◌∷◌, map, length, Option, Some, None, MatchOption, option_map, refl, sym, ap, subst, ◌∙◌, arith}
use Rattle.std.proofs.lemmas.Bool.{both_ways}
use Rattle.ir_entities.specs.declared.forest.Place.{Place}
use Rattle.ir_entities.specs.declared.forest.Place.TheVariants.{Op, Block, Region as RegionPlace}
use Rattle.ir_entities.specs.Forest.{Forest, IsForest, HoldsInUse, shape_of, pointer_to}
use Rattle.ir_entities.specs.Links.{has, list_at}
use Rattle.ir_entities.specs.Shape.{Shape, IsIn}
use Rattle.ir_entities.specs.Walk.{levels, StandInOne}
use Rattle.ir_entities.proofs.Climb.{Climbs, climb_begins, climbed_plain, climbed_op, room, steps, used_below}
use Rattle.ir_program.specs.Around.{list_with, place_around, climb, climb_of, climb_from, nodes_around, StandsIn, IsWayUp, top, up}
use Rattle.ir_program.specs.Handles.{handle}
use Rattle.ir_program.specs.Listed.{AreListed}
use Rattle.ir_program.specs.Lists.{StandsInBlock, StandsInRegion, StandsInOperation, IsLiveNode, place_of_node}
use Rattle.ir_program.specs.Preorder.{node_at}
use Rattle.ir_program.specs.Program.{Program}
use Rattle.ir_program.specs.declared.handles.Ptr.{Ptr}
use Rattle.ir_program.specs.declared.handles.Operation.{Operation}
use Rattle.ir_program.specs.declared.handles.BasicBlock.{BasicBlock}
use Rattle.ir_program.specs.declared.handles.Region.{Region}
use Rattle.ir_program.specs.declared.handles.IRNode.{IRNode}
use Rattle.ir_program.specs.declared.handles.IRNode.TheVariants.{Operation as OperationNode, Region as RegionNode, BasicBlock as BlockNode}
use Rattle.ir_program.proofs.lists.InBlocks.{in_blocks, block_of_slot, one_block}
use Rattle.ir_program.proofs.lists.InRegions.{in_regions, region_of_slot, one_region}
use Rattle.ir_program.proofs.lists.InOperations.{in_ops, operation_of_slot, one_operation}
use Rattle.ir_program.proofs.lists.Inside.{slot_in_block, slot_in_region, slot_in_operation}
use Rattle.ir_program.proofs.lists.Preorders.{node_back, node_live, place_used}

-- the list that a search finds has the item, and where it finds none, no list has it
with_has : (x : ℕ) (ls : List (List ℕ)) (c : ℕ) → list_with x ls ≡ Some c → has x (list_at ls c) ≡ true
with_has x [] c e = cc
with_has x (l ∷ ls) c e = found (has x l) (list_with x ls) refl (λ k h. with_has x ls k h) c e where
  found : (b : Bool) (o : Option ℕ) → has x l ≡ b → ((k : ℕ) → o ≡ Some k → has x (list_at ls k) ≡ true) → (c : ℕ) → cond b (Some zero) (option_map suc o) ≡ Some c → has x (list_at (l ∷ ls) c) ≡ true
  found true o h rest c e = let s : Some zero ≡ Some c = e in let z : c ≡ zero = cc in subst (λ j. has x (list_at (l ∷ ls) j) ≡ true) (sym z) h
  found false None h rest c e = let s : None ≡ Some c = e in cc
  found false (Some k) h rest c e = let s : Some (suc k) ≡ Some c = e in let z : c ≡ suc k = cc in subst (λ j. has x (list_at (l ∷ ls) j) ≡ true) (sym z) (rest k refl)

with_none : (x : ℕ) (ls : List (List ℕ)) → list_with x ls ≡ None → (c : ℕ) → has x (list_at ls c) ≡ false
with_none x [] e c = refl
with_none x (l ∷ ls) e c = nowhere (has x l) (list_with x ls) refl (λ h. with_none x ls h) e c where
  nowhere : (b : Bool) (o : Option ℕ) → has x l ≡ b → (o ≡ None → (c : ℕ) → has x (list_at ls c) ≡ false) → cond b (Some zero) (option_map suc o) ≡ None → (c : ℕ) → has x (list_at (l ∷ ls) c) ≡ false
  nowhere true o h rest e c = let s : Some zero ≡ None = e in cc
  nowhere false None h rest e zero = h
  nowhere false None h rest e (suc c) = rest refl c
  nowhere false (Some k) h rest e c = let s : Some (suc k) ≡ None = e in cc

-- what a map of an option gives
mapped_some : (f : ℕ → Place) (o : Option ℕ) (d : Place) → option_map f o ≡ Some d → (k : ℕ) × (o ≡ Some k) × (f k ≡ d)
mapped_some f None d h = let s : None ≡ Some d = h in cc
mapped_some f (Some k) d h = let s : Some (f k) ≡ Some d = h in (k, refl, cc)

mapped_none : (f : ℕ → Place) (o : Option ℕ) → option_map f o ≡ None → o ≡ None
mapped_none f None h = refl
mapped_none f (Some k) h = let s : Some (f k) ≡ None = h in cc

-- what stands around a place is what it stands in
around_in : (s : Shape) (e d : Place) → place_around s e ≡ Some d → IsIn s e d
around_in s (Op i) d h = let r : (k : ℕ) × (list_with i s.in_blocks ≡ Some k) × (Block k ≡ d) = mapped_some Block (list_with i s.in_blocks) d h in subst (λ (z : Place). IsIn s (Op i) z) r.2 (with_has i s.in_blocks r.0 r.1)
around_in s (Block i) d h = let r : (k : ℕ) × (list_with i s.in_regions ≡ Some k) × (RegionPlace k ≡ d) = mapped_some RegionPlace (list_with i s.in_regions) d h in subst (λ (z : Place). IsIn s (Block i) z) r.2 (with_has i s.in_regions r.0 r.1)
around_in s (RegionPlace i) d h = let r : (k : ℕ) × (list_with i s.in_ops ≡ Some k) × (Op k ≡ d) = mapped_some Op (list_with i s.in_ops) d h in subst (λ (z : Place). IsIn s (RegionPlace i) z) r.2 (with_has i s.in_ops r.0 r.1)

around_none : (s : Shape) (e : Place) → place_around s e ≡ None → (d : Place) → IsIn s e d → ⊥
around_none s (Op i) h (Block c) w = both_ways _ (with_none i s.in_blocks (mapped_none Block (list_with i s.in_blocks) h) c) w
around_none s (Op i) h (Op c) w = w
around_none s (Op i) h (RegionPlace c) w = w
around_none s (Block i) h (RegionPlace c) w = both_ways _ (with_none i s.in_regions (mapped_none RegionPlace (list_with i s.in_regions) h) c) w
around_none s (Block i) h (Op c) w = w
around_none s (Block i) h (Block c) w = w
around_none s (RegionPlace i) h (Op c) w = both_ways _ (with_none i s.in_ops (mapped_none Op (list_with i s.in_ops) h) c) w
around_none s (RegionPlace i) h (Block c) w = w
around_none s (RegionPlace i) h (RegionPlace c) w = w

-- the way up from a place has at most n places
data EndsWithin (s : Shape) : ℕ → Place → Type 0 where
  ends_here : (n : ℕ) (e : Place) → place_around s e ≡ None → EndsWithin s (suc n) e
  goes_on : (n : ℕ) (e d : Place) → place_around s e ≡ Some d → EndsWithin s n d → EndsWithin s (suc n) e

climb_none : (n : ℕ) (s : Shape) → climb n s None ≡ []
climb_none zero s = refl
climb_none (suc n) s = refl

-- one level more adds nothing
stable : (s : Shape) (n : ℕ) (e : Place) → EndsWithin s n e → climb n s (Some e) ≡ climb (suc n) s (Some e)
stable s _ _ (ends_here n e none) = ap (λ r. e ∷ r) (ap (climb n s) none ∙ climb_none n s ∙ sym (ap (climb (suc n) s) none))
stable s _ _ (goes_on n e d is w) = ap (λ r. e ∷ r) (ap (climb n s) is ∙ stable s n d w ∙ sym (ap (climb (suc n) s) is))

levels_are : (n : ℕ) → levels n ≡ 3 * n
levels_are zero = refl
levels_are (suc n) = let r : levels n ≡ 3 * n = levels_are n in omega (arith, r)

steps_few : (e : Place) → steps e ≤ 2
steps_few (Op i) = omega arith
steps_few (Block i) = omega arith
steps_few (RegionPlace i) = omega arith

module _ {O B R : Type 0} (f : Forest O B R) (forest : IsForest f) (one : StandInOne (shape_of f)) where
  -- a place that nothing is in
  abbrev nowhere : Place
  nowhere = Op (length f.ops)

  not_nowhere : (e : Place) → HoldsInUse f e → e ≡ nowhere → ⊥
  not_nowhere e used is =
      let below : length f.ops < length f.ops = used_below f.ops (length f.ops) (subst (λ (z : Place). HoldsInUse f z) is used) in
      omega (arith, below)

  -- one step further up, fewer are left
  one_up : (x at d : Place) (left n : ℕ) → Climbs f nowhere x at left → IsIn (shape_of f) at d → 3 * left + steps at < suc n → (fewer : ℕ) × Climbs f nowhere x d fewer × (3 * fewer + steps d < n)
  one_up x (Op i) (Block c) left n h w lt = (left, climbed_plain f forest nowhere x (Op i) left h (Block c) w (forest.ops.holders c i w) (λ e k. one (Op i) e (Block c) k w) (not_nowhere (Op i) h.used) (λ o is. cc), omega (arith, lt))
  one_up x (Block i) (RegionPlace c) left n h w lt = (left, climbed_plain f forest nowhere x (Block i) left h (RegionPlace c) w (forest.blocks.holders c i w) (λ e k. one (Block i) e (RegionPlace c) k w) (not_nowhere (Block i) h.used) (λ o is. cc), omega (arith, lt))
  one_up x (RegionPlace i) (Op c) left n h w lt =
      let more : 0 < left = room f forest nowhere x (RegionPlace i) left h (Op c) w (forest.regions.holders c i w) (λ e k. one (RegionPlace i) e (Op c) k w) (not_nowhere (RegionPlace i) h.used) c refl in
      (left - 1, climbed_op f forest nowhere x (RegionPlace i) left h (Op c) w (forest.regions.holders c i w) (λ e k. one (RegionPlace i) e (Op c) k w) (not_nowhere (RegionPlace i) h.used) c refl, omega (arith, lt, more))
  one_up x (Op i) (Op c) left n h w lt = absurd w
  one_up x (Op i) (RegionPlace c) left n h w lt = absurd w
  one_up x (Block i) (Op c) left n h w lt = absurd w
  one_up x (Block i) (Block c) left n h w lt = absurd w
  one_up x (RegionPlace i) (Block c) left n h w lt = absurd w
  one_up x (RegionPlace i) (RegionPlace c) left n h w lt = absurd w

  ends : (n : ℕ) (x at : Place) (left : ℕ) → Climbs f nowhere x at left → 3 * left + steps at < n → EndsWithin (shape_of f) n at
  ends zero x at left h lt = absurd (omega (arith, lt))
  ends (suc n) x at left h lt = above (place_around (shape_of f) at) refl (λ d fewer k less. ends n x d fewer k less) where
    above : (o : Option Place) → place_around (shape_of f) at ≡ o → ((d : Place) (fewer : ℕ) → Climbs f nowhere x d fewer → 3 * fewer + steps d < n → EndsWithin (shape_of f) n d) → EndsWithin (shape_of f) (suc n) at
    above None is rest = ends_here n at is
    above (Some d) is rest =
        let r : (fewer : ℕ) × Climbs f nowhere x d fewer × (3 * fewer + steps d < n) = one_up x at d left n h (around_in (shape_of f) at d is) lt in
        goes_on n at d is (rest d r.0 r.1 r.2)

  all_end : (e : Place) → HoldsInUse f e → EndsWithin (shape_of f) (levels (suc (length f.ops))) e
  all_end e used =
      let count : levels (suc (length f.ops)) ≡ 3 * suc (length f.ops) = levels_are (suc (length f.ops)) in
      let few : steps e ≤ 2 = steps_few e in
      let enough : 3 * length f.ops + steps e < levels (suc (length f.ops)) = omega (arith, count, few) in
      ends (levels (suc (length f.ops))) e e (length f.ops) (climb_begins f nowhere e used) enough

  -- what is left one step further up
  climb-next : (e : Place) → HoldsInUse f e → climb_of f e ≡ e ∷ climb_from f (place_around (shape_of f) e)
  unfolding climb_of
  climb-next e used = stable (shape_of f) (levels (suc (length f.ops))) e (all_end e used) ∙ ap (λ r. e ∷ r) (same (place_around (shape_of f) e)) where
    same : (o : Option Place) → climb (levels (suc (length f.ops))) (shape_of f) o ≡ climb_from f o
    same None = climb_none (levels (suc (length f.ops))) (shape_of f)
    same (Some d) = refl

  -- what the forest answers stands around
  around-is : (e : Place) (r : Option Place) → MatchOption r ((d : Place) → IsIn (shape_of f) e d → ⊥) (λ d. IsIn (shape_of f) e d × HoldsInUse f d × ((x : Place) → IsIn (shape_of f) e x → x ≡ d)) → r ≡ place_around (shape_of f) e
  around-is e None h = none (place_around (shape_of f) e) refl where
    none : (o : Option Place) → place_around (shape_of f) e ≡ o → None ≡ place_around (shape_of f) e
    none None is = sym is
    none (Some d) is = absurd (h d (around_in (shape_of f) e d is))
  around-is e (Some d) h = some (place_around (shape_of f) e) refl where
    some : (o : Option Place) → place_around (shape_of f) e ≡ o → Some d ≡ place_around (shape_of f) e
    some None is = absurd (around_none (shape_of f) e is d h.0)
    some (Some k) is = ap Some (sym (h.2 k (around_in (shape_of f) e k is))) ∙ sym is

  pub climb-answered : (e : Place) (r : Option Place) → HoldsInUse f e → MatchOption r ((d : Place) → IsIn (shape_of f) e d → ⊥) (λ d. IsIn (shape_of f) e d × HoldsInUse f d × ((x : Place) → IsIn (shape_of f) e x → x ≡ d)) → climb_of f e ≡ e ∷ climb_from f r
  climb-answered e r used h = climb-next e used ∙ ap (λ o. e ∷ climb_from f o) (sym (around-is e r h))

-- the same of the program as its calls see it
pub answered : {O B : Type 0} (i c : Program O B) → i ≡ c → (e : Place) (r : Option Place) → MatchOption r ((d : Place) → IsIn (shape_of i.forest) e d → ⊥) (λ d. IsIn (shape_of i.forest) e d × HoldsInUse i.forest d × ((x : Place) → IsIn (shape_of i.forest) e x → x ≡ d))
    → MatchOption r ((d : Place) → IsIn (shape_of c.forest) e d → ⊥) (λ d. IsIn (shape_of c.forest) e d × HoldsInUse c.forest d × ((x : Place) → IsIn (shape_of c.forest) e x → x ≡ d))
answered i c seen e r h = subst (λ (w : Program _ _). MatchOption r ((d : Place) → IsIn (shape_of w.forest) e d → ⊥) (λ d. IsIn (shape_of w.forest) e d × HoldsInUse w.forest d × ((x : Place) → IsIn (shape_of w.forest) e x → x ≡ d))) seen h

module _ {O B : Type 0} (c : Program O B) (known : AreListed c) where
  -- what a place stands in, by handles
  by_handles : (e d : Place) → HoldsInUse c.forest e → IsIn (shape_of c.forest) e d → StandsIn c (node_at c e) (node_at c d)
  by_handles (Op i) (Block k) used w = block_of_slot c (in_blocks c known) (handle (pointer_to c.forest.ops i)) k (node_live c (Op i) used) w
  by_handles (Block i) (RegionPlace k) used w = region_of_slot c (in_regions c known) (handle (pointer_to c.forest.blocks i)) k (node_live c (Block i) used) w
  by_handles (RegionPlace i) (Op k) used w = operation_of_slot c (in_ops c known) (handle (pointer_to c.forest.regions i)) k (node_live c (RegionPlace i) used) w
  by_handles (Op i) (Op k) used w = absurd w
  by_handles (Op i) (RegionPlace k) used w = absurd w
  by_handles (Block i) (Op k) used w = absurd w
  by_handles (Block i) (Block k) used w = absurd w
  by_handles (RegionPlace i) (Block k) used w = absurd w
  by_handles (RegionPlace i) (RegionPlace k) used w = absurd w

  by_slots : (e : Place) (d : IRNode) → StandsIn c (node_at c e) d → IsIn (shape_of c.forest) e (place_of_node d)
  by_slots (Op i) (BlockNode b) s = slot_in_block c (handle (pointer_to c.forest.ops i)) b s
  by_slots (Block i) (RegionNode r) s = slot_in_region c (handle (pointer_to c.forest.blocks i)) r s
  by_slots (RegionPlace i) (OperationNode p) s = slot_in_operation c (handle (pointer_to c.forest.regions i)) p s
  by_slots (Op i) (OperationNode p) s = absurd s
  by_slots (Op i) (RegionNode r) s = absurd s
  by_slots (Block i) (OperationNode p) s = absurd s
  by_slots (Block i) (BlockNode b) s = absurd s
  by_slots (RegionPlace i) (BlockNode b) s = absurd s
  by_slots (RegionPlace i) (RegionNode r) s = absurd s

  -- which class of entity holds one
  holds_operation : (p : Ptr Operation) (d : IRNode) → StandsIn c (OperationNode p) d → (b : Ptr BasicBlock) × (d ≡ BlockNode b) × StandsInBlock c p b
  holds_operation p (BlockNode b) s = (b, refl, s)
  holds_operation p (OperationNode q) s = absurd s
  holds_operation p (RegionNode r) s = absurd s

  holds_block : (b : Ptr BasicBlock) (d : IRNode) → StandsIn c (BlockNode b) d → (r : Ptr Region) × (d ≡ RegionNode r) × StandsInRegion c b r
  holds_block b (RegionNode r) s = (r, refl, s)
  holds_block b (OperationNode q) s = absurd s
  holds_block b (BlockNode k) s = absurd s

  holds_region : (r : Ptr Region) (d : IRNode) → StandsIn c (RegionNode r) d → (p : Ptr Operation) × (d ≡ OperationNode p) × StandsInOperation c r p
  holds_region r (OperationNode p) s = (p, refl, s)
  holds_region r (BlockNode b) s = absurd s
  holds_region r (RegionNode k) s = absurd s

  -- an entity stands in one other
  one_around : (e d k : IRNode) → StandsIn c e d → StandsIn c e k → d ≡ k
  one_around (OperationNode p) d k s t =
      let a : (b : Ptr BasicBlock) × (d ≡ BlockNode b) × StandsInBlock c p b = holds_operation p d s in
      let z : (b : Ptr BasicBlock) × (k ≡ BlockNode b) × StandsInBlock c p b = holds_operation p k t in
      a.1 ∙ ap BlockNode (one_block c (in_blocks c known) p a.0 z.0 a.2 z.2) ∙ sym z.1
  one_around (BlockNode b) d k s t =
      let a : (r : Ptr Region) × (d ≡ RegionNode r) × StandsInRegion c b r = holds_block b d s in
      let z : (r : Ptr Region) × (k ≡ RegionNode r) × StandsInRegion c b r = holds_block b k t in
      a.1 ∙ ap RegionNode (one_region c (in_regions c known) b a.0 z.0 a.2 z.2) ∙ sym z.1
  one_around (RegionNode r) d k s t =
      let a : (p : Ptr Operation) × (d ≡ OperationNode p) × StandsInOperation c r p = holds_region r d s in
      let z : (p : Ptr Operation) × (k ≡ OperationNode p) × StandsInOperation c r p = holds_region r k t in
      a.1 ∙ ap OperationNode (one_operation c (in_ops c known) r a.0 z.0 a.2 z.2) ∙ sym z.1

  holder_used : (e d : Place) → IsIn (shape_of c.forest) e d → HoldsInUse c.forest d
  holder_used (Op i) (Block k) w = known.forest.ops.holders k i w
  holder_used (Block i) (RegionPlace k) w = known.forest.blocks.holders k i w
  holder_used (RegionPlace i) (Op k) w = known.forest.regions.holders k i w
  holder_used (Op i) (Op k) w = absurd w
  holder_used (Op i) (RegionPlace k) w = absurd w
  holder_used (Block i) (Op k) w = absurd w
  holder_used (Block i) (Block k) w = absurd w
  holder_used (RegionPlace i) (Block k) w = absurd w
  holder_used (RegionPlace i) (RegionPlace k) w = absurd w

  way : (n : ℕ) (e : Place) → EndsWithin (shape_of c.forest) n e → HoldsInUse c.forest e → IsWayUp c (node_at c e) (map (node_at c) (climb n (shape_of c.forest) (Some e)))
  way _ _ (ends_here n e none) used =
      subst (λ (r : List Place). IsWayUp c (node_at c e) (node_at c e ∷ map (node_at c) r)) (sym (ap (climb n (shape_of c.forest)) none ∙ climb_none n (shape_of c.forest)))
      (top (node_at c e) (λ d s. around_none (shape_of c.forest) e none (place_of_node d) (by_slots e d s)))
  way _ _ (goes_on n e d is w) used =
      let within : IsIn (shape_of c.forest) e d = around_in (shape_of c.forest) e d is in
      let stands : StandsIn c (node_at c e) (node_at c d) = by_handles e d used within in
      subst (λ (o : Option Place). IsWayUp c (node_at c e) (node_at c e ∷ map (node_at c) (climb n (shape_of c.forest) o))) (sym is)
      (up (node_at c e) (node_at c d) (map (node_at c) (climb n (shape_of c.forest) (Some d))) stands (λ k t. one_around (node_at c e) k (node_at c d) t stands) (way n d w (holder_used e d within)))

  pub way-up : StandInOne (shape_of c.forest) → (x : IRNode) → IsLiveNode c x → IsWayUp c x (nodes_around c x)
  unfolding nodes_around climb_of
  way-up one x live =
      subst (λ (z : IRNode). IsWayUp c z (map (node_at c) (climb (levels (suc (length c.forest.ops))) (shape_of c.forest) (Some (place_of_node x))))) (node_back c x live)
      (way (levels (suc (length c.forest.ops))) (place_of_node x) (all_end c.forest known.forest one (place_of_node x) (place_used c x live)) (place_used c x live))

-- the way up begins with the entity
pub from-inner : {O B : Type 0} (c : Program O B) (x : IRNode) → map (node_at c) (climb_of c.forest (place_of_node x)) ≡ nodes_around c x
unfolding nodes_around
from-inner c x = refl
