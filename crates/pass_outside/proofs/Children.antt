-- What a pass at one of an operation's nested operations leaves.
use Rattle.std.proofs.Common.{◌≡◌, inl, inr, ⊎_elim, [], flat_map, Option, Some, IsSome, Contains, slice_get, refl, sym, ap, subst, ◌∙◌}
use Rattle.std.specs.Prelude.{option_map, unwrap_or}
use Rattle.ir_program.specs.Lists.{operations_in, blocks_in, regions_in, StandsInBlock, StandsInRegion, StandsInOperation, StandsInside, itself, in_block, in_region, in_operation}
use Rattle.ir_program.specs.Program.{Program, OperationView, BlockView, RegionView, operation_at, block_at, region_at}
use Rattle.ir_program.specs.declared.handles.BasicBlock.{BasicBlock}
use Rattle.ir_program.specs.declared.handles.IRNode.{IRNode}
use Rattle.ir_program.specs.declared.handles.IRNode.TheVariants.{Operation as OperationNode, BasicBlock as BlockNode}
use Rattle.ir_program.specs.declared.handles.IRNode.TheVariants.{Region as RegionNode}
use Rattle.ir_program.specs.declared.handles.Operation.{Operation}
use Rattle.ir_program.specs.declared.handles.Ptr.{Ptr}
use Rattle.ir_program.specs.declared.handles.Region.{Region}
use Rattle.ir_program.specs.declared.handles.Value.{Value}
use Rattle.ir_trees.proofs.Members.{has_at}
use Rattle.opt_inside.specs.Occurring.{IsDefinedBelow}
use Rattle.opt_inside.proofs.Around.{inside_both, around_block}
use Rattle.pass_outside.specs.Nested.{IsChild, nested_in, operations_of_region}
use Rattle.pass_outside.specs.Outside.{IsLiveOutside, LeavesOutside}
use Rattle.pass_outside.specs.Sound.{IsSound}
use Rattle.pass_outside.proofs.Lists.{has_contained, from_joined, joined_same}
use Rattle.pass_outside.proofs.Outside.{some_of, has_lists, region_out_of}

module _ {O B : Type 0} where
  -- the nested operations are children
  pub child_of : (c : Program O B) (p : Ptr Operation) → IsSound c → (q : Ptr Operation) → Contains (nested_in c p) q → IsChild c p q
  child_of c p s q listed =
      let at_region = from_joined (operations_of_region c) (regions_in c p) q (has_contained (nested_in c p) q listed) in
      let at_block = from_joined (operations_in c) (blocks_in c at_region.0) q at_region.2 in
      let k = has_at (regions_in c p) at_region.0 at_region.1 in
      let j = has_at (blocks_in c at_region.0) at_block.0 at_block.1 in
      let i = has_at (operations_in c at_block.0) q at_block.2 in
      record {
        block = at_block.0;
        region = at_region.0;
        in_block = s.operations at_block.0 i.0 q i.1;
        in_region = s.blocks at_region.0 j.0 at_block.0 j.1;
        in_operation = s.regions p k.0 at_region.0 k.1;
      }

  -- the lists of what is as it was
  same_operations : (c d : Program O B) (b : Ptr BasicBlock) (v : BlockView B) → block_at c b ≡ Some v → block_at d b ≡ Some v
      → operations_in d b ≡ operations_in c b
  same_operations c d b v was is =
      ap (λ (o : Option (BlockView B)). unwrap_or (option_map (λ (x : BlockView B). x.operations) o) []) (is ∙ sym was)

  same_blocks : (c d : Program O B) (r : Ptr Region) → region_at d r ≡ region_at c r → blocks_in d r ≡ blocks_in c r
  same_blocks c d r same =
      ap (λ (o : Option RegionView). unwrap_or (option_map (λ (x : RegionView). x.blocks) o) []) same

  same_regions : (c d : Program O B) (p : Ptr Operation) (v w : OperationView O) → operation_at c p ≡ Some v → operation_at d p ≡ Some w
      → w.regions ≡ v.regions → regions_in d p ≡ regions_in c p
  same_regions c d p v w was is same =
      let regions = λ (o : Option (OperationView O)). unwrap_or (option_map (λ (x : OperationView O). x.regions) o) [] in
      ap regions is ∙ same ∙ sym (ap regions was)

module _ {O B : Type 0} (c d : Program O B) (p q : Ptr Operation) (sound : IsSound c) (child : IsChild c p q)
    (leaves : LeavesOutside c d q) where
  -- what a child is in isn't inside it
  block_out : StandsInside c (OperationNode q) (BlockNode child.block) → ⊥
  block_out i = sound.operation_apart q child.block child.in_block i

  region_out : StandsInside c (OperationNode q) (RegionNode child.region) → ⊥
  region_out i = block_out (in_region child.block child.region child.in_region i)

  parent_out : StandsInside c (OperationNode q) (OperationNode p) → ⊥
  parent_out i = region_out (in_operation child.region p child.in_operation i)

  parent_live : IsSome (operation_at c p)
  parent_live = child.in_operation.operation

  -- a child is inside its parent, and so is what is inside the child
  up : (e : IRNode) → StandsInside c (OperationNode q) e → StandsInside c (OperationNode p) e
  up e i = inside_both c (OperationNode p) (OperationNode q) e
      (in_block q child.block child.in_block (in_region child.block child.region child.in_region (in_operation child.region p child.in_operation itself))) i

  defined_up : (v : Value) → IsDefinedBelow c q v → IsDefinedBelow c p v
  defined_up v (inl (x, w, below, there, has)) = inl (
    x,
    w,
    record {
      inside = up (OperationNode x) below.inside;
      other = λ (e : x ≡ p). parent_out (subst (λ z. StandsInside c (OperationNode q) (OperationNode z)) e below.inside);
    },
    there,
    has,
  )
  defined_up v (inr (b, w, below, there, has)) = inr (b, w, up (BlockNode b) below, there, has)

  -- what is outside of the child, and its lists
  operation_lists : (x : Ptr Operation) → (StandsInside c (OperationNode q) (OperationNode x) → ⊥) → IsSome (operation_at c x)
      → regions_in d x ≡ regions_in c x
  operation_lists x out live =
      let v = some_of (operation_at c x) live in
      let now = leaves.operations x v.0 out v.1 in
      same_regions c d x v.0 (record v.0 { operands = now.0 }) v.1 now.1 refl

  region_lists : (r : Ptr Region) → IsLiveOutside c q (RegionNode r) → blocks_in d r ≡ blocks_in c r
  region_lists r out = same_blocks c d r (leaves.regions r out)

  block_lists : (b : Ptr BasicBlock) → (StandsInside c (OperationNode q) (BlockNode b) → ⊥) → IsSome (block_at c b)
      → operations_in d b ≡ operations_in c b
  block_lists b out live = let v = some_of (block_at c b) live in same_operations c d b v.0 v.1 (leaves.blocks b v.0 out v.1)

  -- what is listed outside of the child is so afterwards
  block_stays : (x : Ptr Operation) (b : Ptr BasicBlock) → (StandsInside c (OperationNode q) (BlockNode b) → ⊥)
      → StandsInBlock c x b → StandsInBlock d x b
  block_stays x b out s = leaves.sound.operations b s.index x
      (ap (λ l. slice_get l s.index) (block_lists b out s.block) ∙ s.here)

  region_stays : (b : Ptr BasicBlock) (r : Ptr Region) → IsLiveOutside c q (RegionNode r)
      → StandsInRegion c b r → StandsInRegion d b r
  region_stays b r out s = leaves.sound.blocks r s.index b
      (ap (λ l. slice_get l s.index) (region_lists r out) ∙ s.here)

  operation_stays : (r : Ptr Region) (x : Ptr Operation) → (StandsInside c (OperationNode q) (OperationNode x) → ⊥)
      → StandsInOperation c r x → StandsInOperation d r x
  operation_stays r x out s = leaves.sound.regions x s.index r
      (ap (λ l. slice_get l s.index) (operation_lists x out s.operation) ∙ s.here)

  -- so the child is one afterwards
  pub child_stays : IsChild d p q
  child_stays = record {
    block = child.block;
    region = child.region;
    in_block = block_stays q child.block block_out child.in_block;
    in_region = region_stays child.block child.region (p, child.in_operation, parent_out) child.in_region;
    in_operation = operation_stays child.region p parent_out child.in_operation;
  }

  -- a region that is inside the parent and outside of the child is so with its operation
  owner_out : (e : IRNode) → StandsInside c (OperationNode p) e → (r : Ptr Region) → e ≡ RegionNode r
      → (StandsInside c (OperationNode q) (RegionNode r) → ⊥) → IsLiveOutside c q (RegionNode r)
  owner_out _ itself r e out = cc
  owner_out _ (in_block x b s i) r e out = cc
  owner_out _ (in_region b z s i) r e out = cc
  owner_out _ (in_operation z x s i) r e out =
      let same : z ≡ r = cc in
      let here : StandsInOperation c r x = subst (λ y. StandsInOperation c y x) same s in
      (x, here, λ j. out (in_operation r x here j))

  -- what is inside the parent and outside of the child is inside the parent afterwards
  inside_then : (e : IRNode) → (StandsInside c (OperationNode q) e → ⊥) → StandsInside c (OperationNode p) e
      → StandsInside d (OperationNode p) e
  inside_then e out itself = itself
  inside_then _ out (in_block x b s i) =
      let above : StandsInside c (OperationNode q) (BlockNode b) → ⊥ = λ j. out (in_block x b s j) in
      in_block x b (block_stays x b above s) (inside_then (BlockNode b) above i)
  inside_then _ out (in_region b r s i) =
      let above : StandsInside c (OperationNode q) (RegionNode r) → ⊥ = λ j. out (in_region b r s j) in
      in_region b r (region_stays b r (owner_out (RegionNode r) i r refl above) s) (inside_then (RegionNode r) above i)
  inside_then _ out (in_operation r x s i) =
      let above : StandsInside c (OperationNode q) (OperationNode x) → ⊥ = λ j. out (in_operation r x s j) in
      in_operation r x (operation_stays r x above s) (inside_then (OperationNode x) above i)

  -- and what is so afterwards was
  was_inside : (e : IRNode) → (StandsInside d (OperationNode q) e → ⊥) → StandsInside d (OperationNode p) e
      → IsLiveOutside c q e × StandsInside c (OperationNode p) e
  was_inside _ out itself = ((parent_live, parent_out), itself)
  was_inside _ out (in_block x b s i) =
      let above = was_inside (BlockNode b) (λ j. out (in_block x b s j)) i in
      let lists = block_lists b above.0.1 above.0.0 in
      let at = sound.operations b s.index x (ap (λ l. slice_get l s.index) (sym lists) ∙ s.here) in
      (leaves.none_come x s.operation out, in_block x b at above.1)
  was_inside _ out (in_region b r s i) =
      let above = was_inside (RegionNode r) (λ j. out (in_region b r s j)) i in
      let lists = region_lists r above.0 in
      let at = sound.blocks r s.index b (ap (λ l. slice_get l s.index) (sym lists) ∙ s.here) in (
        (
          at.block,
          λ j. ⊎_elim
              (λ (e : OperationNode q ≡ BlockNode b). cc)
              (region_out_of c sound q r above.0)
              (around_block c (has_lists c sound) (OperationNode q) b r at j),
        ),
        in_region b r at above.1,
      )
  was_inside _ out (in_operation r x s i) =
      let above = was_inside (OperationNode x) (λ j. out (in_operation r x s j)) i in
      let lists = operation_lists x above.0.1 above.0.0 in
      let at = sound.regions x s.index r (ap (λ l. slice_get l s.index) (sym lists) ∙ s.here) in
      ((x, at, above.0.1), in_operation r x at above.1)

  -- what is outside of the parent is so afterwards
  stay_outer : (e : IRNode) → IsLiveOutside c p e → IsLiveOutside d p e
  stay_outer (OperationNode x) out =
      let still = leaves.stays (OperationNode x) (out.0, λ i. out.1 (up (OperationNode x) i)) in
      (still.0, λ i. out.1 (was_inside (OperationNode x) still.1 i).1)
  stay_outer (BlockNode b) out =
      let still = leaves.stays (BlockNode b) (out.0, λ i. out.1 (up (BlockNode b) i)) in
      (still.0, λ i. out.1 (was_inside (BlockNode b) still.1 i).1)
  stay_outer (RegionNode r) out =
      let x = out.0 in
      let child_out : StandsInside c (OperationNode q) (OperationNode x) → ⊥ = λ i. out.2 (up (OperationNode x) i) in
      let still = leaves.stays (OperationNode x) (out.1.operation, child_out) in
      (x, operation_stays r x child_out out.1, λ i. out.2 (was_inside (OperationNode x) still.1 i).1)

  -- what is left outside of a child is left outside of its parent
  pub left_in_child : LeavesOutside c d p
  left_in_child = record {
    sound = leaves.sound;
    live = child_stays.in_operation.operation;
    operations = λ x v out there.
        let now = leaves.operations x v (λ i. out (up (OperationNode x) i)) there in (
          now.0,
          now.1,
          record { count = now.2.count; kept = λ k u here other. now.2.kept k u here (λ below. other (defined_up u below)) },
        );
    blocks = λ b v out there. leaves.blocks b v (λ i. out (up (BlockNode b) i)) there;
    regions = λ r out. leaves.regions r (out.0, out.1, λ i. out.2 (up (OperationNode out.0) i));
    stays = stay_outer;
    none_come = λ x there out.
        let outer : StandsInside d (OperationNode q) (OperationNode x) → ⊥ =
        λ i. out (inside_both d (OperationNode p) (OperationNode q) (OperationNode x)
        (in_block q child_stays.block child_stays.in_block
        (in_region child_stays.block child_stays.region child_stays.in_region (in_operation child_stays.region p child_stays.in_operation itself))) i) in
        let was = leaves.none_come x there outer in
        (was.0, λ i. out (inside_then (OperationNode x) was.1 i));
  }

  -- and the nested operations of the parent are the same
  pub children_stay : nested_in d p ≡ nested_in c p
  children_stay =
      let lists = operation_lists p parent_out parent_live in
      ap (flat_map (operations_of_region d)) lists ∙ joined_same (operations_of_region d) (operations_of_region c) (regions_in c p) (λ r has.
      let k = has_at (regions_in c p) r has in
      let at = sound.regions p k.0 r k.1 in
      let own : IsLiveOutside c q (RegionNode r) = (p, at, parent_out) in
      let out = region_out_of c sound q r own in
      ap (flat_map (operations_in d)) (region_lists r own)
      ∙ joined_same (operations_in d) (operations_in c) (blocks_in c r) (λ b in_r.
      let i = has_at (blocks_in c r) b in_r in
      let there = sound.blocks r i.0 b i.1 in
      block_lists b (λ j. ⊎_elim
      (λ (e : OperationNode q ≡ BlockNode b). cc)
      out
      (around_block c (has_lists c sound) (OperationNode q) b r there j)) there.block))
