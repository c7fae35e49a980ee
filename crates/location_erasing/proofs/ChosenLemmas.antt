-- Edits of payloads leave what stands where, and one after the other are one.
use Rattle.std.proofs.Common.{◌≡◌, ◌⊎◌, ⊎_elim, List, [], slice_get, Option, Some, None, refl, sym, ap, ◌∙◌, subst}
use Rattle.std.specs.Prelude.{map, option_map, unwrap_or, IsSome}
use Rattle.ir_program.specs.Edits.{KeepsErased}
use Rattle.ir_program.specs.Lists.{operations_in, blocks_in, regions_in, IsLiveNode, StandsInside, itself, in_block, in_region, in_operation}
use Rattle.ir_program.specs.Preorder.{nodes_in}
use Rattle.ir_program.specs.Program.{Program, OperationView, BlockView, RegionView, operation_at, block_at, region_at}
use Rattle.ir_program.specs.declared.handles.BasicBlock.{BasicBlock}
use Rattle.ir_program.specs.declared.handles.IRNode.{IRNode}
use Rattle.ir_program.specs.declared.handles.IRNode.TheVariants.{Operation as OperationNode, Region as RegionNode, BasicBlock as BlockNode}
use Rattle.ir_program.specs.declared.handles.Operation.{Operation}
use Rattle.ir_program.specs.declared.handles.Ptr.{Ptr}
use Rattle.ir_program.specs.declared.handles.Region.{Region}
use Rattle.ir_walks.proofs.Measure.{Told}
use Rattle.location_erasing.specs.Chosen.{repaid, block_repaid, EditsChosen}

erased_then : {O B : Type 0} (a b c : Program O B) → KeepsErased a b → KeepsErased b c → KeepsErased a c
erased_then a b c h i = record {
  operations = λ p s. i.operations p (h.operations p s);
  blocks = λ p s. i.blocks p (h.blocks p s);
  regions = λ p s. i.regions p (h.regions p s);
}

pub erased_same : {O B : Type 0} (a : Program O B) → KeepsErased a a
erased_same a = record { operations = λ p s. s; blocks = λ p s. s; regions = λ p s. s }

module _ {O B : Type 0} (f : O → O) (g : B → B) where
  same_regions : (o : Option (OperationView O)) → unwrap_or (option_map (λ (v : OperationView O). v.regions) (option_map (repaid f) o)) [] ≡ unwrap_or (option_map (λ (v : OperationView O). v.regions) o) []
  same_regions None = refl
  same_regions (Some o) = refl

  same_operations : (o : Option (BlockView B)) → unwrap_or (option_map (λ (v : BlockView B). v.operations) (option_map (block_repaid g) o)) [] ≡ unwrap_or (option_map (λ (v : BlockView B). v.operations) o) []
  same_operations None = refl
  same_operations (Some o) = refl

  some_repaid : (o : Option (OperationView O)) → IsSome o → IsSome (option_map (repaid f) o)
  some_repaid None h = h
  some_repaid (Some o) h = refl

  some_block_repaid : (o : Option (BlockView B)) → IsSome o → IsSome (option_map (block_repaid g) o)
  some_block_repaid None h = h
  some_block_repaid (Some o) h = refl

  module _ (old new : Program O B) (Chosen : IRNode → Type 0) (told : (e : IRNode) → Told (Chosen e)) (edits : EditsChosen old new Chosen f g) where
    regions_kept : (p : Ptr Operation) → regions_in new p ≡ regions_in old p
    regions_kept p = ⊎_elim
        (λ h. ap (λ o. unwrap_or (option_map (λ (v : OperationView O). v.regions) o) []) (edits.operations p h) ∙ same_regions (operation_at old p))
        (λ n. ap (λ o. unwrap_or (option_map (λ (v : OperationView O). v.regions) o) []) (edits.other_operations p n))
        (told (OperationNode p))

    operations_kept : (b : Ptr BasicBlock) → operations_in new b ≡ operations_in old b
    operations_kept b = ⊎_elim
        (λ h. ap (λ o. unwrap_or (option_map (λ (v : BlockView B). v.operations) o) []) (edits.blocks b h) ∙ same_operations (block_at old b))
        (λ n. ap (λ o. unwrap_or (option_map (λ (v : BlockView B). v.operations) o) []) (edits.other_blocks b n))
        (told (BlockNode b))

    blocks_kept : (r : Ptr Region) → blocks_in new r ≡ blocks_in old r
    blocks_kept r = ap (λ o. unwrap_or (option_map (λ (v : RegionView). v.blocks) o) []) (edits.regions r)

    -- what stands in a node stays
    pub nodes_kept : (e : IRNode) → nodes_in new e ≡ nodes_in old e
    nodes_kept (OperationNode p) = ap (λ (rs : List (Ptr Region)). map RegionNode rs) (regions_kept p)
    nodes_kept (RegionNode r) = ap (λ (bs : List (Ptr BasicBlock)). map BlockNode bs) (blocks_kept r)
    nodes_kept (BlockNode b) = ap (λ (ps : List (Ptr Operation)). map OperationNode ps) (operations_kept b)

    operation_live : (p : Ptr Operation) → IsSome (operation_at old p) → IsSome (operation_at new p)
    operation_live p s = ⊎_elim
        (λ h. subst IsSome (sym (edits.operations p h)) (some_repaid (operation_at old p) s))
        (λ n. subst IsSome (sym (edits.other_operations p n)) s)
        (told (OperationNode p))

    block_live : (b : Ptr BasicBlock) → IsSome (block_at old b) → IsSome (block_at new b)
    block_live b s = ⊎_elim
        (λ h. subst IsSome (sym (edits.blocks b h)) (some_block_repaid (block_at old b) s))
        (λ n. subst IsSome (sym (edits.other_blocks b n)) s)
        (told (BlockNode b))

    region_live : (r : Ptr Region) → IsSome (region_at old r) → IsSome (region_at new r)
    region_live r s = subst IsSome (sym (edits.regions r)) s

    pub node_live : (e : IRNode) → IsLiveNode old e → IsLiveNode new e
    node_live (OperationNode p) live = operation_live p live
    node_live (RegionNode r) live = region_live r live
    node_live (BlockNode b) live = block_live b live

    pub stays_inside : (x e : IRNode) → StandsInside old x e → StandsInside new x e
    stays_inside x _ itself = itself
    stays_inside x _ (in_block p b s h) = in_block p b (record {
      operation = operation_live p s.operation;
      block = block_live b s.block;
      index = s.index;
      here = ap (λ es. slice_get es s.index) (operations_kept b) ∙ s.here;
    }) (stays_inside x (BlockNode b) h)
    stays_inside x _ (in_region b r s h) = in_region b r (record {
      block = block_live b s.block;
      region = region_live r s.region;
      index = s.index;
      here = ap (λ es. slice_get es s.index) (blocks_kept r) ∙ s.here;
    }) (stays_inside x (RegionNode r) h)
    stays_inside x _ (in_operation r p s h) = in_operation r p (record {
      region = region_live r s.region;
      operation = operation_live p s.operation;
      index = s.index;
      here = ap (λ es. slice_get es s.index) (regions_kept p) ∙ s.here;
    }) (stays_inside x (OperationNode p) h)

  -- no operation and no block is chosen
  pub none_edited : (c : Program O B) (Chosen : IRNode → Type 0) → ((p : Ptr Operation) → Chosen (OperationNode p) → ⊥) → ((b : Ptr BasicBlock) → Chosen (BlockNode b) → ⊥) → EditsChosen c c Chosen f g
  none_edited c Chosen no_operation no_block = record {
    operations = λ p h. absurd (no_operation p h);
    blocks = λ b h. absurd (no_block b h);
    other_operations = λ p n. refl;
    other_blocks = λ b n. refl;
    regions = λ r. refl;
    erased = erased_same c;
    values = record { types = λ v. refl; counter = refl };
  }

  -- the same nodes, chosen by other words
  pub other_words : (old new : Program O B) (Chosen Said : IRNode → Type 0) → ((e : IRNode) → Chosen e → Said e) → ((e : IRNode) → Said e → Chosen e) → EditsChosen old new Chosen f g → EditsChosen old new Said f g
  other_words old new Chosen Said to from edits = record {
    operations = λ p h. edits.operations p (from (OperationNode p) h);
    blocks = λ b h. edits.blocks b (from (BlockNode b) h);
    other_operations = λ p n. edits.other_operations p (λ h. n (to (OperationNode p) h));
    other_blocks = λ b n. edits.other_blocks b (λ h. n (to (BlockNode b) h));
    regions = edits.regions;
    erased = edits.erased;
    values = edits.values;
  }

  module _ (f_twice : (x : O) → f (f x) ≡ f x) (g_twice : (y : B) → g (g y) ≡ g y) where
    twice : (o : Option (OperationView O)) → option_map (repaid f) (option_map (repaid f) o) ≡ option_map (repaid f) o
    twice None = refl
    twice (Some o) = ap (λ z. Some (record o { payload = z })) (f_twice o.payload)

    block_twice : (o : Option (BlockView B)) → option_map (block_repaid g) (option_map (block_repaid g) o) ≡ option_map (block_repaid g) o
    block_twice None = refl
    block_twice (Some o) = ap (λ z. Some (record o { payload = z })) (g_twice o.payload)

    module _ (a b c : Program O B) (P Q R : IRNode → Type 0) (told : (e : IRNode) → Told (P e)) (told_next : (e : IRNode) → Told (Q e))
        (first : (e : IRNode) → P e → R e) (second : (e : IRNode) → Q e → R e) (either : (e : IRNode) → R e → P e ⊎ Q e)
        (edits : EditsChosen a b P f g) (then : EditsChosen b c Q f g) where
      operations_both : (p : Ptr Operation) → R (OperationNode p) → operation_at c p ≡ option_map (repaid f) (operation_at a p)
      operations_both p r = ⊎_elim
          (λ q. then.operations p q ∙ ⊎_elim
          (λ h. ap (λ o. option_map (repaid f) o) (edits.operations p h) ∙ twice (operation_at a p))
          (λ n. ap (λ o. option_map (repaid f) o) (edits.other_operations p n))
          (told (OperationNode p)))
          (λ m. then.other_operations p m ∙ ⊎_elim
          (λ h. edits.operations p h)
          (λ q. absurd (m q))
          (either (OperationNode p) r))
          (told_next (OperationNode p))

      blocks_both : (p : Ptr BasicBlock) → R (BlockNode p) → block_at c p ≡ option_map (block_repaid g) (block_at a p)
      blocks_both p r = ⊎_elim
          (λ q. then.blocks p q ∙ ⊎_elim
          (λ h. ap (λ o. option_map (block_repaid g) o) (edits.blocks p h) ∙ block_twice (block_at a p))
          (λ n. ap (λ o. option_map (block_repaid g) o) (edits.other_blocks p n))
          (told (BlockNode p)))
          (λ m. then.other_blocks p m ∙ ⊎_elim
          (λ h. edits.blocks p h)
          (λ q. absurd (m q))
          (either (BlockNode p) r))
          (told_next (BlockNode p))

      -- an edit and a later one are one edit of what either chose
      pub one_edit : EditsChosen a c R f g
      one_edit = record {
        operations = operations_both;
        blocks = blocks_both;
        other_operations = λ p n. then.other_operations p (λ q. n (second (OperationNode p) q)) ∙ edits.other_operations p (λ h. n (first (OperationNode p) h));
        other_blocks = λ p n. then.other_blocks p (λ q. n (second (BlockNode p) q)) ∙ edits.other_blocks p (λ h. n (first (BlockNode p) h));
        regions = λ r. then.regions r ∙ edits.regions r;
        erased = erased_then a b c edits.erased then.erased;
        values = record {
          types = λ v. then.values.types v ∙ edits.values.types v;
          counter = then.values.counter ∙ edits.values.counter;
        };
      }
