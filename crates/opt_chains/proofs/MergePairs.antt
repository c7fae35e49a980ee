-- One block joined behind another: what erasing the branch, moving the operations and erasing the block make together.
use Rattle.std.proofs.Common.{◌≡◌, ◌≢◌, ◌⊎◌, inl, inr, ⊎_elim, ℕ, List, [], ◌∷◌, ◌++◌, length, Option, Some, None, IsSome, is_some, option_map, unwrap_or, remove, slice_get, refl, sym, ap, ◌∙◌, subst}
use Rattle.ir_base.specs.declared.types.TypeHandle.{TypeHandle}
use Rattle.ir_program.specs.Definers.{StandsAtDefiner, values_at}
use Rattle.ir_program.specs.Edits.{AppendsBlock}
use Rattle.ir_program.specs.Erased.{IsApart, ErasesOperation, ErasesBlock, definer_node}
use Rattle.ir_program.specs.Lists.{operations_in, blocks_in, regions_in, StandsInBlock, StandsInRegion, StandsInside, itself, in_block, in_region, in_operation}
use Rattle.ir_program.specs.Program.{Program, OperationView, BlockView, RegionView, operation_at, block_at, region_at, results_at, type_at, IsLiveValue}
use Rattle.ir_program.specs.Replacing.{same_block}
use Rattle.ir_program.specs.Rows.{operands_at, successors_at}
use Rattle.ir_program.specs.Uses.{IsUsed}
use Rattle.ir_program.specs.declared.handles.DefiningEntity.{DefiningEntity}
use Rattle.ir_program.specs.declared.handles.DefiningEntity.TheVariants.{Op as ByOp, Block as ByBlock}
use Rattle.ir_program.specs.declared.handles.IRNode.{IRNode}
use Rattle.ir_program.specs.declared.handles.IRNode.TheVariants.{Operation as OperationNode, Region as RegionNode, BasicBlock as BlockNode}
use Rattle.ir_program.specs.declared.handles.Ptr.{Ptr}
use Rattle.ir_program.specs.declared.handles.Operation.{Operation}
use Rattle.ir_program.specs.declared.handles.Region.{Region}
use Rattle.ir_program.specs.declared.handles.BasicBlock.{BasicBlock}
use Rattle.ir_program.specs.declared.handles.Value.{Value}
use Rattle.ir_program.proofs.made.Frames.{same_or_not}
use Rattle.ir_trees.proofs.Members.{Has, Once, at_has, once_of}
use Rattle.ir_trees.proofs.HandleTests.{block_no}
use Rattle.opt_inside.proofs.Around.{HasLists, around_block}
use Rattle.opt_handles.proofs.Handles.{erased_twice, stays_gone}
use Rattle.opt_chains.specs.Merging.{front, without, IsJoint, IsReadyToJoin, JoinsBlocks}
use Rattle.opt_chains.specs.declared.merging.Join.{Join}
use Rattle.opt_chains.proofs.MergeLists.{none_listed, something, last_at, remove_last, found_or_not, left_out, without_none}

-- what defines a value by its node
by_operation : (d : DefiningEntity) (p : Ptr Operation) → definer_node d ≡ OperationNode p → d ≡ ByOp p
by_operation (ByOp q) p e = let s : q ≡ p = cc in ap ByOp s
by_operation (ByBlock b) p e = let s : BlockNode b ≡ OperationNode p = e in cc

by_block : (d : DefiningEntity) (b : Ptr BasicBlock) → definer_node d ≡ BlockNode b → d ≡ ByBlock b
by_block (ByBlock q) b e = let s : q ≡ b = cc in ap ByBlock s
by_block (ByOp p) b e = let s : OperationNode p ≡ BlockNode b = e in cc

-- the region without a block
abbrev less : Ptr BasicBlock → RegionView → RegionView
less a v = record { blocks = without (λ b. same_block b a) v.blocks }

abbrev less_if : Ptr BasicBlock → Option RegionView → Option RegionView
less_if a o = option_map (less a) o

module _ {O B : Type 0} where
  -- nothing but itself is inside an operation without regions
  alone : (c : Program O B) (p : Ptr Operation) (v : OperationView O) → operation_at c p ≡ Some v → v.regions ≡ [] → (e : IRNode) → StandsInside c (OperationNode p) e → e ≡ OperationNode p
  alone c p v there none _ itself = refl
  alone c p v there none _ (in_block q b s i) = let e : BlockNode b ≡ OperationNode p = alone c p v there none (BlockNode b) i in cc
  alone c p v there none _ (in_region b r s i) = let e : RegionNode r ≡ OperationNode p = alone c p v there none (RegionNode r) i in cc
  alone c p v there none _ (in_operation r q s i) =
      let e : OperationNode q ≡ OperationNode p = alone c p v there none (OperationNode q) i in
      let same : q ≡ p = cc in
      let empty : regions_in c p ≡ [] = ap (λ o. unwrap_or (option_map (λ (x : OperationView O). x.regions) o) []) there ∙ none in
      absurd (none_listed s.index r (subst (λ l. slice_get l s.index ≡ Some r) (ap (regions_in c) same ∙ empty) s.here))

  -- nothing but itself is inside a block without operations
  empty_block : (c : Program O B) (b : Ptr BasicBlock) → operations_in c b ≡ [] → (e : IRNode) → StandsInside c (BlockNode b) e → e ≡ BlockNode b
  empty_block c b none _ itself = refl
  empty_block c b none _ (in_block q a s i) =
      let e : BlockNode a ≡ BlockNode b = empty_block c b none (BlockNode a) i in
      let same : a ≡ b = cc in
      absurd (none_listed s.index q (subst (λ l. slice_get l s.index ≡ Some q) (ap (operations_in c) same ∙ none) s.here))
  empty_block c b none _ (in_region a r s i) = let e : RegionNode r ≡ BlockNode b = empty_block c b none (RegionNode r) i in cc
  empty_block c b none _ (in_operation r q s i) = let e : OperationNode q ≡ BlockNode b = empty_block c b none (OperationNode q) i in cc

  -- what an operation takes is used
  pub is_used : (c : Program O B) (q : Ptr Operation) (k : ℕ) (v : Value) → slice_get (operands_at c q) k ≡ Some v → IsUsed c v
  is_used c q k v h = by_case (operation_at c q) refl where
    by_case : (o : Option (OperationView O)) → operation_at c q ≡ o → IsUsed c v
    by_case None e = absurd (none_listed k v (subst (λ x. slice_get (unwrap_or (option_map (λ (y : OperationView O). y.operands) x) []) k ≡ Some v) e h))
    by_case (Some w) e = (q, w, e, k, subst (λ x. slice_get (unwrap_or (option_map (λ (y : OperationView O). y.operands) x) []) k ≡ Some v) e h)

  -- nothing outside a branch names what it defines or holds
  pub branch_apart : (c : Program O B) (z : Ptr BasicBlock) (p : Ptr Operation) (b : Ptr BasicBlock) → IsJoint c z p b → ((v : Value) → IsUsed c v → IsLiveValue c v) → ((v : Value) (ty : TypeHandle) → type_at c v ≡ Some ty → StandsAtDefiner c v ty) → IsApart c (OperationNode p)
  branch_apart c z p b joint used stands = record {
    values = λ q k v h s.
        let e = by_operation v.definer p (alone c p joint.view joint.there joint.regions (definer_node v.definer) s) in
        let ty = something (type_at c v) (used v (is_used c q k v h)) in
        let at = stands v ty.0 ty.1 in
        let empty : results_at c p ≡ [] = ap (λ o. unwrap_or (option_map (λ (x : OperationView O). x.results) o) []) joint.there ∙ joint.results in
        absurd (none_listed at.index (record { value = v; ty = ty.0 }) (subst (λ l. slice_get l at.index ≡ Some (record { value = v; ty = ty.0 })) (ap (values_at c) e ∙ empty) at.stands));
    blocks = λ q k a h s. let e : BlockNode a ≡ OperationNode p = alone c p joint.view joint.there joint.regions (BlockNode a) s in cc;
  }

  module _ (old m1 : Program O B) (j : Join) (ready : IsReadyToJoin old j) (lists : HasLists old) (e1 : ErasesOperation old m1 j.branch) where
    joint : IsJoint old j.first j.branch j.block
    joint = ready.joint

    branch_here : slice_get (operations_in old j.first) (length (front (operations_in old j.first))) ≡ Some j.branch
    branch_here = ap (λ l. slice_get l (length (front (operations_in old j.first)))) joint.ends ∙ last_at (front (operations_in old j.first)) j.branch

    only_branch : (e : IRNode) → StandsInside old (OperationNode j.branch) e → e ≡ OperationNode j.branch
    only_branch e i = alone old j.branch joint.view joint.there joint.regions e i

    operations1 : (p : Ptr Operation) → p ≢ j.branch → operation_at m1 p ≡ operation_at old p
    operations1 p ne = e1.operations p (λ i. let e : OperationNode p ≡ OperationNode j.branch = only_branch (OperationNode p) i in let s : p ≡ j.branch = cc in ne s)

    branch1 : operation_at m1 j.branch ≡ None
    branch1 = (e1.gone (OperationNode j.branch) (ap is_some joint.there) itself).0

    blocks1 : (b : Ptr BasicBlock) → b ≢ j.first → block_at m1 b ≡ block_at old b
    blocks1 b ne = e1.blocks b
        (λ i. let e : BlockNode b ≡ OperationNode j.branch = only_branch (BlockNode b) i in cc)
        (λ s. ne (lists.operations_once j.branch b j.first s.index (length (front (operations_in old j.first))) s.here branch_here).0)

    regions1 : (r : Ptr Region) → region_at m1 r ≡ region_at old r
    regions1 r = e1.regions r (λ i. let e : RegionNode r ≡ OperationNode j.branch = only_branch (RegionNode r) i in cc)

    first1 : block_at m1 j.first ≡ option_map (λ (v : BlockView B). record v { operations = front v.operations }) (block_at old j.first)
    first1 = e1.holder j.first (length (front (operations_in old j.first))) branch_here ∙ shorter (block_at old j.first) joint.ends where
      shorter : (o : Option (BlockView B)) → unwrap_or (option_map (λ (v : BlockView B). v.operations) o) [] ≡ front (unwrap_or (option_map (λ (v : BlockView B). v.operations) o) []) ++ j.branch ∷ []
          → option_map (λ (v : BlockView B). record v { operations = remove v.operations (length (front (unwrap_or (option_map (λ (w : BlockView B). w.operations) o) []))) }) o ≡ option_map (λ (v : BlockView B). record v { operations = front v.operations }) o
      shorter None e = refl
      shorter (Some v) e = ap (λ l. Some (record v { operations = l })) (ap (λ l. remove l (length (front v.operations))) e ∙ remove_last (front v.operations) j.branch)

    pub first_there : IsSome (block_at m1 j.first)
    first_there = subst IsSome (sym first1) (mapped (block_at old j.first) ready.first) where
      mapped : (o : Option (BlockView B)) → IsSome o → IsSome (option_map (λ (v : BlockView B). record v { operations = front v.operations }) o)
      mapped None h = h
      mapped (Some v) h = h

    pub block_there : IsSome (block_at m1 j.block)
    block_there = subst IsSome (sym (blocks1 j.block (λ e. ready.other (sym e)))) ready.block

    blocks_in1 : (r : Ptr Region) → blocks_in m1 r ≡ blocks_in old r
    blocks_in1 r = ap (λ o. unwrap_or (option_map (λ (v : RegionView). v.blocks) o) []) (regions1 r)

    -- the first isn't inside an operation of the block
    pub can_append : HasLists m1 → (q : Ptr Operation) → StandsInBlock m1 q j.block → StandsInside m1 (OperationNode q) (BlockNode j.first) → ⊥
    can_append now q s i =
        let r = ready.together.0 in
        let a = ready.together.1 in
        let b = ready.together.2 in
        let a1 : StandsInRegion m1 j.first r = now.blocks r a.index j.first (ap (λ l. slice_get l a.index) (blocks_in1 r) ∙ a.here) in
        let b1 : StandsInRegion m1 j.block r = now.blocks r b.index j.block (ap (λ l. slice_get l b.index) (blocks_in1 r) ∙ b.here) in
        ⊎_elim
        (λ (e : OperationNode q ≡ BlockNode j.first). cc)
        (λ up. now.operation_apart q j.block s (in_region j.block r b1 up))
        (around_block m1 now (OperationNode q) j.first r a1 i)

    module _ (m2 : Program O B) (e2 : AppendsBlock m1 m2 j.first j.block) where
      emptied : operations_in m2 j.block ≡ []
      emptied = ap (λ o. unwrap_or (option_map (λ (v : BlockView B). v.operations) o) []) e2.donor_edited ∙ none (block_at m1 j.block) where
        none : (o : Option (BlockView B)) → unwrap_or (option_map (λ (v : BlockView B). v.operations) (option_map (λ (v : BlockView B). record v { operations = [] }) o)) [] ≡ []
        none None = refl
        none (Some v) = refl

      pub emptied_there : IsSome (block_at m2 j.block)
      emptied_there = subst IsSome (sym e2.donor_edited) (mapped (block_at m1 j.block) block_there) where
        mapped : (o : Option (BlockView B)) → IsSome o → IsSome (option_map (λ (v : BlockView B). record v { operations = [] }) o)
        mapped None h = h
        mapped (Some v) h = h

      operation2 : (p : Ptr Operation) → ((p ≡ j.branch) × (operation_at m2 p ≡ None)) ⊎ (operation_at m2 p ≡ operation_at old p)
      operation2 p = ⊎_elim
          (λ (e : p ≡ j.branch). inl (e, ap (operation_at m2) e ∙ e2.operations j.branch ∙ branch1))
          (λ (ne : p ≢ j.branch). inr (e2.operations p ∙ operations1 p ne))
          (same_or_not p j.branch)

      -- nothing names the block or its arguments
      pub block_apart : IsApart m2 (BlockNode j.block)
      block_apart = record {
        values = λ q k v h s.
            let e = by_block v.definer j.block (empty_block m2 j.block emptied (definer_node v.definer) s) in
            ⊎_elim
            (λ g. absurd (none_listed k v (subst (λ o. slice_get (unwrap_or (option_map (λ (y : OperationView O). y.operands) o) []) k ≡ Some v) g.1 h)))
            (λ same. absurd (ready.unused q k v (subst (λ o. slice_get (unwrap_or (option_map (λ (y : OperationView O). y.operands) o) []) k ≡ Some v) same h) e))
            (operation2 q);
        blocks = λ q k b h s.
            let n : BlockNode b ≡ BlockNode j.block = empty_block m2 j.block emptied (BlockNode b) s in
            let e : b ≡ j.block = cc in
            ⊎_elim
            (λ g. absurd (none_listed k b (subst (λ o. slice_get (unwrap_or (option_map (λ (y : OperationView O). y.successors) o) []) k ≡ Some b) g.1 h)))
            (λ same.
            let here : slice_get (successors_at old q) k ≡ Some b = subst (λ o. slice_get (unwrap_or (option_map (λ (y : OperationView O). y.successors) o) []) k ≡ Some b) same h in
            let is : q ≡ j.branch = joint.single q k (subst (λ x. slice_get (successors_at old q) k ≡ Some x) e here) in
            absurd (none_listed k b (subst (λ o. slice_get (unwrap_or (option_map (λ (y : OperationView O). y.successors) o) []) k ≡ Some b) (ap (operation_at m2) is ∙ e2.operations j.branch ∙ branch1) h)))
            (operation2 q);
      }

      -- what the three steps make
      pub joined_blocks : (new : Program O B) → ErasesBlock m2 new j.block → JoinsBlocks old new j
      joined_blocks new e3 = record {
        operations = λ p ne. e3.operations p (λ i. let e : OperationNode p ≡ BlockNode j.block = only_block (OperationNode p) i in cc) ∙ e2.operations p ∙ operations1 p ne;
        branch = stays_gone m2 new e3.erased (OperationNode j.branch) (stays_gone m1 m2 e2.erased (OperationNode j.branch) (e1.gone (OperationNode j.branch) (ap is_some joint.there) itself));
        first = blocks3 j.first ready.other ∙ e2.donee_edited ∙ ap (option_map (λ (v : BlockView B). record v { operations = v.operations ++ operations_in m1 j.block })) first1 ∙ twice (block_at old j.first)
            ∙ ap (λ l. option_map (λ (v : BlockView B). record v { operations = front v.operations ++ l }) (block_at old j.first)) (ap (λ o. unwrap_or (option_map (λ (v : BlockView B). v.operations) o) []) (blocks1 j.block (λ e. ready.other (sym e))));
        block = e3.gone (BlockNode j.block) emptied_there itself;
        blocks = λ b nf nb. blocks3 b nb ∙ e2.others b nf nb ∙ blocks1 b nf;
        regions = λ r. region3 r ∙ ap (less_if j.block) (region2 r);
        erased = erased_twice old m2 new (erased_twice old m1 m2 e1.erased e2.erased) e3.erased;
      } where
        only_block : (e : IRNode) → StandsInside m2 (BlockNode j.block) e → e ≡ BlockNode j.block
        only_block e i = empty_block m2 j.block emptied e i

        blocks3 : (b : Ptr BasicBlock) → b ≢ j.block → block_at new b ≡ block_at m2 b
        blocks3 b ne = e3.blocks b (λ i. let e : BlockNode b ≡ BlockNode j.block = only_block (BlockNode b) i in let s : b ≡ j.block = cc in ne s)

        twice : (o : Option (BlockView B)) → option_map (λ (v : BlockView B). record v { operations = v.operations ++ operations_in m1 j.block }) (option_map (λ (v : BlockView B). record v { operations = front v.operations }) o) ≡ option_map (λ (v : BlockView B). record v { operations = front v.operations ++ operations_in m1 j.block }) o
        twice None = refl
        twice (Some v) = refl

        region2 : (r : Ptr Region) → region_at m2 r ≡ region_at old r
        region2 r = e2.regions r ∙ regions1 r

        with_list : (f g : List (Ptr BasicBlock) → List (Ptr BasicBlock)) (o : Option RegionView) → f (unwrap_or (option_map (λ (v : RegionView). v.blocks) o) []) ≡ g (unwrap_or (option_map (λ (v : RegionView). v.blocks) o) [])
            → option_map (λ (v : RegionView). record v { blocks = f v.blocks }) o ≡ option_map (λ (v : RegionView). record v { blocks = g v.blocks }) o
        with_list f g None e = refl
        with_list f g (Some v) e = ap (λ ps. Some (record { blocks = ps })) e

        same_region : (o : Option RegionView) → o ≡ option_map (λ (v : RegionView). record v { blocks = v.blocks }) o
        same_region None = refl
        same_region (Some v) = refl

        once : (r : Ptr Region) → Once (blocks_in m2 r)
        once r = subst Once (sym (ap (λ o. unwrap_or (option_map (λ (v : RegionView). v.blocks) o) []) (region2 r))) (once_of (blocks_in old r) (λ i k b x y. (lists.blocks_once b r r i k x y).1))

        region3 : (r : Ptr Region) → region_at new r ≡ option_map (λ (v : RegionView). record { blocks = without (λ b. same_block b j.block) v.blocks }) (region_at m2 r)
        region3 r = ⊎_elim
            (λ (here : (k : ℕ) × (slice_get (blocks_in m2 r) k ≡ Some j.block)).
            e3.holder r here.0 here.1 ∙ with_list (λ ps. remove ps here.0) (without (λ b. same_block b j.block)) (region_at m2 r) (sym (left_out j.block (blocks_in m2 r) here.0 (once r) here.1)))
            (λ (none : Has j.block (blocks_in m2 r) → ⊥).
            e3.regions r (λ i. let e : RegionNode r ≡ BlockNode j.block = only_block (RegionNode r) i in cc) (λ s. none (at_has (blocks_in m2 r) s.index j.block s.here)) ∙ same_region (region_at m2 r)
            ∙ with_list (λ ps. ps) (without (λ b. same_block b j.block)) (region_at m2 r)
            (sym (without_none (λ b. same_block b j.block) (blocks_in m2 r) (λ b has. block_no b j.block (λ e. none (subst (λ x. Has x (blocks_in m2 r)) e has))))))
            (found_or_not j.block (blocks_in m2 r))
