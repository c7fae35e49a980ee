-- The operation at a place of the root's tree is the operation of the program that its handle leads to, where it is.
use Rattle.std.proofs.Common.{◌≡◌, ◌≢◌, ℕ, zero, suc, List, [], ◌∷◌, Option, Some, None, IsSome, option_map, option_and_then, unwrap_or, slice_get, refl, sym, ap, ◌∙◌, subst}
use Rattle.ir_program.specs.Lists.{StandsInBlock, StandsInRegion, StandsInOperation, StandsInside, itself, in_block, in_region, in_operation, operations_in, blocks_in, regions_in}
use Rattle.ir_program.specs.Program.{Program, OperationView, BlockView, RegionView}
use Rattle.ir_program.specs.declared.handles.IRNode.TheVariants.{Operation as OperationNode, BasicBlock as BlockNode}
use Rattle.ir_program.specs.declared.handles.Ptr.{Ptr}
use Rattle.ir_program.specs.declared.handles.Operation.{Operation}
use Rattle.ir_program.specs.declared.handles.Region.{Region}
use Rattle.ir_program.specs.declared.handles.BasicBlock.{BasicBlock}
use Rattle.ir_trees.specs.Stands.{ProgramTree, head_of, label_of, AreTree, no_operations, no_blocks, no_regions, first_operation, first_block, first_region, StandsFor}
use Rattle.ir_trees.specs.Trees.{Operations, Blocks, Regions, end, operation, block, region}
use Rattle.ir_trees.specs.Places.{AnOperation, reached, at_place}
use Rattle.opt_inside.proofs.Around.{HasLists, not_root}
use Rattle.kit_checks.specs.Sites.{Listed, Body, operation_list, block_list, region_list, Site, site_from, site_at}
use Rattle.kit_checks.specs.Located.{IsBody, RegionHasBlocks, AreOuter, at_root, further, IsSiteOf}

module _ {O B : Type 0} (c : Program O B) where
  -- members of lists of trees, and of lists of handles
  pub operation_listed : (ps : List (Ptr Operation)) (ops : Listed O B Operations) → AreTree c Operations ps ops → (k : ℕ) (u : ProgramTree O B) → slice_get (operation_list ops) k ≡ Some u →
      (slice_get ps k ≡ Some u.head.name) × StandsFor c u.head.name u
  operation_listed _ _ no_operations k u h = cc
  operation_listed _ _ (first_operation p ps v rs rest there below behind) zero u h =
      let tree : ProgramTree O B = record { head = head_of p v; regions = rs } in
      let same : tree ≡ u = cc in
      (ap (λ (x : ProgramTree O B). Some x.head.name) same, subst (λ (x : ProgramTree O B). StandsFor c x.head.name x) same (record { view = v; there = there; head = refl; regions = below }))
  operation_listed _ _ (first_operation p ps v rs rest there below behind) (suc k) u h = operation_listed ps rest behind k u h

  pub block_listed : (bs : List (Ptr BasicBlock)) (blocks : Listed O B Blocks) → AreTree c Blocks bs blocks → (k : ℕ) (body : Body O B) → slice_get (block_list blocks) k ≡ Some body →
      (slice_get bs k ≡ Some body.label.name) × IsBody c body.label.name body
  block_listed _ _ no_blocks k u h = cc
  block_listed _ _ (first_block p ps v ops rest there below behind) zero u h =
      let body : Body O B = record { label = label_of p v; operations = ops } in
      let same : body ≡ u = cc in
      (ap (λ (x : Body O B). Some x.label.name) same, subst (λ (x : Body O B). IsBody c x.label.name x) same (record { view = v; there = there; label = refl; operations = below }))
  block_listed _ _ (first_block p ps v rs rest there below behind) (suc k) u h = block_listed ps rest behind k u h

  pub region_listed : (rs : List (Ptr Region)) (regions : Listed O B Regions) → AreTree c Regions rs regions → (k : ℕ) (blocks : Listed O B Blocks) → slice_get (region_list regions) k ≡ Some blocks →
      (r : Ptr Region) × (slice_get rs k ≡ Some r) × RegionHasBlocks c r blocks
  region_listed _ _ no_regions k u h = cc
  region_listed _ _ (first_region p ps v bs rest there below behind) zero u h =
      let same : bs ≡ u = cc in
      let list : v.blocks ≡ blocks_in c p = sym (ap (λ o. unwrap_or (option_map (λ (x : RegionView). x.blocks) o) []) there) in
      (p, refl, record { there = subst IsSome (sym there) refl; listed = subst (AreTree c Blocks (blocks_in c p)) same (subst (λ l. AreTree c Blocks l bs) list below) })
  region_listed _ _ (first_region p ps v rs rest there below behind) (suc k) u h = region_listed ps rest behind k u h

  -- what a tree says of lists
  pub regions_are : (op : Ptr Operation) (t : ProgramTree O B) (s : StandsFor c op t) → s.view.regions ≡ regions_in c op
  regions_are op t s = sym (ap (λ o. unwrap_or (option_map (λ (x : OperationView O). x.regions) o) []) s.there)

  pub operations_are : (b : Ptr BasicBlock) (body : Body O B) (s : IsBody c b body) → s.view.operations ≡ operations_in c b
  operations_are b body s = sym (ap (λ o. unwrap_or (option_map (λ (x : BlockView B). x.operations) o) []) s.there)

  module _ (lists : HasLists c) (root : Ptr Operation) where
    -- one step down: from an operation to one of a block of a region of it
    down : (op : Ptr Operation) (s : Site O B) (outer : List (ProgramTree O B)) → IsSiteOf c root op s → AreOuter c root op outer →
        (r b k : ℕ) (blocks : Listed O B Blocks) (body : Body O B) (u : ProgramTree O B) →
        slice_get (region_list s.op.regions) r ≡ Some blocks → slice_get (block_list blocks) b ≡ Some body → slice_get (operation_list body.operations) k ≡ Some u →
        IsSiteOf c root u.head.name (record { op = u; around = Some (record { owner = s.op; outer = outer; blocks = blocks; number = b; body = body; index = k }) })
        × AreOuter c root u.head.name (s.op ∷ outer)
    down op s outer site around r b k blocks body u hr hb hk =
        let region = region_listed site.tree.view.regions s.op.regions site.tree.regions r blocks hr in
        let owned : StandsInOperation c region.0 op = lists.regions op r region.0 (subst (λ l. slice_get l r ≡ Some region.0) (regions_are op s.op site.tree) region.1) in
        let block = block_listed (blocks_in c region.0) blocks region.2.listed b body hb in
        let in_r : StandsInRegion c body.label.name region.0 = lists.blocks region.0 b body.label.name block.0 in
        let it = operation_listed block.1.view.operations body.operations block.1.operations k u hk in
        let here : slice_get (operations_in c body.label.name) k ≡ Some u.head.name = subst (λ l. slice_get l k ≡ Some u.head.name) (operations_are body.label.name body block.1) it.0 in
        let in_b : StandsInBlock c u.head.name body.label.name = lists.operations body.label.name k u.head.name here in
        let below : StandsInside c (OperationNode root) (BlockNode body.label.name) = in_region body.label.name region.0 in_r (in_operation region.0 op owned site.inside) in
        let other : u.head.name ≢ root = not_root c lists root u.head.name body.label.name in_b below in (
          record {
            inside = in_block u.head.name body.label.name in_b below;
            tree = it.1;
            around = record {
              other = other;
              owner = op;
              owner_is = site.tree;
              outer = around;
              region = region.0;
              in_owner = owned;
              blocks = region.2.listed;
              block = body.label.name;
              in_region = in_r;
              number = block.0;
              body = block.1;
              in_block = in_b;
              index = here;
            };
          },
          further u.head.name op s.op outer other (record { block = body.label.name; region = region.0; in_block = in_b; in_region = in_r; in_owner = owned }) site.tree around,
        )

-- a chain of lookups that finds something finds something at each step
pub both : {X Y : Type 0} (f : X → Option Y) (o : Option X) (y : Y) → option_and_then f o ≡ Some y → (x : X) × (o ≡ Some x) × (f x ≡ Some y)
both f None y h = cc
both f (Some x) y h = (x, refl, h)

module _ {O B : Type 0} where
  -- the site that is one step down
  abbrev pub step_to : Site O B → List (ProgramTree O B) → Listed O B Blocks → ℕ → Body O B → ℕ → ProgramTree O B → Site O B
  step_to s outer blocks b body k u = record { op = u; around = Some (record { owner = s.op; outer = outer; blocks = blocks; number = b; body = body; index = k }) }

  pub record Steps (s : Site O B) (outer : List (ProgramTree O B)) (r b k : ℕ) (p : List ℕ) (x : Site O B) : Type 0 where
    pub blocks : Listed O B Blocks
    pub body : Body O B
    pub op : ProgramTree O B
    pub region_here : slice_get (region_list s.op.regions) r ≡ Some blocks
    pub block_here : slice_get (block_list blocks) b ≡ Some body
    pub op_here : slice_get (operation_list body.operations) k ≡ Some op
    pub goes_on : site_from (step_to s outer blocks b body k op) (s.op ∷ outer) p ≡ Some x

  pub stepped : (s : Site O B) (outer : List (ProgramTree O B)) (r b k : ℕ) (p : List ℕ) (x : Site O B) → site_from s outer (r ∷ b ∷ k ∷ p) ≡ Some x → Steps s outer r b k p x
  stepped s outer r b k p x h =
      let f : Listed O B Blocks → Body O B → ProgramTree O B → Option (Site O B) = λ blocks body op. site_from (step_to s outer blocks b body k op) (s.op ∷ outer) p in
      let one = both (λ blocks. option_and_then (λ (body : Body O B). option_and_then (f blocks body) (slice_get (operation_list body.operations) k)) (slice_get (block_list blocks) b)) (slice_get (region_list s.op.regions) r) x h in
      let two = both (λ (body : Body O B). option_and_then (f one.0 body) (slice_get (operation_list body.operations) k)) (slice_get (block_list one.0) b) x one.2 in
      let three = both (f one.0 two.0) (slice_get (operation_list two.0.operations) k) x two.2 in
      record { blocks = one.0; body = two.0; op = three.0; region_here = one.1; block_here = two.1; op_here = three.1; goes_on = three.2 }

  -- what is reached in a list is reached in its member
  in_operations : (ops : Listed O B Operations) (k : ℕ) (u : ProgramTree O B) → slice_get (operation_list ops) k ≡ Some u → (p : List ℕ) → reached ops k p ≡ at_place u p
  in_operations end k u h p = cc
  in_operations (operation g rs rest) zero u h [] = ap (λ x. Some (AnOperation x)) (let tree : ProgramTree O B = record { head = g; regions = rs } in let e : tree ≡ u = cc in e)
  in_operations (operation g rs rest) zero u h (j ∷ p) = ap (λ (x : ProgramTree O B). reached x.regions j p) (let tree : ProgramTree O B = record { head = g; regions = rs } in let e : tree ≡ u = cc in e)
  in_operations (operation g rs rest) (suc k) u h p = in_operations rest k u h p

  in_blocks : (bs : Listed O B Blocks) (b : ℕ) (body : Body O B) → slice_get (block_list bs) b ≡ Some body → (k : ℕ) (p : List ℕ) → reached bs b (k ∷ p) ≡ reached body.operations k p
  in_blocks end b body h k p = cc
  in_blocks (block l ops rest) zero body h k p = ap (λ (x : Body O B). reached x.operations k p) (let mine : Body O B = record { label = l; operations = ops } in let e : mine ≡ body = cc in e)
  in_blocks (block l ops rest) (suc b) body h k p = in_blocks rest b body h k p

  in_regions : (rs : Listed O B Regions) (r : ℕ) (blocks : Listed O B Blocks) → slice_get (region_list rs) r ≡ Some blocks → (b : ℕ) (p : List ℕ) → reached rs r (b ∷ p) ≡ reached blocks b p
  in_regions end r blocks h b p = cc
  in_regions (region bs rest) zero blocks h b p = ap (λ x. reached x b p) (let e : bs ≡ blocks = cc in e)
  in_regions (region bs rest) (suc r) blocks h b p = in_regions rest r blocks h b p

  -- a site is at its place in the tree
  site_reached : (s : Site O B) (outer : List (ProgramTree O B)) (p : List ℕ) (x : Site O B) → site_from s outer p ≡ Some x → at_place s.op p ≡ Some (AnOperation x.op)
  site_reached s outer [] x h = ap (λ (y : Option (Site O B)). option_map (λ (z : Site O B). AnOperation z.op) y) h
  site_reached s outer (r ∷ []) x h = cc
  site_reached s outer (r ∷ b ∷ []) x h = cc
  site_reached s outer (r ∷ b ∷ k ∷ p) x h =
      let d = stepped s outer r b k p x h in
      in_regions s.op.regions r d.blocks d.region_here b (k ∷ p) ∙ in_blocks d.blocks b d.body d.block_here k p ∙ in_operations d.body.operations k d.op d.op_here p
      ∙ site_reached (step_to s outer d.blocks b d.body k d.op) (s.op ∷ outer) p x d.goes_on

  pub place_of_site : (t : ProgramTree O B) (p : List ℕ) (x : Site O B) → site_at t p ≡ Some x → at_place t p ≡ Some (AnOperation x.op)
  place_of_site t p x h = site_reached (record { op = t; around = None }) [] p x h

module _ {O B : Type 0} (c : Program O B) (lists : HasLists c) (root : Ptr Operation) where
  located_from : (op : Ptr Operation) (s : Site O B) (outer : List (ProgramTree O B)) → IsSiteOf c root op s → AreOuter c root op outer → (p : List ℕ) (x : Site O B) → site_from s outer p ≡ Some x → IsSiteOf c root x.op.head.name x
  located_from op s outer site around [] x h =
      let same : s ≡ x = cc in
      let named : op ≡ s.op.head.name = sym (ap (λ h. h.name) site.tree.head) in
      subst (λ (z : Site O B). IsSiteOf c root z.op.head.name z) same (subst (λ n. IsSiteOf c root n s) named site)
  located_from op s outer site around (r ∷ []) x h = cc
  located_from op s outer site around (r ∷ b ∷ []) x h = cc
  located_from op s outer site around (r ∷ b ∷ k ∷ p) x h =
      let d = stepped s outer r b k p x h in
      let n = down c lists root op s outer site around r b k d.blocks d.body d.op d.region_here d.block_here d.op_here in
      located_from d.op.head.name (step_to s outer d.blocks b d.body k d.op) (s.op ∷ outer) n.0 n.1 p x d.goes_on

  pub located : (t : ProgramTree O B) → StandsFor c root t → (p : List ℕ) (x : Site O B) → site_at t p ≡ Some x → IsSiteOf c root x.op.head.name x
  located t stands p x h = located_from root (record { op = t; around = None }) [] (record { inside = itself; tree = stands; around = refl }) at_root p x h
