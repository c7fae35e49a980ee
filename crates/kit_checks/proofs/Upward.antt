-- Going up from an operation to the root, and down again by the indices that were met.
use Rattle.std.proofs.Common.{◌≡◌, ◌≢◌, ◌⊎◌, inl, inr, ⊎_elim, ℕ, zero, suc, List, [], ◌∷◌, ◌++◌, map, reverse, Option, Some, None, IsSome, option_map, option_and_then, unwrap_or, slice_get, refl, sym, ap, ◌∙◌, subst}
use Rattle.std.proofs.lemmas.List.{reverse-append}
use Rattle.ir_program.specs.Around.{StandsIn, IsWayUp, top, up}
use Rattle.ir_program.specs.Lists.{IsLiveNode, StandsInside, itself, in_block, in_region, in_operation, operations_in, blocks_in, regions_in}
use Rattle.ir_program.specs.Preorder.{nodes_in}
use Rattle.ir_program.specs.Program.{Program, RegionView, operation_at}
use Rattle.ir_program.specs.declared.handles.IRNode.{IRNode}
use Rattle.ir_program.specs.declared.handles.IRNode.TheVariants.{Operation as OperationNode, Region as RegionNode, BasicBlock as BlockNode}
use Rattle.ir_program.specs.declared.handles.Ptr.{Ptr}
use Rattle.ir_program.specs.declared.handles.Operation.{Operation}
use Rattle.ir_program.specs.declared.handles.Region.{Region}
use Rattle.ir_program.specs.declared.handles.BasicBlock.{BasicBlock}
use Rattle.ir_trees.specs.Stands.{ProgramTree, head_of, label_of, AreTree, no_operations, no_blocks, no_regions, first_operation, first_block, first_region, StandsFor}
use Rattle.ir_trees.specs.Trees.{Operations, Blocks, Regions}
use Rattle.kit_checks.specs.Located.{IsBody, RegionHasBlocks, LeadsDown, IsPlaceOf}
use Rattle.kit_checks.specs.Sites.{Listed, Body, operation_list, block_list, region_list, Site, site_from}
use Rattle.kit_checks.proofs.Down.{operations_are, regions_are}

module _ {O B : Type 0} (c : Program O B) where
  -- what the inner stands in, and what of it is inside the root, is live
  live_inside : (root e : IRNode) → IsLiveNode c root → StandsInside c root e → IsLiveNode c e
  live_inside root _ live itself = live
  live_inside root _ live (in_block p b s i) = s.operation
  live_inside root _ live (in_region b r s i) = s.block
  live_inside root _ live (in_operation r p s i) = s.region

  -- what is inside the root is the root, or is in something that is inside the root
  root_or_held : (root e : IRNode) → StandsInside c root e → (root ≡ e) ⊎ ((d : IRNode) × StandsIn c e d × StandsInside c root d)
  root_or_held root _ itself = inl refl
  root_or_held root _ (in_block p b s i) = inr (BlockNode b, s, i)
  root_or_held root _ (in_region b r s i) = inr (RegionNode r, s, i)
  root_or_held root _ (in_operation r p s i) = inr (OperationNode p, s, i)

  module _ (root op : Ptr Operation) where
    -- these are left of the way up, and the indices that were met lead down again
    pub record IsOnWay (left : List IRNode) (met : List ℕ) : Type 0 where
      pub at : IRNode
      pub way : IsWayUp c at left
      pub inside : StandsInside c (OperationNode root) at
      pub down : LeadsDown c at (reverse met) (OperationNode op)

    pub way_begins : (left : List IRNode) → IsWayUp c (OperationNode op) left → StandsInside c (OperationNode root) (OperationNode op) → IsOnWay left []
    way_begins left way inside = record { at = OperationNode op; way = way; inside = inside; down = refl }

    first_is : (x e : IRNode) (was left : List IRNode) → was ≡ e ∷ left → IsWayUp c x was → x ≡ e
    first_is x e _ left is (top _ none) = cc
    first_is x e _ left is (up _ holder around stands only way) = cc

    pub never_ends : (left : List IRNode) (met : List ℕ) → left ≡ [] → IsOnWay left met → ⊥
    never_ends left met is h = no h.at left is h.way
      where
        no : (x : IRNode) (ys : List IRNode) → ys ≡ [] → IsWayUp c x ys → ⊥
        no x _ is (top _ none) = cc
        no x _ is (up _ holder around stands only way) = cc

    pub next_is_live : (was left : List IRNode) (e : IRNode) (met : List ℕ) → IsSome (operation_at c root) → was ≡ e ∷ left → IsOnWay was met → IsLiveNode c e
    next_is_live was left e met live is h = subst (IsLiveNode c) (first_is h.at e was left is h.way) (live_inside (OperationNode root) h.at live h.inside)

    pub next_is_held : (was left : List IRNode) (e : IRNode) (met : List ℕ) → e ≢ OperationNode root → was ≡ e ∷ left → IsOnWay was met → (d : IRNode) × StandsIn c e d
    next_is_held was left e met other is h = ⊎_elim
        (λ same. absurd (other (sym (same ∙ first_is h.at e was left is h.way))))
        (λ held. (held.0, subst (λ x. StandsIn c x held.0) (first_is h.at e was left is h.way) held.1))
        (root_or_held (OperationNode root) h.at h.inside)

    reversed_more : (xs : List ℕ) (k : ℕ) → reverse (xs ++ k ∷ []) ≡ k ∷ reverse xs
    reversed_more xs k = reverse-append xs (k ∷ [])

    pub way_goes_on : (was left : List IRNode) (e : IRNode) (met : List ℕ) (k : ℕ) → e ≢ OperationNode root → was ≡ e ∷ left →
        ((holder : IRNode) → StandsIn c e holder → slice_get (nodes_in c holder) k ≡ Some e) → IsOnWay was met → IsOnWay left (met ++ k ∷ [])
    way_goes_on was left e met k other is index h = on h.at was is h.way h.inside h.down
      where
        on : (x : IRNode) (ys : List IRNode) → ys ≡ e ∷ left → IsWayUp c x ys → StandsInside c (OperationNode root) x → LeadsDown c x (reverse met) (OperationNode op) → IsOnWay left (met ++ k ∷ [])
        on x _ is (top _ none) inside down = ⊎_elim
            (λ same. let e : x ≡ e = cc in absurd (other (sym (same ∙ e))))
            (λ held. absurd (none held.0 held.1))
            (root_or_held (OperationNode root) x inside)
        on x _ is (up _ holder around stands only way) inside down =
            let first : x ≡ e = cc in
            let rest : around ≡ left = cc in
            let within : StandsInside c (OperationNode root) holder = ⊎_elim
            (λ same. absurd (other (sym (same ∙ first))))
            (λ (held : (d : IRNode) × StandsIn c x d × StandsInside c (OperationNode root) d). subst (StandsInside c (OperationNode root)) (only held.0 held.1) held.2)
            (root_or_held (OperationNode root) x inside) in
            record {
              at = holder;
              way = subst (IsWayUp c holder) rest way;
              inside = within;
              down = subst (λ p. LeadsDown c holder p (OperationNode op)) (sym (reversed_more met k)) (x, index holder (subst (λ z. StandsIn c z holder) first stands) ∙ ap Some (sym first), down);
            }

    pub way_down : (was left : List IRNode) (e : IRNode) (met : List ℕ) → was ≡ e ∷ left → e ≡ OperationNode root → IsOnWay was met → LeadsDown c (OperationNode root) (reverse met) (OperationNode op)
    way_down was left e met is same h = subst (λ x. LeadsDown c x (reverse met) (OperationNode op)) (first_is h.at e was left is h.way ∙ same) h.down

  -- members of lists of handles, and of lists of trees
  pub operation_tree : (ps : List (Ptr Operation)) (ops : Listed O B Operations) → AreTree c Operations ps ops → (k : ℕ) (p : Ptr Operation) → slice_get ps k ≡ Some p →
      (u : ProgramTree O B) × (slice_get (operation_list ops) k ≡ Some u) × StandsFor c p u
  operation_tree _ _ no_operations k p h = cc
  operation_tree _ _ (first_operation q ps v rs rest there below behind) zero p h =
      let same : q ≡ p = cc in
      (record { head = head_of q v; regions = rs }, refl, subst (λ z. StandsFor c z (record { head = head_of q v; regions = rs })) same (record { view = v; there = there; head = refl; regions = below }))
  operation_tree _ _ (first_operation q ps v rs rest there below behind) (suc k) p h = operation_tree ps rest behind k p h

  pub block_tree : (bs : List (Ptr BasicBlock)) (blocks : Listed O B Blocks) → AreTree c Blocks bs blocks → (k : ℕ) (b : Ptr BasicBlock) → slice_get bs k ≡ Some b →
      (body : Body O B) × (slice_get (block_list blocks) k ≡ Some body) × IsBody c b body
  block_tree _ _ no_blocks k p h = cc
  block_tree _ _ (first_block q ps v ops rest there below behind) zero p h =
      let same : q ≡ p = cc in
      (record { label = label_of q v; operations = ops }, refl, subst (λ z. IsBody c z (record { label = label_of q v; operations = ops })) same (record { view = v; there = there; label = refl; operations = below }))
  block_tree _ _ (first_block q ps v ops rest there below behind) (suc k) p h = block_tree ps rest behind k p h

  pub region_tree : (rs : List (Ptr Region)) (regions : Listed O B Regions) → AreTree c Regions rs regions → (k : ℕ) (r : Ptr Region) → slice_get rs k ≡ Some r →
      (blocks : Listed O B Blocks) × (slice_get (region_list regions) k ≡ Some blocks) × RegionHasBlocks c r blocks
  region_tree _ _ no_regions k p h = cc
  region_tree _ _ (first_region q ps v bs rest there below behind) zero p h =
      let same : q ≡ p = cc in
      let list : v.blocks ≡ blocks_in c q = sym (ap (λ o. unwrap_or (option_map (λ (x : RegionView). x.blocks) o) []) there) in
      (bs, refl, subst (λ z. RegionHasBlocks c z bs) same (record { there = subst IsSome (sym there) refl; listed = subst (λ l. AreTree c Blocks l bs) list below }))
  region_tree _ _ (first_region q ps v bs rest there below behind) (suc k) p h = region_tree ps rest behind k p h

  mapped : {X Y : Type 0} (f : X → Y) (xs : List X) (k : ℕ) (y : Y) → slice_get (map f xs) k ≡ Some y → (x : X) × (slice_get xs k ≡ Some x) × (f x ≡ y)
  mapped f [] k y h = cc
  mapped f (x ∷ xs) zero y h = let e : f x ≡ y = cc in (x, refl, e)
  mapped f (x ∷ xs) (suc k) y h = mapped f xs k y h

  -- going down by indices is going down in the tree
  site_below : (root op : Ptr Operation) (s : Site O B) (outer : List (ProgramTree O B)) (path : List ℕ) → StandsFor c root s.op → LeadsDown c (OperationNode root) path (OperationNode op) →
      (x : Site O B) × (site_from s outer path ≡ Some x) × (x.op.head.name ≡ op)
  site_below root op s outer [] stands down = let same : root ≡ op = cc in (s, refl, ap (λ h. h.name) stands.head ∙ same)
  site_below root op s outer (r ∷ []) stands down =
      let a = mapped RegionNode (regions_in c root) r down.0 down.1 in
      let e : RegionNode a.0 ≡ OperationNode op = a.2 ∙ down.2 in cc
  site_below root op s outer (r ∷ b ∷ []) stands down =
      let a = mapped RegionNode (regions_in c root) r down.0 down.1 in
      let i : slice_get (map BlockNode (blocks_in c a.0)) b ≡ Some down.2.0 = subst (λ z. slice_get (nodes_in c z) b ≡ Some down.2.0) (sym a.2) down.2.1 in
      let d = mapped BlockNode (blocks_in c a.0) b down.2.0 i in
      let e : BlockNode d.0 ≡ OperationNode op = d.2 ∙ down.2.2 in cc
  site_below root op s outer (r ∷ b ∷ k ∷ path) stands down =
      let a = mapped RegionNode (regions_in c root) r down.0 down.1 in
      let i : slice_get (map BlockNode (blocks_in c a.0)) b ≡ Some down.2.0 = subst (λ z. slice_get (nodes_in c z) b ≡ Some down.2.0) (sym a.2) down.2.1 in
      let d = mapped BlockNode (blocks_in c a.0) b down.2.0 i in
      let j : slice_get (map OperationNode (operations_in c d.0)) k ≡ Some down.2.2.0 = subst (λ z. slice_get (nodes_in c z) k ≡ Some down.2.2.0) (sym d.2) down.2.2.1 in
      let o = mapped OperationNode (operations_in c d.0) k down.2.2.0 j in
      let rest : LeadsDown c (OperationNode o.0) path (OperationNode op) = subst (λ z. LeadsDown c z path (OperationNode op)) (sym o.2) down.2.2.2 in
      let region = region_tree stands.view.regions s.op.regions stands.regions r a.0 (subst (λ l. slice_get l r ≡ Some a.0) (sym (regions_are c root s.op stands)) a.1) in
      let block = block_tree (blocks_in c a.0) region.0 region.2.listed b d.0 d.1 in
      let it = operation_tree block.2.view.operations block.0.operations block.2.operations k o.0 (subst (λ l. slice_get l k ≡ Some o.0) (sym (operations_are c d.0 block.0 block.2)) o.1) in
      let next : Site O B = record { op = it.0; around = Some (record { owner = s.op; outer = outer; blocks = region.0; number = b; body = block.0; index = k }) } in
      let found = site_below o.0 op next (s.op ∷ outer) path it.2 rest in
      let f : Listed O B Blocks → Body O B → ProgramTree O B → Option (Site O B) = λ blocks body u. site_from (record { op = u; around = Some (record { owner = s.op; outer = outer; blocks = blocks; number = b; body = body; index = k }) }) (s.op ∷ outer) path in
      let g : Listed O B Blocks → Body O B → Option (Site O B) = λ blocks body. option_and_then (f blocks body) (slice_get (operation_list body.operations) k) in
      let at : site_from s outer (r ∷ b ∷ k ∷ path) ≡ f region.0 block.0 it.0 =
      ap (option_and_then (λ blocks. option_and_then (g blocks) (slice_get (block_list blocks) b))) region.1 ∙ ap (option_and_then (g region.0)) block.1 ∙ ap (option_and_then (f region.0 block.0)) it.1 in
      (found.0, at ∙ found.1, found.2)

  pub is_place : (root op : Ptr Operation) (path : List ℕ) → LeadsDown c (OperationNode root) path (OperationNode op) → IsPlaceOf c root op path
  is_place root op path down t stands = site_below root op (record { op = t; around = None }) [] path stands down
