-- Where a block or an operation of a tree stands, from the root down.
use Rattle.std.proofs.Common.{◌≡◌, ◌≢◌, ◌⊎◌, ◌↔◌, inl, inr, ⊎_elim, ℕ, suc, ◌+◌, true, true≢false, Option, Some, IsSome, List, [], ◌∷◌, option_map, unwrap_or, slice_get, refl, sym, ap, ◌∙◌, subst, arith}
use Rattle.ir_program.specs.Program.{Program, OperationView, BlockView, RegionView, operation_at, block_at, region_at}
use Rattle.ir_program.specs.Lists.{operations_in, blocks_in, regions_in, StandsInBlock, StandsInRegion, StandsInOperation, StandsInside, itself, in_block}
use Rattle.ir_program.specs.declared.handles.IRNode.TheVariants.{Operation as OperationNode, Region as RegionNode, BasicBlock as BlockNode}
use Rattle.ir_program.specs.declared.handles.Ptr.{Ptr}
use Rattle.ir_program.specs.declared.handles.Operation.{Operation}
use Rattle.ir_program.specs.declared.handles.Region.{Region}
use Rattle.ir_program.specs.declared.handles.BasicBlock.{BasicBlock}
use Rattle.ir_trees.specs.Trees.{Sort, Operations, Blocks, Regions}
use Rattle.ir_trees.specs.Stands.{by_handle, in_program, Handles, ProgramTree, head_of, label_of, StandsFor}
use Rattle.opt_trees.specs.Occurrences.{Has, Spot, OperationSite, Inside, inner, next_block, next_region, at_root}
use Rattle.opt_inside.specs.Occurring.{IsBelowRoot, IsBlockBelow, IsSpotOf}
use Rattle.opt_inside.proofs.Around.{HasLists, around_operation, around_block, not_root, is_root, down_to, operation_up, block_up, not_within}

some_there : {X : Type 0} (o : Option X) (x : X) → o ≡ Some x → IsSome o
some_there o x e = subst IsSome (sym e) refl

abbrev pub SpotIn : Type 0 → Type 0 → Type 0
SpotIn O B = Spot by_handle (in_program O B)

abbrev pub SiteIn : Type 0 → Type 0 → Type 0
SiteIn O B = OperationSite by_handle (in_program O B)

module _ {O B : Type 0} where
  module _ (c : Program O B) where
    pub operations_are : (b : Ptr BasicBlock) (v : BlockView B) → block_at c b ≡ Some v → operations_in c b ≡ v.operations
    operations_are b v h = ap (λ o. unwrap_or (option_map (λ (x : BlockView B). x.operations) o) []) h

    pub blocks_are : (r : Ptr Region) (v : RegionView) → region_at c r ≡ Some v → blocks_in c r ≡ v.blocks
    blocks_are r v h = ap (λ o. unwrap_or (option_map (λ (x : RegionView). x.blocks) o) []) h

    pub regions_are : (p : Ptr Operation) (v : OperationView O) → operation_at c p ≡ Some v → regions_in c p ≡ v.regions
    regions_are p v h = ap (λ o. unwrap_or (option_map (λ (x : OperationView O). x.regions) o) []) h

    module _ (op : Ptr Operation) where
      -- the spot is one in a region of this operation, which is the root or inside it
      pub record IsUnder (p : Ptr Operation) (view : OperationView O) (s : SpotIn O B) : Type 0 where
        pub there : operation_at c p ≡ Some view
        pub owner : s.owner ≡ head_of p view
        pub inside : StandsInside c (OperationNode op) (OperationNode p)
        pub around : (a : Ptr Operation) → Has a s.around ↔ (IsBelowRoot c op a × StandsInside c (OperationNode a) (OperationNode p))
        pub within : (x : Ptr BasicBlock) → Has x s.within ↔ (IsBlockBelow c op x × StandsInside c (BlockNode x) (OperationNode p))

      -- the operations are of the block of the site
      pub record AreOfBlock (hs : List (Ptr Operation)) (i : SiteIn O B) : Type 0 where
        pub view : BlockView B
        pub there : block_at c i.label.name ≡ Some view
        pub label : i.label ≡ label_of i.label.name view
        pub below : IsBlockBelow c op i.label.name
        pub spot : IsSpotOf c op i.label.name i.spot
        pub listed : (k : ℕ) (p : Ptr Operation) → slice_get hs k ≡ Some p → StandsInBlock c p i.label.name

      -- the blocks are the last ones of the region of the spot
      pub record AreOfRegion (hs : List (Ptr BasicBlock)) (i : SpotIn O B) : Type 0 where
        pub owner : Ptr Operation
        pub view : OperationView O
        pub region : Ptr Region
        pub under : IsUnder owner view i
        pub stands : StandsInOperation c region owner
        pub index : slice_get view.regions i.region ≡ Some region
        pub passed : ℕ
        pub here : (k : ℕ) → slice_get hs k ≡ slice_get (blocks_in c region) (k + passed)
        pub first : (i.first ≡ true) ↔ (passed ≡ 0)

      -- the regions are the last ones of the operation of the spot
      pub record AreOfOperation (hs : List (Ptr Region)) (i : SpotIn O B) : Type 0 where
        pub owner : Ptr Operation
        pub view : OperationView O
        pub under : IsUnder owner view i
        pub here : (k : ℕ) → slice_get hs k ≡ slice_get view.regions (k + i.region)
        pub first : i.first ≡ true

      abbrev pub StandAt : (s : Sort) → Handles s → Inside by_handle (in_program O B) s → Type 0
      StandAt Operations hs i = AreOfBlock hs i
      StandAt Blocks hs i = AreOfRegion hs i
      StandAt Regions hs i = AreOfOperation hs i

      module _ (lists : HasLists c) where
        under_root : (v : OperationView O) (s : SpotIn O B) → operation_at c op ≡ Some v → s.owner ≡ head_of op v → s.around ≡ [] → s.within ≡ [] → IsUnder op v s
        under_root v s there owner none no_block = record {
          there = there;
          owner = owner;
          inside = itself;
          around = λ a. (
            λ h. absurd (subst (λ l. Has a l) none h),
            λ h. absurd (h.0.other (let e : OperationNode a ≡ OperationNode op = is_root c lists op (OperationNode a) h.0.inside h.1 in cc)),
          );
          within = λ x. (
            λ h. absurd (subst (λ l. Has x l) no_block h),
            λ h. absurd (let e : BlockNode x ≡ OperationNode op = is_root c lists op (BlockNode x) h.0 h.1 in cc),
          );
        }

        pub at_start : (t : ProgramTree O B) (stands : StandsFor c op t) → AreOfOperation stands.view.regions (at_root t)
        at_start t stands = record {
          owner = op;
          view = stands.view;
          under = under_root stands.view (at_root t) stands.there stands.head refl refl;
          here = λ k. let e : k ≡ k + 0 = omega arith in ap (λ n. slice_get stands.view.regions n) e;
          first = refl;
        }

        -- the spot of a block that is one of the region
        spot_of : (b : Ptr BasicBlock) (bs : List (Ptr BasicBlock)) (i : SpotIn O B) → AreOfRegion (b ∷ bs) i → IsSpotOf c op b i
        spot_of b bs i h =
            let at : slice_get (blocks_in c h.region) (0 + h.passed) ≡ Some b = sym (h.here 0) in
            let s : StandsInRegion c b h.region = lists.blocks h.region (0 + h.passed) b at in
            let n : i.owner.name ≡ h.owner = ap (λ (x : _). x.name) h.under.owner in
            record {
              region = h.region;
              in_region = s;
              first = (
                λ e. let z : 0 + h.passed ≡ 0 = omega (arith, h.first.0 e) in subst (λ m. slice_get (blocks_in c h.region) m ≡ Some b) z at,
                λ e. h.first.1 (let z : 0 + h.passed ≡ 0 = (lists.blocks_once b h.region h.region (0 + h.passed) 0 at e).1 in omega (arith, z)),
              );
              owner_view = h.view;
              owner_there = ap (operation_at c) n ∙ h.under.there;
              owner = h.under.owner ∙ ap (λ p. head_of p h.view) (sym n);
              index = h.index;
              around = λ a. (
                λ g. let w = (h.under.around a).0 g in (w.0, down_to c lists b h.region h.owner s h.stands (OperationNode a) w.1),
                λ g. (h.under.around a).1 (g.0, operation_up c lists b h.region h.owner s h.stands a g.1),
              );
              within = λ x. (
                λ g. let w = (h.under.within x).0 g in (w.0, not_within c lists b h.region h.owner s h.stands x w.1, down_to c lists b h.region h.owner s h.stands (BlockNode x) w.1),
                λ g. (h.under.within x).1 (g.0, block_up c lists b h.region h.owner s h.stands x g.1 g.2),
              );
            }

        pub down_block : (b : Ptr BasicBlock) (bs : List (Ptr BasicBlock)) (i : SpotIn O B) (v : BlockView B) → AreOfRegion (b ∷ bs) i → block_at c b ≡ Some v → AreOfBlock v.operations (record { spot = i; label = label_of b v })
        down_block b bs i v h there = record {
          view = v;
          there = there;
          label = refl;
          below = down_to c lists b h.region h.owner (lists.blocks h.region (0 + h.passed) b (sym (h.here 0))) h.stands (OperationNode op) h.under.inside;
          spot = spot_of b bs i h;
          listed = λ k p e. lists.operations b k p (ap (λ l. slice_get l k) (operations_are b v there) ∙ e);
        }

        pub next_of_region : (b : Ptr BasicBlock) (bs : List (Ptr BasicBlock)) (i : SpotIn O B) → AreOfRegion (b ∷ bs) i → AreOfRegion bs (next_block i)
        next_of_region b bs i h = record {
          owner = h.owner;
          view = h.view;
          region = h.region;
          under = record { there = h.under.there; owner = h.under.owner; inside = h.under.inside; around = h.under.around; within = h.under.within };
          stands = h.stands;
          index = h.index;
          passed = suc h.passed;
          here = λ k. h.here (suc k) ∙ (let e : suc k + h.passed ≡ k + suc h.passed = omega arith in ap (λ n. slice_get (blocks_in c h.region) n) e);
          first = ((λ e. absurd (true≢false (sym e))), (λ e. cc));
        }

        pub down_region : (r : Ptr Region) (rs : List (Ptr Region)) (i : SpotIn O B) (v : RegionView) → AreOfOperation (r ∷ rs) i → region_at c r ≡ Some v → AreOfRegion v.blocks i
        down_region r rs i v h there =
            let at : slice_get h.view.regions i.region ≡ Some r = (let e : i.region ≡ 0 + i.region = omega arith in ap (λ n. slice_get h.view.regions n) e) ∙ sym (h.here 0) in
            record {
              owner = h.owner;
              view = h.view;
              region = r;
              under = h.under;
              stands = lists.regions h.owner i.region r (ap (λ l. slice_get l i.region) (regions_are h.owner h.view h.under.there) ∙ at);
              index = at;
              passed = 0;
              here = λ k. ap (λ l. slice_get l k) (sym (blocks_are r v there)) ∙ (let e : k ≡ k + 0 = omega arith in ap (λ n. slice_get (blocks_in c r) n) e);
              first = ((λ e. refl), (λ e. h.first));
            }

        pub next_of_operation : (r : Ptr Region) (rs : List (Ptr Region)) (i : SpotIn O B) → AreOfOperation (r ∷ rs) i → AreOfOperation rs (next_region i)
        next_of_operation r rs i h = record {
          owner = h.owner;
          view = h.view;
          under = record { there = h.under.there; owner = h.under.owner; inside = h.under.inside; around = h.under.around; within = h.under.within };
          here = λ k. h.here (suc k) ∙ (let e : suc k + i.region ≡ k + suc i.region = omega arith in ap (λ n. slice_get h.view.regions n) e);
          first = h.first;
        }

        -- the operation of a block, and what is around its regions
        pub in_its_block : (p : Ptr Operation) (ps : List (Ptr Operation)) (i : SiteIn O B) → AreOfBlock (p ∷ ps) i → StandsInBlock c p i.label.name
        in_its_block p ps i h = h.listed 0 p refl

        pub below_root : (p : Ptr Operation) (ps : List (Ptr Operation)) (i : SiteIn O B) → AreOfBlock (p ∷ ps) i → IsBelowRoot c op p
        below_root p ps i h =
            let s = in_its_block p ps i h in
            record { inside = in_block p i.label.name s h.below; other = not_root c lists op p i.label.name s h.below }

        within_block : (b : Ptr BasicBlock) (i : SpotIn O B) (spot : IsSpotOf c op b i) (x : Ptr BasicBlock) → StandsInside c (BlockNode x) (BlockNode b) → (x ≡ b) ⊎ (x ≢ b)
        within_block b i spot x w = ⊎_elim
            (λ (e : BlockNode x ≡ BlockNode b). let same : x ≡ b = cc in inl same)
            (λ up. inr (λ e. lists.block_apart b spot.region spot.in_region (subst (λ z. StandsInside c (BlockNode z) (RegionNode spot.region)) e up)))
            (around_block c lists (BlockNode x) b spot.region spot.in_region w)

        under_inner : (p : Ptr Operation) (ps : List (Ptr Operation)) (i : SiteIn O B) (v : OperationView O) → AreOfBlock (p ∷ ps) i → operation_at c p ≡ Some v → IsUnder p v (inner (head_of p v) i)
        under_inner p ps i v h there =
            let s = in_its_block p ps i h in
            let b = i.label.name in
            let below = below_root p ps i h in
            record {
              there = there;
              owner = refl;
              inside = below.inside;
              around = λ a. (
                λ g. ⊎_elim
                    (λ e. (subst (IsBelowRoot c op) (sym e) below, subst (λ z. StandsInside c (OperationNode z) (OperationNode p)) (sym e) itself))
                    (λ more. let w = (h.spot.around a).0 more in (w.0, in_block p b s w.1))
                    g,
                λ g. ⊎_elim
                    (λ (e : OperationNode a ≡ OperationNode p). let same : a ≡ p = cc in inl same)
                    (λ w. inr ((h.spot.around a).1 (g.0, w)))
                    (around_operation c lists (OperationNode a) p b s g.1),
              );
              within = λ x. (
                λ g. ⊎_elim
                    (λ e. (subst (IsBlockBelow c op) (sym e) h.below, in_block p b s (subst (λ z. StandsInside c (BlockNode z) (BlockNode b)) (sym e) itself)))
                    (λ more. let w = (h.spot.within x).0 more in (w.0, in_block p b s w.2))
                    g,
                λ g. ⊎_elim
                    (λ (e : BlockNode x ≡ OperationNode p). cc)
                    (λ w. ⊎_elim (λ same. inl same) (λ ne. inr ((h.spot.within x).1 (g.0, ne, w))) (within_block b i.spot h.spot x w))
                    (around_operation c lists (BlockNode x) p b s g.1),
              );
            }

        pub down_operation : (p : Ptr Operation) (ps : List (Ptr Operation)) (i : SiteIn O B) (v : OperationView O) → AreOfBlock (p ∷ ps) i → operation_at c p ≡ Some v → AreOfOperation v.regions (inner (head_of p v) i)
        down_operation p ps i v h there = record {
          owner = p;
          view = v;
          under = under_inner p ps i v h there;
          here = λ k. let e : k ≡ k + 0 = omega arith in ap (λ n. slice_get v.regions n) e;
          first = refl;
        }

        pub next_of_block : (p : Ptr Operation) (ps : List (Ptr Operation)) (i : SiteIn O B) → AreOfBlock (p ∷ ps) i → AreOfBlock ps i
        next_of_block p ps i h = record { view = h.view; there = h.there; label = h.label; below = h.below; spot = h.spot; listed = λ k q e. h.listed (suc k) q e }
