-- Where a program has lost blocks, so has the tree.
use Rattle.std.proofs.Common.{◌≡◌, inl, inr, ⊎_elim, Bool, true, false, cond, not, List, [], ◌∷◌, Option, Some, None, IsSome, option_map, unwrap_or, slice_get, refl, sym, ap, ◌∙◌, subst}
use Rattle.std.specs.Prelude.{◌↔◌, if◌then◌else◌}
use Rattle.std.proofs.lemmas.List.{append-nil}
use Rattle.ir_program.specs.Program.{Program, OperationView, BlockView, RegionView, block_at, region_at}
use Rattle.ir_program.specs.Lists.{StandsInside}
use Rattle.ir_program.specs.declared.handles.IRNode.{IRNode}
use Rattle.ir_program.specs.declared.handles.IRNode.TheVariants.{Operation as OperationNode, Region as RegionNode, BasicBlock as BlockNode}
use Rattle.ir_program.specs.declared.handles.Ptr.{Ptr}
use Rattle.ir_program.specs.declared.handles.Operation.{Operation}
use Rattle.ir_program.specs.declared.handles.Region.{Region}
use Rattle.ir_program.specs.declared.handles.BasicBlock.{BasicBlock}
use Rattle.ir_trees.specs.Trees.{Sort, Operations, Blocks, Regions, Tree, end, operation, block, region, Root}
use Rattle.ir_trees.specs.Stands.{by_handle, in_program, ProgramTree, no_operations, StandsFor}
use Rattle.ir_trees.specs.Rewrites.{Rewriting, joined, rewritten, rewritten_root, block_in_place, blocks_after, Stays, root, in_operation, in_region, in_block}
use Rattle.ir_trees.specs.ListRewrites.{as_it_is}
use Rattle.ir_trees.proofs.Members.{has_at}
use Rattle.ir_trees.proofs.ListEdited.{AreOrderly, all_operations}
use Rattle.ir_trees.proofs.Rewritten.{rewritten_tree}
use Rattle.opt_trees.specs.Occurrences.{Has}
use Rattle.opt_trees.specs.Dialect.{Dialect}
use Rattle.opt_trees.specs.Simplify.{StartingRegions, keep, IsUnreached, IsCut}
use Rattle.opt_inside.specs.Occurring.{IsBlockBelow}
use Rattle.opt_inside.specs.Outside.{KeepsOutside}
use Rattle.opt_inside.proofs.Around.{HasLists, inside_both, around_operation, around_block, around_region, is_root}
use Rattle.opt_handles.proofs.Handles.{erased_none}
use Rattle.opt_simplify.specs.Phases.{RemovesBlocks}
use Rattle.opt_simplify.specs.Removed.{without, IsWithinPickedBlocks, ErasesPickedBlocks}
use Rattle.opt_inside.specs.reach.Fates.{HasReachTest}
use Rattle.opt_simplify.proofs.RemovedErased.{was_inside}
use Rattle.opt_simplify.proofs.RemovedOutside.{adds_none}
use Rattle.opt_simplify.proofs.RemovedPicking.{not_true, without_none}

picked : {X : Type 0} (b : Bool) (x y : X) → cond (not b) x y ≡ (if b then y else x)
picked true x y = refl
picked false x y = refl

module _ {O B : Type 0} (picks : Ptr BasicBlock → Bool) where
  -- what removing blocks does at each block
  abbrev pub cutting : Rewriting by_handle (in_program O B)
  cutting = record as_it_is { keeps_block = λ l. not (picks l.name) }

  joined_end : (t : Tree by_handle (in_program O B) Operations) → joined t end ≡ t
  joined_end end = refl
  joined_end (operation h rs rest) = ap (operation h rs) (joined_end rest)

  cut : (s : Sort) (t : Tree by_handle (in_program O B) s) → rewritten cutting t ≡ keep picks t
  cut _ end = refl
  cut _ (operation h rs rest) =
      let below = cut Regions rs in
      let later = cut Operations rest in
      λ i. operation h (below i) (later i)
  cut _ (block l ops rest) =
      let inner : joined (rewritten cutting ops) end ≡ keep picks ops = joined_end (rewritten cutting ops) ∙ cut Operations ops in
      let later = cut Blocks rest in
      (λ i. cond (not (picks l.name)) (block l (inner i) (later i)) (later i)) ∙ picked (picks l.name) (block l (keep picks ops) (keep picks rest)) (keep picks rest)
  cut _ (region bs rest) =
      let inner = cut Blocks bs in
      let later = cut Regions rest in
      λ i. region (inner i) (later i)

module _ {O B : Type 0} (old new : Program O B) (lists : HasLists old) (op : Ptr Operation) (picks : Ptr BasicBlock → Bool) (below : (b : Ptr BasicBlock) → picks b ≡ true → IsBlockBelow old op b) (loses : ErasesPickedBlocks old new picks) where
  -- what is inside a block that goes is below the root
  under_root : (e : IRNode) → IsWithinPickedBlocks old picks e → StandsInside old (OperationNode op) e
  under_root e h = inside_both old (OperationNode op) (BlockNode h.0) e (below h.0 h.1) h.2

  pub root_stays : IsWithinPickedBlocks old picks (OperationNode op) → ⊥
  root_stays h = let e : BlockNode h.0 ≡ OperationNode op = is_root old lists op (BlockNode h.0) (below h.0 h.1) h.2 in cc

  -- what stays doesn't go
  stays : (e : IRNode) → Stays old (cutting picks) op e → IsWithinPickedBlocks old picks e → ⊥
  stays _ root h = root_stays h
  stays _ (in_operation p v r s there listed) h =
      let at = lists.regions p listed.0 r (ap (λ o. slice_get (unwrap_or (option_map (λ (x : OperationView O). x.regions) o) []) listed.0) there ∙ listed.1) in
      ⊎_elim (λ (e : BlockNode h.0 ≡ RegionNode r). cc) (λ i. stays (OperationNode p) s (h.0, h.1, i)) (around_region old lists (BlockNode h.0) r p at h.2)
  stays _ (in_region r v b l s there listed is keeps) h =
      let at = lists.blocks r listed.0 b (ap (λ o. slice_get (unwrap_or (option_map (λ (x : RegionView). x.blocks) o) []) listed.0) there ∙ listed.1) in
      ⊎_elim
      (λ (e : BlockNode h.0 ≡ BlockNode b). let same : b ≡ h.0 = cc in let goes : picks b ≡ true = ap picks same ∙ h.1 in let f : not (picks b) ≡ false = ap not goes in cc)
      (λ i. stays (RegionNode r) s (h.0, h.1, i))
      (around_block old lists (BlockNode h.0) b r at h.2)
  stays _ (in_block b l p v s there listed is keeps) h =
      let at = lists.operations b listed.0 p (ap (λ o. slice_get (unwrap_or (option_map (λ (x : BlockView B). x.operations) o) []) listed.0) there ∙ listed.1) in
      ⊎_elim (λ (e : BlockNode h.0 ≡ OperationNode p). cc) (λ i. stays (BlockNode b) s (h.0, h.1, i)) (around_operation old lists (BlockNode h.0) p b at h.2)

  orderly : AreOrderly old
  orderly = record { operations_once = lists.operations_once; blocks_once = lists.blocks_once; regions_once = lists.regions_once; operations = lists.operations; blocks = lists.blocks; apart = lists.operation_apart }

  -- the blocks of a region that stay
  left : (bs : List (Ptr BasicBlock)) → ((b : Ptr BasicBlock) → Has b bs → (v : BlockView B) × (block_at old b ≡ Some v)) → without picks bs ≡ blocks_after old (cutting picks) bs
  left [] there = refl
  left (b ∷ bs) there =
      let v = there b (inl refl) in
      let rest = left bs (λ q h. there q (inr h)) in
      sym (ap (λ o. block_in_place old (cutting picks) b o (blocks_after old (cutting picks) bs)) v.1
      ∙ picked (picks b) (b ∷ blocks_after old (cutting picks) bs) (blocks_after old (cutting picks) bs)
      ∙ (λ i. if picks b then sym rest i else b ∷ sym rest i))

  something : {X : Type 0} (o : Option X) → IsSome o → (x : X) × (o ≡ Some x)
  something (Some x) h = (x, refl)
  something None h = cc

  blocks_there : (r : Ptr Region) (v : RegionView) → region_at old r ≡ Some v → (b : Ptr BasicBlock) → Has b v.blocks → (l : BlockView B) × (block_at old b ≡ Some l)
  blocks_there r v there b has =
      let k = has_at v.blocks b has in
      let s = lists.blocks r k.0 b (ap (λ o. slice_get (unwrap_or (option_map (λ (x : RegionView). x.blocks) o) []) k.0) there ∙ k.1) in
      something (block_at old b) s.block

  pub tree_cut : (t : ProgramTree O B) → StandsFor old op t → StandsFor new op (record { head = t.head; regions = keep picks t.regions })
  tree_cut t stands =
      let w : Rewriting by_handle (in_program O B) = cutting picks in
      let whole : StandsFor new op (rewritten_root w t) = rewritten_tree old new op w (record {
        operations = λ p v s there. (v, loses.operations p (stays (OperationNode p) s) ∙ there, refl, refl);
        regions = λ r v s there. (
          record v { blocks = without picks v.blocks },
          loses.regions r (stays (RegionNode r) s) ∙ ap (option_map (λ (x : RegionView). record x { blocks = without picks x.blocks })) there,
          left v.blocks (blocks_there r v there),
        );
        blocks = λ b v s there. (v, loses.blocks b (stays (BlockNode b) s) ∙ there, refl, sym (append-nil _ ∙ all_operations old orderly w (λ p x. refl) (λ p x. refl) (λ p x. refl) b v there));
        around = λ p v b l s e i there. (no_operations, no_operations);
        ends = λ b v s there. (no_operations, no_operations);
      }) t stands in
      subst (λ (r : Root by_handle (in_program O B)). StandsFor new op r) (λ j. record { head = t.head; regions = cut picks Regions t.regions j }) whole

  none_goes : (r : Ptr Region) (v : RegionView) → (StandsInside old (OperationNode op) (RegionNode r) → ⊥) → region_at old r ≡ Some v → (b : Ptr BasicBlock) → Has b v.blocks → picks b ≡ false
  none_goes r v out there b has = not_true (picks b) (λ h.
      let k = has_at v.blocks b has in
      let s = lists.blocks r k.0 b (ap (λ o. slice_get (unwrap_or (option_map (λ (x : RegionView). x.blocks) o) []) k.0) there ∙ k.1) in
      ⊎_elim (λ (e : OperationNode op ≡ BlockNode b). cc) (λ i. out i) (around_block old lists (OperationNode op) b r s (below b h)))

  pub outside : KeepsOutside old new op
  outside = record {
    operations = λ p v out there. loses.operations p (λ h. out (under_root (OperationNode p) h)) ∙ there;
    blocks = λ b v out there. loses.blocks b (λ h. out (under_root (BlockNode b) h)) ∙ there;
    regions = λ r v out there. loses.regions r (λ h. out (under_root (RegionNode r) h)) ∙ ap (option_map (λ (x : RegionView). record x { blocks = without picks x.blocks })) there
        ∙ ap (λ bs. Some (record v { blocks = bs })) (without_none picks v.blocks (none_goes r v out there));
  }

  module _ {A : Type 0} (d : Dialect (in_program O B) A) (place : StartingRegions by_handle) (t : ProgramTree O B) (stands : StandsFor old op t) (unreached : (b : Ptr BasicBlock) → (picks b ≡ true) ↔ IsUnreached d place t b) (reach : HasReachTest t) where
    abbrev pub is_cut : IsCut d place t (record { head = t.head; regions = keep picks t.regions })
    is_cut = record {
      reach = reach.0;
      reached = λ b. (reach.1 b).0;
      all_reached = λ b. (reach.1 b).1;
      gone = picks;
      there = λ b. (unreached b).0;
      all = λ b. (unreached b).1;
      is = refl;
    }

    pub blocks_removed : RemovesBlocks d place old new op t
    blocks_removed = record {
      after = record { head = t.head; regions = keep picks t.regions };
      cut = is_cut;
      stands = tree_cut t stands;
      erased = λ b e goes live inside. loses.gone e live (b, goes, inside);
      outside = outside;
      inside = was_inside old new lists picks loses (OperationNode op);
      none_come = adds_none old new op picks loses;
    }

-- nothing is lost where nothing is picked
pub none_lost : {O B : Type 0} (c : Program O B) (picks : Ptr BasicBlock → Bool) → ((b : Ptr BasicBlock) → picks b ≡ false) → ErasesPickedBlocks c c picks
none_lost {O} {B} c picks none = record {
  operations = λ p out. refl;
  blocks = λ b out. refl;
  regions = λ r out. all_left (region_at c r);
  gone = λ e live h. let f : true ≡ false = sym h.1 ∙ none h.0 in cc;
  there = λ b h. let f : true ≡ false = sym h ∙ none b in cc;
  decided = λ e live. inl live;
  erased = erased_none c;
} where
  all_left : (o : Option RegionView) → o ≡ option_map (λ (v : RegionView). record v { blocks = without picks v.blocks }) o
  all_left None = refl
  all_left (Some v) = ap (λ bs. Some (record v { blocks = bs })) (sym (without_none picks v.blocks (λ b has. none b)))
