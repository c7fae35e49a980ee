-- Taking several operations out of their blocks, one after the other.
use Rattle.std.proofs.Common.{◌≡◌, ◌≢◌, ⊎_elim, ℕ, ◌+◌, ◌<◌, Bool, true, false, List, [], take, Some, is_some, option_map, unwrap_or, slice_get, refl, sym, ap, ◌∙◌, subst, arith}
use Rattle.ir_program.specs.ListEdits.{TakesOutOperation}
use Rattle.ir_program.specs.Lists.{operations_in, blocks_in, regions_in, StandsInBlock, StandsInside, itself, in_block, in_region, in_operation, IsLinkedOperation}
use Rattle.ir_program.specs.Program.{Program, OperationView, BlockView, RegionView, block_at}
use Rattle.ir_program.specs.declared.handles.IRNode.{IRNode}
use Rattle.ir_program.specs.declared.handles.IRNode.TheVariants.{Operation as OperationNode, Region as RegionNode, BasicBlock as BlockNode}
use Rattle.ir_program.specs.declared.handles.Ptr.{Ptr}
use Rattle.ir_program.specs.declared.handles.Operation.{Operation}
use Rattle.ir_program.specs.declared.handles.Region.{Region}
use Rattle.ir_program.specs.declared.handles.BasicBlock.{BasicBlock}
use Rattle.ir_program.proofs.made.Frames.{same_or_not}
use Rattle.ir_trees.specs.ListRewrites.{same_operation, is_among}
use Rattle.ir_trees.specs.Searched.{AreDistinct}
use Rattle.ir_trees.proofs.Members.{at_has, has_at}
use Rattle.opt_handles.proofs.Handles.{erased_none, erased_twice}
use Rattle.opt_inside.proofs.Around.{HasLists}
use Rattle.opt_dce.specs.Steps.{without, without_operations, IsWithinPicked, DetachesPicked}
use Rattle.opt_dce.proofs.Among.{and_also, among_more, among_has, has_among}
use Rattle.opt_dce.proofs.BlockLists.{was_there, is_left, all_left, there_still, list_left, one_more_left, holder_left, other_left}
use Rattle.opt_dce.proofs.Picking.{true_or_false, not_true}
use Rattle.opt_dce.proofs.Turns.{taken}

module _ {O B : Type 0} where
  pub none_detached : (c : Program O B) → DetachesPicked c c (λ p. false)
  none_detached c = record { operations = λ p. refl; blocks = λ b. all_left (block_at c b); regions = λ r. refl; erased = erased_none c }

  module _ (old new : Program O B) (picks : Ptr Operation → Bool) (detaches : DetachesPicked old new picks) where
    operations_are : (b : Ptr BasicBlock) → operations_in new b ≡ without picks (operations_in old b)
    operations_are b = ap (λ o. unwrap_or (option_map (λ (v : BlockView B). v.operations) o) []) (detaches.blocks b) ∙ list_left picks (block_at old b)

    blocks_are : (r : Ptr Region) → blocks_in new r ≡ blocks_in old r
    blocks_are r = ap (λ o. unwrap_or (option_map (λ (v : RegionView). v.blocks) o) []) (detaches.regions r)

    regions_are : (p : Ptr Operation) → regions_in new p ≡ regions_in old p
    regions_are p = ap (λ o. unwrap_or (option_map (λ (v : OperationView O). v.regions) o) []) (detaches.operations p)

    pub block_is : (b : Ptr BasicBlock) → is_some (block_at new b) ≡ is_some (block_at old b)
    block_is b = ap is_some (detaches.blocks b) ∙ there_still picks (block_at old b)

    -- what is left in a block
    still_in : (p : Ptr Operation) (b : Ptr BasicBlock) → picks p ≡ false → StandsInBlock old p b → StandsInBlock new p b
    still_in p b stays s =
        let k = has_at (without picks (operations_in old b)) p (is_left picks (operations_in old b) p stays (at_has (operations_in old b) s.index p s.here)) in
        record { operation = ap is_some (detaches.operations p) ∙ s.operation; block = block_is b ∙ s.block; index = k.0; here = ap (λ ps. slice_get ps k.0) (operations_are b) ∙ k.1 }

    -- what is inside something was inside it
    pub detached_was : HasLists old → (x e : IRNode) → StandsInside new x e → StandsInside old x e
    detached_was lists x _ itself = itself
    detached_was lists x _ (in_block p b s i) =
        let k = has_at (operations_in old b) p (was_there picks (operations_in old b) p (at_has (without picks (operations_in old b)) s.index p (ap (λ ps. slice_get ps s.index) (sym (operations_are b)) ∙ s.here))) in
        in_block p b (lists.operations b k.0 p k.1) (detached_was lists x (BlockNode b) i)
    detached_was lists x _ (in_region b r s i) = in_region b r (lists.blocks r s.index b (ap (λ ps. slice_get ps s.index) (sym (blocks_are r)) ∙ s.here)) (detached_was lists x (RegionNode r) i)
    detached_was lists x _ (in_operation r p s i) = in_operation r p (lists.regions p s.index r (ap (λ ps. slice_get ps s.index) (sym (regions_are p)) ∙ s.here)) (detached_was lists x (OperationNode p) i)

    -- and what was inside something picked is inside something picked, the nearest
    nearest : (a : Ptr Operation) → picks a ≡ true → (e : IRNode) → StandsInside old (OperationNode a) e → IsWithinPicked new picks e
    nearest a picked _ itself = (a, picked, itself)
    nearest a picked _ (in_block p b s i) =
        let above = nearest a picked (BlockNode b) i in
        ⊎_elim
        (λ also. (p, also, itself))
        (λ stays. (above.0, above.1, in_block p b (still_in p b stays s) above.2))
        (true_or_false (picks p))
    nearest a picked _ (in_region b r s i) =
        let above = nearest a picked (RegionNode r) i in (
          above.0,
          above.1,
          in_region b r
              (record { block = block_is b ∙ s.block; region = ap is_some (detaches.regions r) ∙ s.region; index = s.index; here = ap (λ ps. slice_get ps s.index) (blocks_are r) ∙ s.here }) above.2,
        )
    nearest a picked _ (in_operation r p s i) =
        let above = nearest a picked (OperationNode p) i in (
          above.0,
          above.1,
          in_operation r p
              (record { region = ap is_some (detaches.regions r) ∙ s.region; operation = ap is_some (detaches.operations p) ∙ s.operation; index = s.index; here = ap (λ ps. slice_get ps s.index) (regions_are p) ∙ s.here }) above.2,
        )

    pub detached_within : (e : IRNode) → IsWithinPicked old picks e → IsWithinPicked new picks e
    detached_within e h = nearest h.0 h.1 e h.2

    pub was_within : HasLists old → (e : IRNode) → IsWithinPicked new picks e → IsWithinPicked old picks e
    was_within lists e h = (h.0, h.1, detached_was lists (OperationNode h.0) e h.2)

  -- one turn of the loop over the list of those that are taken out
  module _ (old mid : Program O B) (ops : List (Ptr Operation)) (once : AreDistinct ops) (i : ℕ) (a : Ptr Operation) (here : slice_get ops i ≡ Some a) (done : DetachesPicked old mid (is_among (take i ops))) where
    not_yet : is_among (take i ops) a ≡ false
    not_yet = not_true (is_among (take i ops) a) (λ h.
        let k = has_at (take i ops) a (among_has (take i ops) a h) in
        let t = taken ops i k.0 a k.1 in
        let e : k.0 ≡ i = once k.0 i a t.1 here in
        let lt : k.0 < i = t.0 in absurd (omega arith))

    pub linked_now : ((p : Ptr Operation) → is_among ops p ≡ true → IsLinkedOperation old p) → IsLinkedOperation mid a
    linked_now linked = let l = linked a (has_among ops a (at_has ops i a here)) in (l.0, still_in old mid (is_among (take i ops)) done a l.0 not_yet l.1)

    module _ (new : Program O B) (now : HasLists mid) (linked : IsLinkedOperation mid a) (takes : TakesOutOperation mid new a) where
      out_of : (b : Ptr BasicBlock) → block_at new b ≡ option_map (without_operations (λ p. same_operation p a)) (block_at mid b)
      out_of b =
          let edits = takes linked.0 linked.1.index linked.1.here in
          ⊎_elim
          (λ (e : b ≡ linked.0). subst (λ q. block_at new q ≡ option_map (without_operations (λ p. same_operation p a)) (block_at mid q)) (sym e) (edits.edited ∙ holder_left mid a linked.0 now linked.1.index linked.1.here))
          (λ (ne : b ≢ linked.0). edits.others b ne ∙ other_left mid a b (λ has.
          let k = has_at (operations_in mid b) a has in
          ne (now.operations_once a b linked.0 k.0 linked.1.index k.1 linked.1.here).0))
          (same_or_not b linked.0)

      one_out : DetachesPicked old new (and_also a (is_among (take i ops)))
      one_out =
          let edits = takes linked.0 linked.1.index linked.1.here in
          record {
            operations = λ p. edits.operations p ∙ done.operations p;
            blocks = λ b. out_of b ∙ ap (option_map (without_operations (λ p. same_operation p a))) (done.blocks b) ∙ one_more_left a (is_among (take i ops)) (block_at old b);
            regions = λ r. edits.regions r ∙ done.regions r;
            erased = erased_twice old mid new done.erased edits.erased;
          }

      pub detached_next : DetachesPicked old new (is_among (take (i + 1) ops))
      detached_next = subst (DetachesPicked old new) (among_more ops i a here) one_out
