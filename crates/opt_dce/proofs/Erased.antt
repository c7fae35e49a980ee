-- Erasing several operations one after the other, of which some may stand in others.
use Rattle.std.proofs.Common.{◌≡◌, ◌≢◌, ◌⊎◌, inl, inr, ⊎_elim, ℕ, zero, suc, ◌+◌, Bool, true, false, take, is_some, List, [], ◌∷◌, Option, Some, None, IsSome, option_map, unwrap_or, slice_get, refl, sym, ap, ◌∙◌, subst}
use Rattle.ir_program.specs.Program.{Program, OperationView, BlockView, RegionView, operation_of, block_of, region_of, operation_at, block_at, region_at}
use Rattle.ir_program.specs.Edits.{KeepsErased}
use Rattle.ir_program.specs.Erased.{IsGone, IsApart, ErasesOperation, definer_node}
use Rattle.ir_program.specs.Rows.{operands_at, successors_at}
use Rattle.ir_program.specs.Lists.{operations_in, blocks_in, regions_in, StandsInside, itself, in_block, in_region, in_operation, IsLiveNode}
use Rattle.ir_program.specs.Preorder.{AreInside}
use Rattle.ir_program.specs.declared.handles.IRNode.{IRNode}
use Rattle.ir_program.specs.declared.handles.IRNode.TheVariants.{Operation as OperationNode, Region as RegionNode, BasicBlock as BlockNode}
use Rattle.ir_program.specs.declared.handles.Ptr.{Ptr}
use Rattle.ir_program.specs.declared.handles.Operation.{Operation}
use Rattle.ir_program.specs.declared.handles.Region.{Region}
use Rattle.ir_program.specs.declared.handles.BasicBlock.{BasicBlock}
use Rattle.ir_program.specs.declared.handles.Value.{Value}
use Rattle.ir_program.proofs.made.Frames.{same_or_not}
use Rattle.ir_trees.specs.ListRewrites.{same_operation, is_among}
use Rattle.ir_trees.proofs.HandleTests.{operation_no}
use Rattle.ir_trees.proofs.Members.{Has, at_has, has_at}
use Rattle.opt_handles.proofs.Handles.{erased_none, erased_twice}
use Rattle.opt_inside.proofs.Around.{HasLists, inside_both}
use Rattle.opt_dce.specs.Steps.{without, without_operations, IsWithinPicked, ErasesPicked, ErasesIfThere, DecidesInside, NamesNone}
use Rattle.opt_dce.proofs.Among.{and_also, also_it, also_picked, it_or_picked, among_more, has_among}
use Rattle.opt_dce.proofs.BlockLists.{found_or_not, was_there, is_left, all_left, there_still, list_left, one_more_left, with_list, holder_left, other_left, without_both}
use Rattle.opt_dce.proofs.Picking.{not_true, without_none}

-- two entities are the same or not
node_or_not : (e f : IRNode) → (e ≡ f) ⊎ (e ≢ f)
node_or_not (OperationNode p) (OperationNode q) = ⊎_elim (λ e. inl (ap OperationNode e)) (λ ne. inr (λ h. let e : p ≡ q = cc in ne e)) (same_or_not p q)
node_or_not (BlockNode p) (BlockNode q) = ⊎_elim (λ e. inl (ap BlockNode e)) (λ ne. inr (λ h. let e : p ≡ q = cc in ne e)) (same_or_not p q)
node_or_not (RegionNode p) (RegionNode q) = ⊎_elim (λ e. inl (ap RegionNode e)) (λ ne. inr (λ h. let e : p ≡ q = cc in ne e)) (same_or_not p q)
node_or_not (OperationNode p) (BlockNode q) = inr (λ h. cc)
node_or_not (OperationNode p) (RegionNode q) = inr (λ h. cc)
node_or_not (BlockNode p) (OperationNode q) = inr (λ h. cc)
node_or_not (BlockNode p) (RegionNode q) = inr (λ h. cc)
node_or_not (RegionNode p) (OperationNode q) = inr (λ h. cc)
node_or_not (RegionNode p) (BlockNode q) = inr (λ h. cc)

node_found : (e : IRNode) (es : List IRNode) → ((k : ℕ) × (slice_get es k ≡ Some e)) ⊎ (Has e es → ⊥)
node_found e [] = inr (λ h. h)
node_found e (x ∷ es) = ⊎_elim
    (λ (same : e ≡ x). inl (zero, ap Some (sym same)))
    (λ (ne : e ≢ x). ⊎_elim (λ r. inl (suc r.0, r.1)) (λ none. inr (λ h. ⊎_elim ne none h)) (node_found e es))
    (node_or_not e x)

-- what is among the entities inside an operation is inside it
pub decided_by : {O B : Type 0} (c : Program O B) (op : Ptr Operation) (es : List IRNode) → AreInside c (OperationNode op) es → DecidesInside c op
decided_by c op es members e = ⊎_elim
    (λ (k : (k : ℕ) × (slice_get es k ≡ Some e)). inl (members.inside k.0 e k.1))
    (λ none. inr (λ i. let k = members.all e i in none (at_has es k.0 e k.1)))
    (node_found e es)

pub nothing : {X : Type 0} (o : Option X) → o ≡ None → IsSome o → ⊥
nothing None e h = cc
nothing (Some x) e h = cc

module _ {O B : Type 0} where
  -- what is there, and what isn't
  no_longer : (c : Program O B) (e : IRNode) → IsGone c e → IsLiveNode c e → ⊥
  no_longer c (OperationNode p) gone live = nothing (operation_at c p) gone.0 live
  no_longer c (BlockNode b) gone live = nothing (block_at c b) gone.0 live
  no_longer c (RegionNode r) gone live = nothing (region_at c r) gone.0 live

  -- what is gone stays so
  pub gone_still : (old new : Program O B) → KeepsErased old new → (e : IRNode) → IsGone old e → IsGone new e
  gone_still old new erased (OperationNode p) g = let s = erased.operations p.key g.1 in (ap (option_map (operation_of new p)) s.gone, s)
  gone_still old new erased (BlockNode b) g = let s = erased.blocks b.key g.1 in (ap (option_map (block_of new b)) s.gone, s)
  gone_still old new erased (RegionNode r) g = let s = erased.regions r.key g.1 in (ap (option_map (λ u. region_of new r)) s.gone, s)

  module _ (old mid : Program O B) (lists : HasLists old) (picks : Ptr Operation → Bool) (done : ErasesPicked old mid picks) where
    -- what is inside something picked was there
    was_live : (e : IRNode) → IsWithinPicked old picks e → IsLiveNode old e
    was_live e h = live_inside e h.2 where
      live_inside : (f : IRNode) → StandsInside old (OperationNode h.0) f → IsLiveNode old f
      live_inside _ itself = done.there h.0 h.1
      live_inside _ (in_block p b s i) = s.operation
      live_inside _ (in_region b r s i) = s.block
      live_inside _ (in_operation r p s i) = s.region

    -- what is there isn't inside something picked, and was there
    pub live_outside : (e : IRNode) → IsLiveNode mid e → IsWithinPicked old picks e → ⊥
    live_outside e live h = no_longer mid e (done.gone e (was_live e h) h) live

    still_live : (e : IRNode) → (IsWithinPicked old picks e → ⊥) → IsLiveNode old e → IsLiveNode mid e
    still_live (OperationNode p) out live = subst IsSome (sym (done.operations p out)) live
    still_live (RegionNode r) out live = subst IsSome (sym (done.regions r out)) live
    still_live (BlockNode b) out live = ap is_some (done.blocks b out) ∙ there_still picks (block_at old b) ∙ live

    -- what the lists of what is left were
    operations_were : (b : Ptr BasicBlock) → (IsWithinPicked old picks (BlockNode b) → ⊥) → operations_in mid b ≡ without picks (operations_in old b)
    operations_were b out = ap (λ o. unwrap_or (option_map (λ (v : BlockView B). v.operations) o) []) (done.blocks b out) ∙ list_left picks (block_at old b)

    blocks_were : (r : Ptr Region) → (IsWithinPicked old picks (RegionNode r) → ⊥) → blocks_in mid r ≡ blocks_in old r
    blocks_were r out = ap (λ o. unwrap_or (option_map (λ (v : RegionView). v.blocks) o) []) (done.regions r out)

    regions_were : (p : Ptr Operation) → (IsWithinPicked old picks (OperationNode p) → ⊥) → regions_in mid p ≡ regions_in old p
    regions_were p out = ap (λ o. unwrap_or (option_map (λ (v : OperationView O). v.regions) o) []) (done.operations p out)

    -- so what is inside something was inside it
    was_inside : (x e : IRNode) → StandsInside mid x e → StandsInside old x e
    was_inside x _ itself = itself
    was_inside x _ (in_block p b s i) =
        let out = live_outside (BlockNode b) s.block in
        let k = has_at (operations_in old b) p (was_there picks (operations_in old b) p (at_has (without picks (operations_in old b)) s.index p (ap (λ ps. slice_get ps s.index) (sym (operations_were b out)) ∙ s.here))) in
        in_block p b (lists.operations b k.0 p k.1) (was_inside x (BlockNode b) i)
    was_inside x _ (in_region b r s i) =
        let out = live_outside (RegionNode r) s.region in
        in_region b r (lists.blocks r s.index b (ap (λ ps. slice_get ps s.index) (sym (blocks_were r out)) ∙ s.here)) (was_inside x (RegionNode r) i)
    was_inside x _ (in_operation r p s i) =
        let out = live_outside (OperationNode p) s.operation in
        in_operation r p (lists.regions p s.index r (ap (λ ps. slice_get ps s.index) (sym (regions_were p out)) ∙ s.here)) (was_inside x (OperationNode p) i)

    -- and what was inside something, and is left, is inside it
    is_inside : (x e : IRNode) → (IsWithinPicked old picks e → ⊥) → StandsInside old x e → StandsInside mid x e
    is_inside x _ out itself = itself
    is_inside x _ out (in_block p b s i) =
        let above : IsWithinPicked old picks (BlockNode b) → ⊥ = λ h. out (h.0, h.1, in_block p b s h.2) in
        let stays : picks p ≡ false = not_true (picks p) (λ h. out (p, h, itself)) in
        let k = has_at (without picks (operations_in old b)) p (is_left picks (operations_in old b) p stays (at_has (operations_in old b) s.index p s.here)) in
        in_block p b
        (record { operation = still_live (OperationNode p) out s.operation; block = still_live (BlockNode b) above s.block; index = k.0; here = ap (λ ps. slice_get ps k.0) (operations_were b above) ∙ k.1 })
        (is_inside x (BlockNode b) above i)
    is_inside x _ out (in_region b r s i) =
        let above : IsWithinPicked old picks (RegionNode r) → ⊥ = λ h. out (h.0, h.1, in_region b r s h.2) in
        in_region b r
        (record { block = still_live (BlockNode b) out s.block; region = still_live (RegionNode r) above s.region; index = s.index; here = ap (λ ps. slice_get ps s.index) (blocks_were r above) ∙ s.here })
        (is_inside x (RegionNode r) above i)
    is_inside x _ out (in_operation r p s i) =
        let above : IsWithinPicked old picks (OperationNode p) → ⊥ = λ h. out (h.0, h.1, in_operation r p s h.2) in
        in_operation r p
        (record { region = still_live (RegionNode r) out s.region; operation = still_live (OperationNode p) above s.operation; index = s.index; here = ap (λ ps. slice_get ps s.index) (regions_were p above) ∙ s.here })
        (is_inside x (OperationNode p) above i)

    -- what isn't inside one picked or one more
    module _ (a : Ptr Operation) where
      not_picked : (e : IRNode) → (IsWithinPicked old (and_also a picks) e → ⊥) → IsWithinPicked old picks e → ⊥
      not_picked e out h = out (h.0, also_picked a picks h.0 h.1, h.2)

      not_it : (e : IRNode) → (IsWithinPicked old (and_also a picks) e → ⊥) → StandsInside old (OperationNode a) e → ⊥
      not_it e out i = out (a, also_it a picks, i)

      there_too : IsLiveNode old (OperationNode a) → (p : Ptr Operation) → and_also a picks p ≡ true → IsLiveNode old (OperationNode p)
      there_too live p h = ⊎_elim (λ (e : p ≡ a). subst (λ q. IsLiveNode old (OperationNode q)) (sym e) live) (λ t. done.there p t) (it_or_picked a picks p h)

      -- what is left, and goes with one more, stands inside that one
      inside_it : (e : IRNode) → IsLiveNode mid e → IsWithinPicked old (and_also a picks) e → StandsInside old (OperationNode a) e
      inside_it e live h = ⊎_elim
          (λ (s : h.0 ≡ a). subst (λ q. StandsInside old (OperationNode q) e) s h.2)
          (λ t. absurd (live_outside e live (h.0, t, h.2)))
          (it_or_picked a picks h.0 h.1)

      -- one more that has gone already
      pub gone_already : HasLists mid → IsLiveNode old (OperationNode a) → operation_at mid a ≡ None → ErasesPicked old mid (and_also a picks)
      gone_already now live none = record {
        there = there_too live;
        operations = λ p out. done.operations p (not_picked (OperationNode p) out);
        blocks = λ b out. block_without b (not_picked (BlockNode b) out);
        regions = λ r out. done.regions r (not_picked (RegionNode r) out);
        gone = λ e there h. ⊎_elim (λ l. absurd (not_left e l (inside_it e l h))) (λ g. g) (done.decided e there);
        decided = done.decided;
        erased = done.erased;
      } where
        not_left : (e : IRNode) → IsLiveNode mid e → StandsInside old (OperationNode a) e → ⊥
        not_left e l i = nothing (operation_at mid a) none (still_live (OperationNode a) (λ h. live_outside e l (h.0, h.1, inside_both old (OperationNode h.0) (OperationNode a) e h.2 i)) live)

        none_of : (b : Ptr BasicBlock) (p : Ptr Operation) → Has p (operations_in mid b) → same_operation p a ≡ false
        none_of b p has = operation_no p a (λ same.
            let k = has_at (operations_in mid b) p has in
            nothing (operation_at mid a) none (subst (λ q. IsSome (operation_at mid q)) same (now.operations b k.0 p k.1).operation))

        same_list : (b : Ptr BasicBlock) → (IsWithinPicked old picks (BlockNode b) → ⊥) → without picks (operations_in old b) ≡ without (and_also a picks) (operations_in old b)
        same_list b out = sym (without_none (λ p. same_operation p a) (without picks (operations_in old b)) (λ p has. none_of b p (subst (Has p) (sym (operations_were b out)) has)))
            ∙ without_both a picks (operations_in old b)

        block_without : (b : Ptr BasicBlock) → (IsWithinPicked old picks (BlockNode b) → ⊥) → block_at mid b ≡ option_map (without_operations (and_also a picks)) (block_at old b)
        block_without b out = done.blocks b out ∙ with_list (without picks) (without (and_also a picks)) (block_at old b) (same_list b out)

      -- one more that is erased
      module _ (new : Program O B) (now : HasLists mid) (live : IsLiveNode mid (OperationNode a)) (decides : DecidesInside mid a) (erases : ErasesOperation mid new a) where
        block_now : (b : Ptr BasicBlock) → (StandsInside mid (OperationNode a) (BlockNode b) → ⊥) → block_at new b ≡ option_map (without_operations (λ p. same_operation p a)) (block_at mid b)
        block_now b out = ⊎_elim
            (λ (here : (k : ℕ) × (slice_get (operations_in mid b) k ≡ Some a)). erases.holder b here.0 here.1 ∙ holder_left mid a b now here.0 here.1)
            (λ (none : Has a (operations_in mid b) → ⊥). erases.blocks b out (λ s. none (at_has (operations_in mid b) s.index a s.here)) ∙ other_left mid a b none)
            (found_or_not a (operations_in mid b))

        live_still : (e : IRNode) → (StandsInside mid (OperationNode a) e → ⊥) → IsLiveNode mid e → IsLiveNode new e
        live_still (OperationNode p) out l = subst IsSome (sym (erases.operations p out)) l
        live_still (RegionNode r) out l = subst IsSome (sym (erases.regions r out)) l
        live_still (BlockNode b) out l = ap is_some (block_now b out) ∙ there_still (λ p. same_operation p a) (block_at mid b) ∙ l

        outside_now : (e : IRNode) → (IsWithinPicked old (and_also a picks) e → ⊥) → StandsInside mid (OperationNode a) e → ⊥
        outside_now e out i = not_it e out (was_inside (OperationNode a) e i)

        pub one_more : ErasesPicked old new (and_also a picks)
        one_more = record {
          there = there_too (subst IsSome (done.operations a (live_outside (OperationNode a) live)) live);
          operations = λ p out. erases.operations p (outside_now (OperationNode p) out) ∙ done.operations p (not_picked (OperationNode p) out);
          blocks = λ b out. block_now b (outside_now (BlockNode b) out)
              ∙ ap (option_map (without_operations (λ p. same_operation p a))) (done.blocks b (not_picked (BlockNode b) out)) ∙ one_more_left a picks (block_at old b);
          regions = λ r out. erases.regions r (outside_now (RegionNode r) out) ∙ done.regions r (not_picked (RegionNode r) out);
          gone = λ e there h. ⊎_elim (λ l. erases.gone e l (is_inside (OperationNode a) e (live_outside e l) (inside_it e l h))) (gone_still mid new erases.erased e) (done.decided e there);
          decided = λ e there. ⊎_elim
              (λ l. ⊎_elim (λ i. inr (erases.gone e l i)) (λ out. inl (live_still e out l)) (decides e))
              (λ g. inr (gone_still mid new erases.erased e g))
              (done.decided e there);
          erased = erased_twice old mid new done.erased erases.erased;
        }

  -- nothing is erased
  pub none_erased : (c : Program O B) → ErasesPicked c c (λ p. false)
  none_erased c = record {
    there = λ p h. cc;
    operations = λ p out. refl;
    blocks = λ b out. all_left (block_at c b);
    regions = λ r out. refl;
    gone = λ e there h. let f : false ≡ true = h.1 in cc;
    decided = λ e there. inl there;
    erased = erased_none c;
  }

  -- what operations name of what is left they named before
  module _ (old mid : Program O B) (lists : HasLists old) (picks : Ptr Operation → Bool) (done : ErasesPicked old mid picks) where
    same_or_none : (p : Ptr Operation) → (operation_at mid p ≡ operation_at old p) ⊎ (operation_at mid p ≡ None)
    same_or_none p = by_case (operation_at old p) refl where
      by_case : (o : Option (OperationView O)) → operation_at old p ≡ o → (operation_at mid p ≡ operation_at old p) ⊎ (operation_at mid p ≡ None)
      by_case None e = inl (done.operations p (λ h. nothing (operation_at old p) e (was_live old mid lists picks done (OperationNode p) h)))
      by_case (Some v) e = ⊎_elim
          (λ (l : IsSome (operation_at mid p)). inl (done.operations p (live_outside old mid lists picks done (OperationNode p) l)))
          (λ g. inr g.0)
          (done.decided (OperationNode p) (ap is_some e))

    none_listed : {X : Type 0} (k : ℕ) (x : X) → slice_get [] k ≡ Some x → ⊥
    none_listed k x h = cc

    pub operands_were : (p : Ptr Operation) (k : ℕ) (v : Value) → slice_get (operands_at mid p) k ≡ Some v → slice_get (operands_at old p) k ≡ Some v
    operands_were p k v h = ⊎_elim
        (λ (e : operation_at mid p ≡ operation_at old p). subst (λ o. slice_get (unwrap_or (option_map (λ (y : OperationView O). y.operands) o) []) k ≡ Some v) e h)
        (λ (e : operation_at mid p ≡ None). absurd (none_listed k v (subst (λ o. slice_get (unwrap_or (option_map (λ (y : OperationView O). y.operands) o) []) k ≡ Some v) e h)))
        (same_or_none p)

    pub successors_were : (p : Ptr Operation) (k : ℕ) (b : Ptr BasicBlock) → slice_get (successors_at mid p) k ≡ Some b → slice_get (successors_at old p) k ≡ Some b
    successors_were p k b h = ⊎_elim
        (λ (e : operation_at mid p ≡ operation_at old p). subst (λ o. slice_get (unwrap_or (option_map (λ (y : OperationView O). y.successors) o) []) k ≡ Some b) e h)
        (λ (e : operation_at mid p ≡ None). absurd (none_listed k b (subst (λ o. slice_get (unwrap_or (option_map (λ (y : OperationView O). y.successors) o) []) k ≡ Some b) e h)))
        (same_or_none p)

  -- one turn of the loop over the list of those that are erased
  module _ (old mid : Program O B) (lists : HasLists old) (ops : List (Ptr Operation)) (i : ℕ) (a : Ptr Operation) (here : slice_get ops i ≡ Some a) (done : ErasesPicked old mid (is_among (take i ops))) where
    among_here : is_among ops a ≡ true
    among_here = has_among ops a (at_has ops i a here)

    inside_then : (e : IRNode) → StandsInside mid (OperationNode a) e → IsWithinPicked old (is_among ops) e
    inside_then e s = (a, among_here, was_inside old mid lists (is_among (take i ops)) done (OperationNode a) e s)

    pub apart_now : NamesNone old (is_among ops) → IsApart mid (OperationNode a)
    apart_now names = record {
      values = λ p k v h s. absurd (names.values p k v (operands_were old mid lists (is_among (take i ops)) done p k v h) (inside_then (definer_node v.definer) s));
      blocks = λ p k b h s. absurd (names.blocks p k b (successors_were old mid lists (is_among (take i ops)) done p k b h) (inside_then (BlockNode b) s));
    }

    pub erased_next : HasLists mid → (new : Program O B) → ((p : Ptr Operation) → is_among ops p ≡ true → IsLiveNode old (OperationNode p)) → ErasesIfThere mid new a → ErasesPicked old new (is_among (take (i + 1) ops))
    erased_next now new there erases = subst (ErasesPicked old new) (among_more ops i a here) (by_case (operation_at mid a) refl) where
      by_case : (o : Option (OperationView O)) → operation_at mid a ≡ o → ErasesPicked old new (and_also a (is_among (take i ops)))
      by_case None e = subst (λ c. ErasesPicked old c (and_also a (is_among (take i ops)))) (sym (erases.passes e)) (gone_already old mid lists (is_among (take i ops)) done a now (there a among_here) e)
      by_case (Some v) e =
          let live : IsSome (operation_at mid a) = ap is_some e in
          one_more old mid lists (is_among (take i ops)) done a new now live (erases.decides live) (erases.erases live)
