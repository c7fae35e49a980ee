-- Erasing several blocks one after the other.
use Rattle.std.proofs.Common.{◌≡◌, ◌≢◌, ◌⊎◌, inl, inr, ⊎_elim, ℕ, zero, suc, ◌+◌, ◌<◌, Bool, true, false, cond, take, is_some, List, [], ◌∷◌, Option, Some, None, IsSome, option_map, unwrap_or, slice_get, remove, refl, sym, ap, ◌∙◌, subst, arith}
use Rattle.std.specs.Prelude.{if◌then◌else◌}
use Rattle.ir_program.specs.Program.{Program, OperationView, BlockView, RegionView, operation_of, block_of, region_of, operation_at, block_at, region_at}
use Rattle.ir_program.specs.Edits.{KeepsErased}
use Rattle.ir_program.specs.Erased.{IsGone, IsApart, ErasesBlock, definer_node}
use Rattle.ir_program.specs.Rows.{operands_at, successors_at}
use Rattle.ir_program.specs.Lists.{operations_in, blocks_in, regions_in, StandsInside, itself, in_block, in_region, in_operation, IsLiveNode}
use Rattle.ir_program.specs.Preorder.{AreInside}
use Rattle.ir_program.specs.declared.handles.IRNode.{IRNode}
use Rattle.ir_program.specs.declared.handles.IRNode.TheVariants.{Operation as OperationNode, Region as RegionNode, BasicBlock as BlockNode}
use Rattle.ir_program.specs.declared.handles.Ptr.{Ptr}
use Rattle.ir_program.specs.declared.handles.Operation.{Operation}
use Rattle.ir_program.specs.declared.handles.Region.{Region}
use Rattle.ir_program.specs.declared.handles.BasicBlock.{BasicBlock}
use Rattle.ir_program.specs.declared.handles.Value.{Value}
use Rattle.ir_program.proofs.made.Frames.{same_or_not}
use Rattle.ir_program.specs.Replacing.{same_block}
use Rattle.ir_trees.proofs.HandleTests.{block_yes, block_no}
use Rattle.ir_trees.specs.Searched.{AreDistinct}
use Rattle.ir_trees.proofs.Members.{Has, Once, at_has, has_at, once_of}
use Rattle.opt_handles.specs.Handles.{KeepsHandles}
use Rattle.opt_handles.proofs.Handles.{erased_none, erased_twice}
use Rattle.opt_inside.proofs.Around.{HasLists}
use Rattle.opt_simplify.specs.Removed.{is_listed, without, IsWithinPickedBlocks, ArePickedApart, ErasesPickedBlocks, DecidesInsideBlock, DecidesWithin, NamesNoneOfBlocks}
use Rattle.opt_simplify.proofs.RemovedAmong.{and_also, also_it, also_picked, it_or_picked, among_more, among_has, has_among, has_taken}
use Rattle.opt_simplify.proofs.RemovedPicking.{not_true, without_none}

-- without those that are picked, and then without one more
without_both : (a : Ptr BasicBlock) (picks : Ptr BasicBlock → Bool) (ps : List (Ptr BasicBlock)) → without (λ p. same_block p a) (without picks ps) ≡ without (and_also a picks) ps
without_both a picks [] = refl
without_both a picks (p ∷ ps) = by_case (picks p) (without_both a picks ps) where
  gone : (s : Bool) (x y z : List (Ptr BasicBlock)) → x ≡ y → x ≡ (if cond s true true then y else z)
  gone true x y z e = e
  gone false x y z e = e

  left : (s : Bool) (x y : List (Ptr BasicBlock)) → x ≡ y → (if s then x else p ∷ x) ≡ (if cond s true false then y else p ∷ y)
  left true x y e = e
  left false x y e = ap (λ l. p ∷ l) e

  by_case : (b : Bool) → without (λ q. same_block q a) (without picks ps) ≡ without (and_also a picks) ps
      → without (λ q. same_block q a) (if b then without picks ps else p ∷ without picks ps) ≡ (if cond (same_block p a) true b then without (and_also a picks) ps else p ∷ without (and_also a picks) ps)
  by_case true e = gone (same_block p a) (without (λ q. same_block q a) (without picks ps)) (without (and_also a picks) ps) (p ∷ without (and_also a picks) ps) e
  by_case false e = left (same_block p a) (without (λ q. same_block q a) (without picks ps)) (without (and_also a picks) ps) e

-- a handle is in a list at some index, or not in it
found_or_not : {E : Type 0} (p : Ptr E) (xs : List (Ptr E)) → ((k : ℕ) × (slice_get xs k ≡ Some p)) ⊎ (Has p xs → ⊥)
found_or_not p [] = inr (λ h. h)
found_or_not p (x ∷ xs) = ⊎_elim
    (λ (e : p ≡ x). inl (zero, ap Some (sym e)))
    (λ (ne : p ≢ x). ⊎_elim (λ r. inl (suc r.0, r.1)) (λ none. inr (λ h. ⊎_elim ne none h)) (found_or_not p xs))
    (same_or_not p x)

node_or_not : (e f : IRNode) → (e ≡ f) ⊎ (e ≢ f)
node_or_not (OperationNode p) (OperationNode q) = ⊎_elim (λ e. inl (ap OperationNode e)) (λ ne. inr (λ h. let e : p ≡ q = cc in ne e)) (same_or_not p q)
node_or_not (BlockNode p) (BlockNode q) = ⊎_elim (λ e. inl (ap BlockNode e)) (λ ne. inr (λ h. let e : p ≡ q = cc in ne e)) (same_or_not p q)
node_or_not (RegionNode p) (RegionNode q) = ⊎_elim (λ e. inl (ap RegionNode e)) (λ ne. inr (λ h. let e : p ≡ q = cc in ne e)) (same_or_not p q)
node_or_not (OperationNode p) (BlockNode q) = inr (λ h. cc)
node_or_not (OperationNode p) (RegionNode q) = inr (λ h. cc)
node_or_not (BlockNode p) (OperationNode q) = inr (λ h. cc)
node_or_not (BlockNode p) (RegionNode q) = inr (λ h. cc)
node_or_not (RegionNode p) (OperationNode q) = inr (λ h. cc)
node_or_not (RegionNode p) (BlockNode q) = inr (λ h. cc)

pub node_found : (e : IRNode) (es : List IRNode) → ((k : ℕ) × (slice_get es k ≡ Some e)) ⊎ (Has e es → ⊥)
node_found e [] = inr (λ h. h)
node_found e (x ∷ es) = ⊎_elim
    (λ (same : e ≡ x). inl (zero, ap Some (sym same)))
    (λ (ne : e ≢ x). ⊎_elim (λ r. inl (suc r.0, r.1)) (λ none. inr (λ h. ⊎_elim ne none h)) (node_found e es))
    (node_or_not e x)

-- what is among the entities inside an operation is inside it
pub decided_by : {O B : Type 0} (c : Program O B) (op : Ptr BasicBlock) (es : List IRNode) → AreInside c (BlockNode op) es → DecidesInsideBlock c op
decided_by c op es members e = ⊎_elim
    (λ (k : (k : ℕ) × (slice_get es k ≡ Some e)). inl (members.inside k.0 e k.1))
    (λ none. inr (λ i. let k = members.all e i in none (at_has es k.0 e k.1)))
    (node_found e es)

pub decided_within : {O B : Type 0} (c : Program O B) (op : Ptr Operation) (es : List IRNode) → AreInside c (OperationNode op) es → DecidesWithin c op
decided_within c op es members e = ⊎_elim
    (λ (k : (k : ℕ) × (slice_get es k ≡ Some e)). inl (members.inside k.0 e k.1))
    (λ none. inr (λ i. let k = members.all e i in none (at_has es k.0 e k.1)))
    (node_found e es)

-- of a member that comes once, taking it out by its index is leaving it out
left_out : (a : Ptr BasicBlock) (ps : List (Ptr BasicBlock)) (k : ℕ) → Once ps → slice_get ps k ≡ Some a → without (λ p. same_block p a) ps ≡ remove ps k
left_out a [] k once h = cc
left_out a (p ∷ ps) zero once h =
    let s : Some p ≡ Some a = h in
    let e : p ≡ a = cc in
    rw (block_yes p a e) (without_none (λ q. same_block q a) ps (λ q has. block_no q a (λ same. once.0 (subst (λ x. Has x ps) (same ∙ sym e) has))))
left_out a (p ∷ ps) (suc k) once h =
    rw (block_no p a (λ e. once.0 (subst (λ x. Has x ps) (sym e) (at_has ps k a h)))) (ap (λ l. p ∷ l) (left_out a ps k once.1 h))

-- members of a list without those that are picked
pub was_there : (picks : Ptr BasicBlock → Bool) (ps : List (Ptr BasicBlock)) (p : Ptr BasicBlock) → Has p (without picks ps) → Has p ps
was_there picks [] p h = h
was_there picks (q ∷ ps) p h = by_case (picks q) (was_there picks ps p) h where
  by_case : (b : Bool) → (Has p (without picks ps) → Has p ps) → Has p (if b then without picks ps else q ∷ without picks ps) → Has p (q ∷ ps)
  by_case true ih h = inr (ih h)
  by_case false ih h = ⊎_elim (λ e. inl e) (λ r. inr (ih r)) h

pub is_left : (picks : Ptr BasicBlock → Bool) (ps : List (Ptr BasicBlock)) (p : Ptr BasicBlock) → picks p ≡ false → Has p ps → Has p (without picks ps)
is_left picks [] p out h = h
is_left picks (q ∷ ps) p out h = by_case (picks q) refl (is_left picks ps p out) h where
  by_case : (b : Bool) → picks q ≡ b → (Has p ps → Has p (without picks ps)) → Has p (q ∷ ps) → Has p (if b then without picks ps else q ∷ without picks ps)
  by_case true e ih h = ⊎_elim (λ (s : p ≡ q). let f : picks q ≡ false = sym (ap picks s) ∙ out in cc) (λ r. ih r) h
  by_case false e ih h = ⊎_elim (λ s. inl s) (λ r. inr (ih r)) h

-- what is among the first of a list is at an early index
pub taken_at : {X : Type 0} (xs : List X) (i : ℕ) (x : X) → Has x (take i xs) → (j : ℕ) × (j < i) × (slice_get xs j ≡ Some x)
taken_at [] zero x h = absurd h
taken_at [] (suc i) x h = absurd h
taken_at (y ∷ ys) zero x h = absurd h
taken_at (y ∷ ys) (suc i) x h = ⊎_elim (λ e. (zero, omega arith, ap Some (sym e))) (λ t. let r = taken_at ys i x t in let l = r.1 in (suc r.0, omega (arith, l), r.2)) h

pub nothing : {X : Type 0} (o : Option X) → o ≡ None → IsSome o → ⊥
nothing None e h = cc
nothing (Some x) e h = cc

module _ {O B : Type 0} where
  -- what is there, and what isn't
  no_longer : (c : Program O B) (e : IRNode) → IsGone c e → IsLiveNode c e → ⊥
  no_longer c (OperationNode p) gone live = nothing (operation_at c p) gone.0 live
  no_longer c (BlockNode b) gone live = nothing (block_at c b) gone.0 live
  no_longer c (RegionNode r) gone live = nothing (region_at c r) gone.0 live

  -- what is gone stays so
  pub gone_still : (old new : Program O B) → KeepsErased old new → (e : IRNode) → IsGone old e → IsGone new e
  gone_still old new erased (OperationNode p) g = let s = erased.operations p.key g.1 in (ap (option_map (operation_of new p)) s.gone, s)
  gone_still old new erased (BlockNode b) g = let s = erased.blocks b.key g.1 in (ap (option_map (block_of new b)) s.gone, s)
  gone_still old new erased (RegionNode r) g = let s = erased.regions r.key g.1 in (ap (option_map (λ u. region_of new r)) s.gone, s)

  module _ (old mid : Program O B) (lists : HasLists old) (picks : Ptr BasicBlock → Bool) (done : ErasesPickedBlocks old mid picks) where
    -- what is inside something picked was there
    was_live : (e : IRNode) → IsWithinPickedBlocks old picks e → IsLiveNode old e
    was_live e h = live_inside e h.2 where
      live_inside : (f : IRNode) → StandsInside old (BlockNode h.0) f → IsLiveNode old f
      live_inside _ itself = done.there h.0 h.1
      live_inside _ (in_block p b s i) = s.operation
      live_inside _ (in_region b r s i) = s.block
      live_inside _ (in_operation r p s i) = s.region

    -- what is there isn't inside something picked, and was there
    pub live_outside : (e : IRNode) → IsLiveNode mid e → IsWithinPickedBlocks old picks e → ⊥
    live_outside e live h = no_longer mid e (done.gone e (was_live e h) h) live

    pub still_live : (e : IRNode) → (IsWithinPickedBlocks old picks e → ⊥) → IsLiveNode old e → IsLiveNode mid e
    still_live (OperationNode p) out live = subst IsSome (sym (done.operations p out)) live
    still_live (BlockNode b) out live = subst IsSome (sym (done.blocks b out)) live
    still_live (RegionNode r) out live = subst IsSome (sym (done.regions r out)) (mapped (region_at old r) live) where
      mapped : (o : Option RegionView) → IsSome o → IsSome (option_map (λ (v : RegionView). record v { blocks = without picks v.blocks }) o)
      mapped None h = h
      mapped (Some v) h = h

    -- what the lists of what is left were
    pub blocks_were : (r : Ptr Region) → (IsWithinPickedBlocks old picks (RegionNode r) → ⊥) → blocks_in mid r ≡ without picks (blocks_in old r)
    blocks_were r out = ap (λ o. unwrap_or (option_map (λ (v : RegionView). v.blocks) o) []) (done.regions r out) ∙ listed (region_at old r) where
      listed : (o : Option RegionView) → unwrap_or (option_map (λ (v : RegionView). v.blocks) (option_map (λ (v : RegionView). record v { blocks = without picks v.blocks }) o)) [] ≡ without picks (unwrap_or (option_map (λ (v : RegionView). v.blocks) o) [])
      listed None = refl
      listed (Some v) = refl

    pub operations_were : (b : Ptr BasicBlock) → (IsWithinPickedBlocks old picks (BlockNode b) → ⊥) → operations_in mid b ≡ operations_in old b
    operations_were b out = ap (λ o. unwrap_or (option_map (λ (v : BlockView B). v.operations) o) []) (done.blocks b out)

    pub regions_were : (p : Ptr Operation) → (IsWithinPickedBlocks old picks (OperationNode p) → ⊥) → regions_in mid p ≡ regions_in old p
    regions_were p out = ap (λ o. unwrap_or (option_map (λ (v : OperationView O). v.regions) o) []) (done.operations p out)

    -- so what is inside something was inside it
    pub was_inside : (x e : IRNode) → StandsInside mid x e → StandsInside old x e
    was_inside x _ itself = itself
    was_inside x _ (in_block p b s i) =
        let out = live_outside (BlockNode b) s.block in
        in_block p b (lists.operations b s.index p (ap (λ ps. slice_get ps s.index) (sym (operations_were b out)) ∙ s.here)) (was_inside x (BlockNode b) i)
    was_inside x _ (in_region b r s i) =
        let out = live_outside (RegionNode r) s.region in
        let k = has_at (blocks_in old r) b (was_there picks (blocks_in old r) b (at_has (without picks (blocks_in old r)) s.index b (ap (λ ps. slice_get ps s.index) (sym (blocks_were r out)) ∙ s.here))) in
        in_region b r (lists.blocks r k.0 b k.1) (was_inside x (RegionNode r) i)
    was_inside x _ (in_operation r p s i) =
        let out = live_outside (OperationNode p) s.operation in
        in_operation r p (lists.regions p s.index r (ap (λ ps. slice_get ps s.index) (sym (regions_were p out)) ∙ s.here)) (was_inside x (OperationNode p) i)

    -- and what was inside something, and is left, is inside it
    pub is_inside : (x e : IRNode) → (IsWithinPickedBlocks old picks e → ⊥) → StandsInside old x e → StandsInside mid x e
    is_inside x _ out itself = itself
    is_inside x _ out (in_block p b s i) =
        let above : IsWithinPickedBlocks old picks (BlockNode b) → ⊥ = λ h. out (h.0, h.1, in_block p b s h.2) in
        in_block p b
        (record { operation = still_live (OperationNode p) out s.operation; block = still_live (BlockNode b) above s.block; index = s.index; here = ap (λ ps. slice_get ps s.index) (operations_were b above) ∙ s.here })
        (is_inside x (BlockNode b) above i)
    is_inside x _ out (in_region b r s i) =
        let above : IsWithinPickedBlocks old picks (RegionNode r) → ⊥ = λ h. out (h.0, h.1, in_region b r s h.2) in
        let stays : picks b ≡ false = not_true (picks b) (λ h. out (b, h, itself)) in
        let k = has_at (without picks (blocks_in old r)) b (is_left picks (blocks_in old r) b stays (at_has (blocks_in old r) s.index b s.here)) in
        in_region b r
        (record { block = still_live (BlockNode b) out s.block; region = still_live (RegionNode r) above s.region; index = k.0; here = ap (λ ps. slice_get ps k.0) (blocks_were r above) ∙ k.1 })
        (is_inside x (RegionNode r) above i)
    is_inside x _ out (in_operation r p s i) =
        let above : IsWithinPickedBlocks old picks (OperationNode p) → ⊥ = λ h. out (h.0, h.1, in_operation r p s h.2) in
        in_operation r p
        (record { region = still_live (RegionNode r) out s.region; operation = still_live (OperationNode p) above s.operation; index = s.index; here = ap (λ ps. slice_get ps s.index) (regions_were p above) ∙ s.here })
        (is_inside x (OperationNode p) above i)

    -- what isn't inside one picked or one more
    module _ (a : Ptr BasicBlock) where
      not_picked : (e : IRNode) → (IsWithinPickedBlocks old (and_also a picks) e → ⊥) → IsWithinPickedBlocks old picks e → ⊥
      not_picked e out h = out (h.0, also_picked a picks h.0 h.1, h.2)

      not_it : (e : IRNode) → (IsWithinPickedBlocks old (and_also a picks) e → ⊥) → StandsInside old (BlockNode a) e → ⊥
      not_it e out i = out (a, also_it a picks, i)

      there_too : IsLiveNode old (BlockNode a) → (b : Ptr BasicBlock) → and_also a picks b ≡ true → IsLiveNode old (BlockNode b)
      there_too live b h = ⊎_elim (λ (e : b ≡ a). subst (λ q. IsLiveNode old (BlockNode q)) (sym e) live) (λ t. done.there b t) (it_or_picked a picks b h)

      -- what is left, and goes with one more, stands inside that one
      inside_it : (e : IRNode) → IsLiveNode mid e → IsWithinPickedBlocks old (and_also a picks) e → StandsInside old (BlockNode a) e
      inside_it e live h = ⊎_elim
          (λ (s : h.0 ≡ a). subst (λ q. StandsInside old (BlockNode q) e) s h.2)
          (λ t. absurd (live_outside e live (h.0, t, h.2)))
          (it_or_picked a picks h.0 h.1)

      -- one more that is erased
      module _ (new : Program O B) (now : HasLists mid) (live : IsLiveNode mid (BlockNode a)) (decides : DecidesInsideBlock mid a) (erases : ErasesBlock mid new a) where
        with_list : (f g : List (Ptr BasicBlock) → List (Ptr BasicBlock)) (o : Option RegionView) → f (unwrap_or (option_map (λ (v : RegionView). v.blocks) o) []) ≡ g (unwrap_or (option_map (λ (v : RegionView). v.blocks) o) [])
            → option_map (λ (v : RegionView). record v { blocks = f v.blocks }) o ≡ option_map (λ (v : RegionView). record v { blocks = g v.blocks }) o
        with_list f g None e = refl
        with_list f g (Some v) e = ap (λ ps. Some (record v { blocks = ps })) e

        same_region : (o : Option RegionView) → o ≡ option_map (λ (v : RegionView). record v { blocks = v.blocks }) o
        same_region None = refl
        same_region (Some v) = refl

        region_now : (r : Ptr Region) → (StandsInside mid (BlockNode a) (RegionNode r) → ⊥) → region_at new r ≡ option_map (λ (v : RegionView). record v { blocks = without (λ p. same_block p a) v.blocks }) (region_at mid r)
        region_now r out = ⊎_elim
            (λ (here : (k : ℕ) × (slice_get (blocks_in mid r) k ≡ Some a)).
            erases.holder r here.0 here.1 ∙ with_list (λ ps. remove ps here.0) (without (λ p. same_block p a)) (region_at mid r)
            (sym (left_out a (blocks_in mid r) here.0 (once_of (blocks_in mid r) (λ j k q x y. (now.blocks_once q r r j k x y).1)) here.1)))
            (λ (none : Has a (blocks_in mid r) → ⊥).
            erases.regions r out (λ s. none (at_has (blocks_in mid r) s.index a s.here)) ∙ same_region (region_at mid r) ∙ with_list (λ ps. ps) (without (λ p. same_block p a)) (region_at mid r)
            (sym (without_none (λ p. same_block p a) (blocks_in mid r) (λ p has. block_no p a (λ e. none (subst (λ q. Has q (blocks_in mid r)) e has))))))
            (found_or_not a (blocks_in mid r))

        live_still : (e : IRNode) → (StandsInside mid (BlockNode a) e → ⊥) → IsLiveNode mid e → IsLiveNode new e
        live_still (OperationNode p) out l = subst IsSome (sym (erases.operations p out)) l
        live_still (BlockNode b) out l = subst IsSome (sym (erases.blocks b out)) l
        live_still (RegionNode r) out l = subst IsSome (sym (region_now r out)) (mapped (region_at mid r) l) where
          mapped : (o : Option RegionView) → IsSome o → IsSome (option_map (λ (v : RegionView). record v { blocks = without (λ p. same_block p a) v.blocks }) o)
          mapped None h = h
          mapped (Some v) h = h

        twice_left : (o : Option RegionView) → option_map (λ (v : RegionView). record v { blocks = without (λ p. same_block p a) v.blocks }) (option_map (λ (v : RegionView). record v { blocks = without picks v.blocks }) o)
            ≡ option_map (λ (v : RegionView). record v { blocks = without (and_also a picks) v.blocks }) o
        twice_left None = refl
        twice_left (Some v) = ap (λ ps. Some (record v { blocks = ps })) (without_both a picks v.blocks)

        outside_now : (e : IRNode) → (IsWithinPickedBlocks old (and_also a picks) e → ⊥) → StandsInside mid (BlockNode a) e → ⊥
        outside_now e out i = not_it e out (was_inside (BlockNode a) e i)

        pub one_more : IsLiveNode old (BlockNode a) → ErasesPickedBlocks old new (and_also a picks)
        one_more was = record {
          there = there_too was;
          operations = λ p out. erases.operations p (outside_now (OperationNode p) out) ∙ done.operations p (not_picked (OperationNode p) out);
          blocks = λ b out. erases.blocks b (outside_now (BlockNode b) out) ∙ done.blocks b (not_picked (BlockNode b) out);
          regions = λ r out. region_now r (outside_now (RegionNode r) out)
              ∙ ap (option_map (λ (v : RegionView). record v { blocks = without (λ p. same_block p a) v.blocks })) (done.regions r (not_picked (RegionNode r) out)) ∙ twice_left (region_at old r);
          gone = λ e there h. ⊎_elim (λ l. erases.gone e l (is_inside (BlockNode a) e (live_outside e l) (inside_it e l h))) (gone_still mid new erases.erased e) (done.decided e there);
          decided = λ e there. ⊎_elim
              (λ l. ⊎_elim (λ i. inr (erases.gone e l i)) (λ out. inl (live_still e out l)) (decides e))
              (λ g. inr (gone_still mid new erases.erased e g))
              (done.decided e there);
          erased = erased_twice old mid new done.erased erases.erased;
        }

  -- nothing is erased
  pub none_erased : (c : Program O B) → ErasesPickedBlocks c c (λ p. false)
  none_erased c = record {
    there = λ p h. cc;
    operations = λ p out. refl;
    blocks = λ b out. refl;
    regions = λ r out. all_left (region_at c r);
    gone = λ e there h. let f : false ≡ true = h.1 in cc;
    decided = λ e there. inl there;
    erased = erased_none c;
  } where
    all_left : (o : Option RegionView) → o ≡ option_map (λ (v : RegionView). record v { blocks = without (λ p. false) v.blocks }) o
    all_left None = refl
    all_left (Some v) = ap (λ ps. Some (record v { blocks = ps })) (sym (without_none (λ p. false) v.blocks (λ p has. refl)))

  -- what is inside the root is there
  inside_there : (c : Program O B) (op : Ptr Operation) → IsSome (operation_at c op) → (e : IRNode)
      → StandsInside c (OperationNode op) e → IsLiveNode c e
  inside_there c op live _ itself = live
  inside_there c op live _ (in_block p b s i) = s.operation
  inside_there c op live _ (in_region b r s i) = s.block
  inside_there c op live _ (in_operation r p s i) = s.region

  -- blocks that go are erased with all that is in them, and the rest stays inside what it was in
  pub handles_kept : (old new : Program O B) → HasLists old → (picks : Ptr BasicBlock → Bool)
      → ErasesPickedBlocks old new picks → (op : Ptr Operation) → IsSome (operation_at old op) → KeepsHandles old new op
  handles_kept old new lists picks done op root = record {
    erased = done.erased;
    inside = λ e i. ⊎_elim
        (λ live. inl (is_inside old new lists picks done (OperationNode op) e (live_outside old new lists picks done e live) i))
        inr
        (done.decided e (inside_there old op root e i));
  }

  -- what operations name of what is left they named before
  module _ (old mid : Program O B) (lists : HasLists old) (picks : Ptr BasicBlock → Bool) (done : ErasesPickedBlocks old mid picks) where
    same_or_none : (p : Ptr Operation) → (operation_at mid p ≡ operation_at old p) ⊎ (operation_at mid p ≡ None)
    same_or_none p = by_case (operation_at old p) refl where
      by_case : (o : Option (OperationView O)) → operation_at old p ≡ o → (operation_at mid p ≡ operation_at old p) ⊎ (operation_at mid p ≡ None)
      by_case None e = inl (done.operations p (λ h. nothing (operation_at old p) e (was_live old mid lists picks done (OperationNode p) h)))
      by_case (Some v) e = ⊎_elim
          (λ (l : IsSome (operation_at mid p)). inl (done.operations p (live_outside old mid lists picks done (OperationNode p) l)))
          (λ g. inr g.0)
          (done.decided (OperationNode p) (ap is_some e))

    none_listed : {X : Type 0} (k : ℕ) (x : X) → slice_get [] k ≡ Some x → ⊥
    none_listed k x h = cc

    pub operands_were : (p : Ptr Operation) (k : ℕ) (v : Value) → slice_get (operands_at mid p) k ≡ Some v → slice_get (operands_at old p) k ≡ Some v
    operands_were p k v h = ⊎_elim
        (λ (e : operation_at mid p ≡ operation_at old p). subst (λ o. slice_get (unwrap_or (option_map (λ (y : OperationView O). y.operands) o) []) k ≡ Some v) e h)
        (λ (e : operation_at mid p ≡ None). absurd (none_listed k v (subst (λ o. slice_get (unwrap_or (option_map (λ (y : OperationView O). y.operands) o) []) k ≡ Some v) e h)))
        (same_or_none p)

    pub successors_were : (p : Ptr Operation) (k : ℕ) (b : Ptr BasicBlock) → slice_get (successors_at mid p) k ≡ Some b → slice_get (successors_at old p) k ≡ Some b
    successors_were p k b h = ⊎_elim
        (λ (e : operation_at mid p ≡ operation_at old p). subst (λ o. slice_get (unwrap_or (option_map (λ (y : OperationView O). y.successors) o) []) k ≡ Some b) e h)
        (λ (e : operation_at mid p ≡ None). absurd (none_listed k b (subst (λ o. slice_get (unwrap_or (option_map (λ (y : OperationView O). y.successors) o) []) k ≡ Some b) e h)))
        (same_or_none p)

  -- one turn of the loop over the list of those that are erased
  module _ (old mid : Program O B) (lists : HasLists old) (bs : List (Ptr BasicBlock)) (i : ℕ) (a : Ptr BasicBlock) (here : slice_get bs i ≡ Some a) (done : ErasesPickedBlocks old mid (is_listed (take i bs))) where
    among_here : is_listed bs a ≡ true
    among_here = has_among bs a (at_has bs i a here)

    inside_then : (e : IRNode) → StandsInside mid (BlockNode a) e → IsWithinPickedBlocks old (is_listed bs) e
    inside_then e s = (a, among_here, was_inside old mid lists (is_listed (take i bs)) done (BlockNode a) e s)

    pub apart_now : NamesNoneOfBlocks old (is_listed bs) → IsApart mid (BlockNode a)
    apart_now names = record {
      values = λ p k v h s. absurd (names.values p k v (operands_were old mid lists (is_listed (take i bs)) done p k v h) (inside_then (definer_node v.definer) s));
      blocks = λ p k b h s. absurd (names.blocks p k b (successors_were old mid lists (is_listed (take i bs)) done p k b h) (inside_then (BlockNode b) s));
    }

    -- it is still there: no earlier one has it inside
    pub still_there : AreDistinct bs → ArePickedApart old (is_listed bs) → ((b : Ptr BasicBlock) → is_listed bs b ≡ true → IsLiveNode old (BlockNode b)) → IsLiveNode mid (BlockNode a)
    still_there once apart there = still_live old mid lists (is_listed (take i bs)) done (BlockNode a)
        (λ h.
        let has = among_has (take i bs) h.0 h.1 in
        let same : h.0 ≡ a = apart h.0 a (has_among bs h.0 (has_taken bs i h.0 has)) among_here h.2 in
        let j = taken_at bs i a (subst (λ x. Has x (take i bs)) same has) in
        let e = once j.0 i a j.2 here in
        let l = j.1 in
        omega (arith, l, e))
        (there a among_here)

    pub erased_next : HasLists mid → (new : Program O B) → ((b : Ptr BasicBlock) → is_listed bs b ≡ true → IsLiveNode old (BlockNode b)) → IsLiveNode mid (BlockNode a) → DecidesInsideBlock mid a → ErasesBlock mid new a → ErasesPickedBlocks old new (is_listed (take (i + 1) bs))
    erased_next now new there live decides erases = subst (ErasesPickedBlocks old new) (among_more bs i a here) (one_more old mid lists (is_listed (take i bs)) done a new now live decides erases (there a among_here))
