-- Blocks that are unreached stand in no other, and edges to them start in them.
use Rattle.std.proofs.Common.{◌≡◌, ◌⊎◌, inl, inr, ⊎_elim, ℕ, Bool, true, false, [], ◌∷◌, Some, IsSome, is_some, slice_get, option_map, unwrap_or, refl, sym, ap, ◌∙◌, subst}
use Rattle.std.specs.Prelude.{◌↔◌}
use Rattle.ir_program.specs.Lists.{StandsInRegion, StandsInside, itself, in_block, in_region, IsLiveNode}
use Rattle.ir_program.specs.Program.{Program, OperationView, block_at}
use Rattle.ir_program.specs.Rows.{successors_at}
use Rattle.ir_program.specs.declared.handles.IRNode.TheVariants.{Operation as OperationNode, BasicBlock as BlockNode}
use Rattle.ir_program.specs.declared.handles.Ptr.{Ptr}
use Rattle.ir_program.specs.declared.handles.Operation.{Operation}
use Rattle.ir_program.specs.declared.handles.BasicBlock.{BasicBlock}
use Rattle.ir_program.proofs.made.Frames.{same_or_not}
use Rattle.ir_trees.specs.Trees.{Head, Label}
use Rattle.ir_trees.specs.Searched.{Lists}
use Rattle.ir_trees.specs.Stands.{by_handle, in_program, ProgramTree}
use Rattle.opt_trees.specs.Dialect.{Dialect}
use Rattle.opt_trees.specs.Occurrences.{Has, Spot, occurrences_of, block_occurrences_of}
use Rattle.opt_trees.specs.Simplify.{StartingRegions, BeginsAt, IsReached, further, IsVisited, of_place, of_inner, IsVisitedSsa, IsUnreached}
use Rattle.opt_inside.specs.Numbered.{Numbers, NumbersInside}
use Rattle.opt_inside.specs.Occurring.{Found, FoundBlock, AreBeside, IsBlockBelow}
use Rattle.opt_inside.proofs.Around.{HasLists, inside_both, around_block}
use Rattle.opt_inside.specs.reach.Edges.{IsBlockUnder, HasLocalEdgesFrom}
use Rattle.opt_inside.specs.reach.Fates.{IsEnteredThere}
use Rattle.opt_inside.specs.reach.Starts.{IsStartIn}
use Rattle.opt_inside.specs.declared.reach.starts.Start.{Start}
use Rattle.opt_simplify.proofs.RemovedStarts.{around_owner, block_below_start, starts_apart}
use Rattle.opt_simplify.specs.Removed.{IsWithinPickedBlocks, ArePickedApart, NamesWithin, TakesWithin}
use Rattle.opt_inside.proofs.ReachLemmas.Members.{lists_has}
use Rattle.opt_inside.proofs.ReachLemmas.Occurs.{Occurs, not_the_root}
use Rattle.opt_inside.proofs.ReachLemmas.Judged.{spot_entered, not_both}
use Rattle.opt_inside.proofs.ReachLemmas.Under.{under_into, entering_below, spot_under}

module _ {O B A : Type 0} (d : Dialect (in_program O B) A) (place : StartingRegions by_handle) (c : Program O B) (lists : HasLists c) (op : Ptr Operation) (n : Numbers) (numbered : NumbersInside c op n) (t : ProgramTree O B) (occurs : Occurs c op t) where
  -- each block around a visited region is entered, or is around an operation where looking begins
  around_entered : (q : Ptr Operation) (i : ℕ) → IsVisited d place t q i → (x : FoundBlock O B) → Has x (block_occurrences_of t) → x.spot.owner.name ≡ q → x.spot.region ≡ i → (a : Ptr BasicBlock) → Has a x.spot.within
      → ((y : FoundBlock O B) × Has y (block_occurrences_of t) × (y.label.name ≡ a) × IsEnteredThere d place t y) ⊎ ((b : Ptr Operation) × (k : ℕ) × BeginsAt place b k × StandsInside c (BlockNode a) (OperationNode b))
  around_entered _ _ (of_place q i begins) x has name index a m = inr (q, i, begins, subst (λ b. StandsInside c (BlockNode a) (OperationNode b)) name (around_owner c lists op t occurs x has a m))
  around_entered _ _ (of_inner o i o_has visited entered) x has name index a m = ⊎_elim
      (λ (r : (x.spot.owner ≡ t.head) × (x.spot.around ≡ []) × (x.spot.within ≡ [])). absurd (not_the_root c lists op t occurs o o_has (sym name ∙ ap (λ (g : Head by_handle (in_program O B)). g.name) r.0)))
      (λ (r : (p : Found O B) × Has p (occurrences_of t) × (x.spot.owner ≡ p.head) × (x.spot.around ≡ p.head.name ∷ p.site.spot.around) × (x.spot.within ≡ p.site.label.name ∷ p.site.spot.within)).
      let same : r.0 ≡ o = occurs.one r.0 o r.1 o_has (sym (ap (λ (g : Head by_handle (in_program O B)). g.name) r.2) ∙ name) in
      let around : Has a (o.site.label.name ∷ o.site.spot.within) = subst (Has a) (r.4 ∙ ap (λ (p : Found O B). p.site.label.name ∷ p.site.spot.within) same) m in
      let site = occurs.site o o_has in
      ⊎_elim
      (λ (e : a ≡ o.site.label.name).
      inl (site.block, site.found, ap (λ (l : Label by_handle (in_program O B)). l.name) site.label ∙ sym e, spot_entered d place c lists op n numbered t occurs site.block o.site.label o.site.spot site.label site.spot visited entered))
      (λ (w : Has a o.site.spot.within).
      around_entered o.site.spot.owner.name o.site.spot.region visited site.block site.found (ap (λ (s : Spot by_handle (in_program O B)). s.owner.name) site.spot) (ap (λ (s : Spot by_handle (in_program O B)). s.region) site.spot) a (subst (λ (s : Spot by_handle (in_program O B)). Has a s.within) (sym site.spot) w))
      around)
      (occurs.nested x has)

  module _ (picks : Ptr BasicBlock → Bool) (unreached : (b : Ptr BasicBlock) → (picks b ≡ true) ↔ IsUnreached d place t b) where
    pub picked_below : (b : Ptr BasicBlock) → picks b ≡ true → IsBlockBelow c op b
    picked_below b h = let u = (unreached b).0 h in subst (IsBlockBelow c op) u.name (occurs.blocks_sound u.it u.stands).below

    pub picked_there : (b : Ptr BasicBlock) → picks b ≡ true → IsLiveNode c (BlockNode b)
    picked_there b h =
        let u = (unreached b).0 h in
        subst (λ x. IsSome (block_at c x)) u.name (ap is_some (occurs.blocks_sound u.it u.stands).there)

    pub picked_apart : (start : Start) → IsStartIn c start place → ArePickedApart c picks
    picked_apart start is_start a b pa pb inside = ⊎_elim
        (λ e. e)
        (λ ne.
        let ua = (unreached a).0 pa in
        let ub = (unreached b).0 pb in
        let spot = (occurs.blocks_sound ub.it ub.stands).spot in
        let m : Has a ub.it.spot.within = (spot.within a).1 (picked_below a pa, λ e. ne (e ∙ ub.name), subst (λ x. StandsInside c (BlockNode a) (BlockNode x)) (sym ub.name) inside) in
        ⊎_elim
        (λ (y : (y : FoundBlock O B) × Has y (block_occurrences_of t) × (y.label.name ≡ a) × IsEnteredThere d place t y).
        let same : y.0 ≡ ua.it = occurs.blocks_one y.0 ua.it y.1 ua.stands (y.2 ∙ sym ua.name) in
        absurd (not_both d place c lists op n numbered t occurs ua.it (subst (IsEnteredThere d place t) same y.3) (ua.visited, λ r. ua.unreached (subst (IsReached t) ua.name r))))
        (λ (h : (q : Ptr Operation) × (k : ℕ) × BeginsAt place q k × StandsInside c (BlockNode a) (OperationNode q)).
        let g = block_below_start c lists op t occurs d place ua.it ua.stands ua.visited.visited in
        absurd (starts_apart c lists place start is_start h.0 g.0 h.1 g.1 h.2 g.2 a (subst (λ x. StandsInside c (OperationNode g.0) (BlockNode x)) ua.name g.3) h.3))
        (around_entered ub.it.spot.owner.name ub.it.spot.region ub.visited.visited ub.it ub.stands refl refl a m))
        (same_or_not a b)

    module _ (start : Start) (is_start : IsStartIn c start place) (is_terminator : O → Bool) (edges : HasLocalEdgesFrom is_terminator c start) where
      picked_under : (b : Ptr BasicBlock) → picks b ≡ true → IsBlockUnder c start b
      picked_under b h =
          let u = (unreached b).0 h in
          subst (IsBlockUnder c start) u.name (spot_under d place c lists start is_start op t occurs.sound u.it.label.name u.it.spot (occurs.blocks_sound u.it u.stands).spot u.visited.visited)

      -- an edge to it from a block that stays would reach it
      edge_from : (o : Found O B) → Has o (occurrences_of t) → (b : Ptr BasicBlock) → picks b ≡ true → Lists (successors_at c o.head.name) b → picks o.site.label.name ≡ false → ⊥
      edge_from o has b pb l stays =
          let is = occurs.sound o has in
          let site = occurs.site o has in
          let u = (unreached b).0 pb in
          let row : successors_at c o.head.name ≡ o.head.successors = ap (λ v. unwrap_or (option_map (λ (w : OperationView O). w.successors) v) []) is.there ∙ sym (ap (λ (g : Head by_handle (in_program O B)). g.successors) is.head) in
          let in_r : StandsInRegion c b is.spot.region = edges.leaving o.head.name b o.site.label.name is.spot.region (edges.entering o.head.name b l (picked_under b pb)) l is.in_block is.spot.in_region in
          let name : site.block.label.name ≡ o.site.label.name = ap (λ (m : Label by_handle (in_program O B)). m.name) site.label in
          let beside : AreBeside u.it.spot site.block.spot = occurs.beside u.it site.block u.stands site.found is.spot.region
          (subst (λ x. StandsInRegion c x is.spot.region) (sym u.name) in_r) (subst (λ x. StandsInRegion c x is.spot.region) (sym name) is.spot.in_region) in
          let visited : IsVisitedSsa d place t site.block.spot = record {
            visited = subst (IsVisited d place t site.block.spot.owner.name) beside.region (subst (λ (g : Head by_handle (in_program O B)). IsVisited d place t g.name u.it.spot.region) beside.owner u.visited.visited);
            ssa = (λ i. d.is_ssa (sym beside.owner i).content (sym beside.region i)) ∙ u.visited.ssa;
          } in
          let goes : picks o.site.label.name ≡ true = (unreached o.site.label.name).1 (record {
            it = site.block;
            stands = site.found;
            name = name;
            visited = visited;
            unreached = λ r. u.unreached (further o b has r (lists_has o.head.successors b l.0 (ap (λ ss. slice_get ss l.0) (sym row) ∙ l.1)));
          }) in
          let f : true ≡ false = sym goes ∙ stays in cc

      pub edges_within : (p : Ptr Operation) (k : ℕ) (s : Ptr BasicBlock) → slice_get (successors_at c p) k ≡ Some s → IsWithinPickedBlocks c picks (BlockNode s) → IsWithinPickedBlocks c picks (OperationNode p)
      edges_within p k s h w =
          let s_below : IsBlockBelow c op s = inside_both c (OperationNode op) (BlockNode w.0) (BlockNode s) (picked_below w.0 w.1) w.2 in
          let s_under = under_into c start (BlockNode w.0) (BlockNode s) (picked_under w.0 w.1) w.2 in
          let o = occurs.found p (entering_below c start lists is_terminator edges op p s (k, h) s_under s_below) in
          let is = occurs.sound o.0 o.1 in
          let row : slice_get (successors_at c o.0.head.name) k ≡ Some s = ap (λ q. slice_get (successors_at c q) k) o.2 ∙ h in
          let in_r : StandsInRegion c s is.spot.region = edges.leaving o.0.head.name s o.0.site.label.name is.spot.region (edges.entering o.0.head.name s (k, row) s_under) (k, row) is.in_block is.spot.in_region in
          subst (λ q. IsWithinPickedBlocks c picks (OperationNode q)) o.2 (⊎_elim
          (λ (e : BlockNode w.0 ≡ BlockNode s).
          let same : w.0 ≡ s = cc in
          by_test o.0 o.1 s (subst (λ x. picks x ≡ true) same w.1) (k, row) (picks o.0.site.label.name) refl)
          (λ i. (w.0, w.1, in_block o.0.head.name o.0.site.label.name is.in_block (in_region o.0.site.label.name is.spot.region is.spot.in_region i)))
          (around_block c lists (BlockNode w.0) s is.spot.region in_r w.2))
        where
          by_test : (o : Found O B) (has : Has o (occurrences_of t)) (b : Ptr BasicBlock) → picks b ≡ true → Lists (successors_at c o.head.name) b → (g : Bool) → picks o.site.label.name ≡ g → IsWithinPickedBlocks c picks (OperationNode o.head.name)
          by_test o has b pb l true e = (o.site.label.name, e, in_block o.head.name o.site.label.name (occurs.sound o has).in_block itself)
          by_test o has b pb l false e = absurd (edge_from o has b pb l e)

      pub named_within : TakesWithin c picks → NamesWithin c picks
      named_within takes = record { values = takes; blocks = edges_within }
