-- Paths from the entries of regions, by the numbers of blocks.
use Rattle.std.proofs.Common.{◌≡◌, ◌⊎◌, inl, inr, ⊎_elim, ℕ, ◌-◌, Bool, List, [], length, Option, None, Some, slice_get, option_map, unwrap_or, refl, sym, ap, ◌∙◌, subst, arith}
use Rattle.std.specs.Prelude.{◌↔◌, Contains}
use Rattle.std.specs.declared.vec.Vec.{Vec}
use Rattle.std.specs.declared.alloc.Global.{Global}
use Rattle.std.proofs.lemmas.Option.{same_Some, slice_get_within}
use Rattle.digraph.specs.Graph.{successors, Reaches, Here, Along}
use Rattle.ir_program.specs.Program.{Program, OperationView, operation_at}
use Rattle.ir_program.specs.Lists.{StandsInBlock, StandsInRegion, operations_in, blocks_in}
use Rattle.ir_program.specs.Replacing.{same_block}
use Rattle.ir_program.specs.Rows.{successors_at}
use Rattle.ir_program.specs.declared.handles.Ptr.{Ptr}
use Rattle.ir_program.specs.declared.handles.Operation.{Operation}
use Rattle.ir_program.specs.declared.handles.BasicBlock.{BasicBlock}
use Rattle.ir_program.proofs.used.Renaming.{block-test}
use Rattle.ir_trees.specs.Trees.{Head, Label}
use Rattle.ir_trees.specs.Searched.{Lists}
use Rattle.ir_trees.specs.Stands.{by_handle, in_program, ProgramTree}
use Rattle.opt_trees.specs.Occurrences.{Has}
use Rattle.opt_trees.specs.Simplify.{IsReached, entry, further}
use Rattle.opt_inside.specs.Numbered.{Numbers, NumbersInside}
use Rattle.opt_inside.specs.Occurring.{IsBlockBelow}
use Rattle.opt_inside.proofs.Around.{HasLists}
use Rattle.opt_inside.specs.reach.Edges.{IsUnder, IsBlockUnder, HasLocalEdgesFrom}
use Rattle.opt_inside.specs.reach.Paths.{number_in, exits_by, exits_of, IsEntry, IsPathGraph}
use Rattle.opt_inside.specs.declared.reach.starts.Start.{Start}
use Rattle.opt_inside.proofs.ReachLemmas.Members.{has_lists, lists_has, made_of, made_in}
use Rattle.opt_inside.proofs.ReachLemmas.Places.{placed, unplaced, listed_or_not, own_place}
use Rattle.opt_inside.proofs.ReachLemmas.Occurs.{Occurs, below_block, site_is, spot_region}
use Rattle.opt_inside.proofs.ReachLemmas.Under.{block_under}

module _ {O B : Type 0} (c : Program O B) (lists : HasLists c) (op : Ptr Operation) (n : Numbers) (numbered : NumbersInside c op n) where
  -- the operation that leads on from a block is its last one
  leads_on : (b s : Ptr BasicBlock) → Has s (exits_of c b) → (p : Ptr Operation) × StandsInBlock c p b × Lists (successors_at c p) s
  leads_on b s h = by_last (slice_get (operations_in c b) (length (operations_in c b) - 1)) refl h where
    by_last : (o : Option (Ptr Operation)) → slice_get (operations_in c b) (length (operations_in c b) - 1) ≡ o → Has s (exits_by c o) → (p : Ptr Operation) × StandsInBlock c p b × Lists (successors_at c p) s
    by_last None e m = absurd m
    by_last (Some p) e m = (p, lists.operations b (length (operations_in c b) - 1) p e, has_lists (successors_at c p) s m)

  module _ (t : ProgramTree O B) (occurs : Occurs c op t) (rows : List (Vec ℕ Global)) (graph : IsPathGraph c n.blocks rows) where
    -- the node that leads to the entries
    abbrev origin : ℕ
    origin = length n.blocks

    numbered_below : (k : ℕ) (b : Ptr BasicBlock) → slice_get n.blocks k ≡ Some b → IsBlockBelow c op b
    numbered_below k b h = (numbered.blocks b).0 (k, h)

    entry_reached : (b : Ptr BasicBlock) → IsBlockBelow c op b → IsEntry c b → IsReached t b
    entry_reached b below e =
        let x = occurs.blocks_found b below in
        let p = occurs.blocks_sound x.0 x.1 in
        let in_r = lists.blocks e.0 0 b e.1 in
        let r : p.spot.region ≡ e.0 = spot_region c lists op t occurs x.0 x.1 e.0 (subst (λ y. StandsInRegion c y e.0) (sym x.2) in_r) in
        subst (IsReached t) x.2 (entry x.0 x.1 (p.spot.first.1 (ap (λ q. slice_get (blocks_in c q) 0) r ∙ e.1 ∙ ap Some (sym x.2))))

    step_reached : (b s : Ptr BasicBlock) → IsBlockBelow c op b → IsReached t b → Has s (exits_of c b) → IsReached t s
    step_reached b s below reach h =
        let l = leads_on b s h in
        let o = occurs.found l.0 (below_block c lists op l.0 b l.1 below) in
        let is = occurs.sound o.0 o.1 in
        let at : o.0.site.label.name ≡ b = site_is c lists op t occurs o.0 o.1 b (subst (λ q. StandsInBlock c q b) (sym o.2) l.1) in
        let view : operation_at c l.0 ≡ Some is.view = ap (operation_at c) (sym o.2) ∙ is.there in
        let row : successors_at c l.0 ≡ o.0.head.successors = ap (λ v. unwrap_or (option_map (λ (w : OperationView O). w.successors) v) []) view ∙ sym (ap (λ (g : Head by_handle (in_program O B)). g.successors) is.head) in
        further o.0 s o.1 (subst (IsReached t) (sym at) reach) (lists_has o.0.head.successors s l.2.0 (ap (λ ss. slice_get ss l.2.0) (sym row) ∙ l.2.1))

    -- paths lead to blocks that are reached alone; what has no number leads back to where all begins
    abbrev Found : ℕ → Type 0
    Found m = (m ≡ origin) ⊎ ((b : Ptr BasicBlock) × (slice_get n.blocks m ≡ Some b) × IsReached t b)

    path_reaches : (m : ℕ) → Reaches (successors rows) origin m → Found m
    path_reaches _ Here = inl refl
    path_reaches m (Along {b = j} path e) = ⊎_elim
        (λ (s : j ≡ origin).
        let g = (graph.entries m).0 (subst (λ i. Contains (successors rows i) m) s e) in
        inr (g.0, g.1, entry_reached g.0 (numbered_below m g.0 g.1) g.2))
        (λ (f : (b : Ptr BasicBlock) × (slice_get n.blocks j ≡ Some b) × IsReached t b).
        let below = numbered_below j f.0 f.1 in
        let g = made_of (number_in n.blocks) (exits_of c f.0) (successors rows j) m (graph.blocks j f.0 f.1) e in
        ⊎_elim
        (λ (l : Lists n.blocks g.0). inr (g.0, ap (slice_get n.blocks) (sym g.2) ∙ placed same_block block-test n.blocks g.0 l, step_reached f.0 g.0 below f.2 g.1))
        (λ (out : Lists n.blocks g.0 → ⊥). inl (sym g.2 ∙ unplaced same_block block-test n.blocks g.0 out))
        (listed_or_not same_block block-test n.blocks g.0))
        (path_reaches j path)

    pub path_sound : (k : ℕ) (b : Ptr BasicBlock) → slice_get n.blocks k ≡ Some b → Reaches (successors rows) origin k → IsReached t b
    path_sound k b h path = ⊎_elim
        (λ (e : k ≡ origin). let l = slice_get_within n.blocks k b h in absurd (omega (arith, e, l)))
        (λ (f : (a : Ptr BasicBlock) × (slice_get n.blocks k ≡ Some a) × IsReached t a). subst (IsReached t) (same_Some f.0 b (sym f.1 ∙ h)) f.2)
        (path_reaches k path)

    -- they lead to all of these that are under a place where edges are local
    module _ (start : Start) (is_terminator : O → Bool) (edges : HasLocalEdgesFrom is_terminator c start) where
      leads_to : (b s : Ptr BasicBlock) (p : Ptr Operation) → IsUnder c start p → StandsInBlock c p b → Lists (successors_at c p) s → Has s (exits_of c b)
      leads_to b s p under stands l =
          let k = edges.last p s b stands.index under l stands.here in
          let last : stands.index ≡ length (operations_in c b) - 1 = omega (arith, k) in
          subst (λ o. Has s (exits_by c o)) (sym stands.here ∙ ap (slice_get (operations_in c b)) last) (lists_has (successors_at c p) s l.0 l.1)

      reached_path : (b : Ptr BasicBlock) → IsReached t b → IsBlockUnder c start b → (k : ℕ) → slice_get n.blocks k ≡ Some b → Reaches (successors rows) origin k
      reached_path b (entry x has first) under k h =
          let p = occurs.blocks_sound x has in
          Along Here ((graph.entries k).1 (x.label.name, h, (p.spot.region, p.spot.first.0 first)))
      reached_path b (further o _ has reach edge) under k h =
          let is = occurs.sound o has in
          let site = occurs.site o has in
          let below : IsBlockBelow c op o.site.label.name = subst (IsBlockBelow c op) (ap (λ (l : Label by_handle (in_program O B)). l.name) site.label) (occurs.blocks_sound site.block site.found).below in
          let j = (numbered.blocks o.site.label.name).1 below in
          let row : successors_at c o.head.name ≡ o.head.successors = ap (λ v. unwrap_or (option_map (λ (w : OperationView O). w.successors) v) []) is.there ∙ sym (ap (λ (g : Head by_handle (in_program O B)). g.successors) is.head) in
          let named : Lists (successors_at c o.head.name) b = has_lists (successors_at c o.head.name) b (subst (Has b) (sym row) edge) in
          let o_under = edges.entering o.head.name b named under in
          let out = leads_to o.site.label.name b o.head.name o_under is.in_block named in
          let at : number_in n.blocks b ≡ k = own_place same_block block-test n.blocks numbered.blocks_once k b h in
          Along (reached_path o.site.label.name reach (block_under c start lists o.head.name o.site.label.name is.in_block o_under) j.0 j.1)
          (subst (Contains (successors rows j.0)) at (made_in (number_in n.blocks) (exits_of c o.site.label.name) (successors rows j.0) b (graph.blocks j.0 o.site.label.name j.1) out))

      pub reached_exactly : (k : ℕ) (b : Ptr BasicBlock) → slice_get n.blocks k ≡ Some b → IsBlockUnder c start b → Reaches (successors rows) origin k ↔ IsReached t b
      reached_exactly k b h under = (λ path. path_sound k b h path, λ reach. reached_path b reach under k h)
