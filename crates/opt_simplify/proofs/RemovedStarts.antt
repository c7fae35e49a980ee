-- What is visited is at what looking begins at, or in it; and that stands in nothing that is there.
use Rattle.std.proofs.Common.{◌≡◌, ◌⊎◌, inl, inr, ⊎_elim, ℕ, [], slice_get, option_map, unwrap_or, refl, sym, ap, ◌∙◌, subst}
use Rattle.ir_program.specs.Lists.{StandsInBlock, StandsInOperation, StandsInside, itself, in_block, in_region, in_operation, operations_in}
use Rattle.ir_program.specs.Program.{Program, OperationView}
use Rattle.ir_program.specs.declared.handles.IRNode.{IRNode}
use Rattle.ir_program.specs.declared.handles.IRNode.TheVariants.{Operation as OperationNode, Region as RegionNode, BasicBlock as BlockNode}
use Rattle.ir_program.specs.declared.handles.Ptr.{Ptr}
use Rattle.ir_program.specs.declared.handles.Operation.{Operation as AnOperation}
use Rattle.ir_program.specs.declared.handles.BasicBlock.{BasicBlock}
use Rattle.ir_trees.specs.Trees.{Label}
use Rattle.ir_trees.specs.Stands.{by_handle, in_program, ProgramTree}
use Rattle.opt_trees.specs.Dialect.{Dialect}
use Rattle.opt_trees.specs.Occurrences.{Has, Spot, block_occurrences_of}
use Rattle.opt_trees.specs.Simplify.{StartingRegions, BeginsAt, IsVisited, of_place, of_inner}
use Rattle.opt_inside.specs.Occurring.{FoundBlock}
use Rattle.opt_inside.proofs.Around.{HasLists, inside_both, around_operation, around_block, around_region}
use Rattle.opt_inside.specs.reach.Starts.{IsStartIn}
use Rattle.opt_inside.specs.declared.reach.starts.Start.{Start}
use Rattle.opt_inside.specs.declared.reach.starts.Start.TheVariants.{Operation, Block, Region}
use Rattle.opt_inside.proofs.ReachLemmas.Members.{has_lists}
use Rattle.opt_inside.proofs.ReachLemmas.Occurs.{Occurs}

module _ {O B : Type 0} (c : Program O B) (lists : HasLists c) where
  -- what has an operation inside it is the operation, or has the block of the operation inside it
  over_operation : (x e : IRNode) (p : Ptr AnOperation) → StandsInside c x e → e ≡ OperationNode p → (x ≡ OperationNode p) ⊎ ((b : Ptr BasicBlock) × StandsInBlock c p b × StandsInside c x (BlockNode b))
  over_operation x _ p itself same = inl same
  over_operation x _ p (in_block q b s i) same = let e : q ≡ p = cc in inr (b, subst (λ z. StandsInBlock c z b) e s, i)
  over_operation x _ p (in_region b r s i) same = cc
  over_operation x _ p (in_operation r q s i) same = cc

  -- no operation is in a block that is in the operation
  not_in_itself : (q : Ptr AnOperation) (a : Ptr BasicBlock) → StandsInside c (OperationNode q) (BlockNode a) → StandsInside c (BlockNode a) (OperationNode q) → ⊥
  not_in_itself q a below above = ⊎_elim
      (λ (e : BlockNode a ≡ OperationNode q). cc)
      (λ (h : (b : Ptr BasicBlock) × StandsInBlock c q b × StandsInside c (BlockNode a) (BlockNode b)).
      lists.operation_apart q h.0 h.1 (inside_both c (OperationNode q) (BlockNode a) (BlockNode h.0) below h.2))
      (over_operation (BlockNode a) (OperationNode q) q above refl)

  -- nor in a block that is in another operation of the operation's block
  not_in_sibling : (b : Ptr BasicBlock) (q s : Ptr AnOperation) (a : Ptr BasicBlock) → StandsInBlock c q b → StandsInBlock c s b → StandsInside c (OperationNode s) (BlockNode a) → StandsInside c (BlockNode a) (OperationNode q) → ⊥
  not_in_sibling b q s a q_in s_in below above = ⊎_elim
      (λ (e : BlockNode a ≡ OperationNode q). cc)
      (λ h. lists.operation_apart s b s_in (inside_both c (OperationNode s) (BlockNode a) (BlockNode b) below h))
      (around_operation c lists (BlockNode a) q b q_in above)

  -- no operation where looking begins is in a block that is in one
  pub starts_apart : (p : StartingRegions by_handle) (start : Start) → IsStartIn c start p → (q s : Ptr AnOperation) (i k : ℕ) → BeginsAt p q i → BeginsAt p s k
      → (a : Ptr BasicBlock) → StandsInside c (OperationNode s) (BlockNode a) → StandsInside c (BlockNode a) (OperationNode q) → ⊥
  starts_apart p (Operation op) is q s i k begins ends a below above =
      let only = λ (r : Ptr AnOperation) (j : ℕ) (h : BeginsAt p r j). ⊎_elim (λ (e : r ≡ op). e) (λ none. absurd none) (subst (λ z. BeginsAt z r j) is h) in
      not_in_itself q a (subst (λ z. StandsInside c (OperationNode z) (BlockNode a)) (only s k ends ∙ sym (only q i begins)) below) above
  starts_apart p (Block b) is q s i k begins ends a below above =
      let stands = λ (r : Ptr AnOperation) (j : ℕ) (h : BeginsAt p r j). (let l = has_lists (operations_in c b) r (subst (λ z. BeginsAt z r j) is h) in lists.operations b l.0 r l.1) in
      not_in_sibling b q s a (stands q i begins) (stands s k ends) below above
  starts_apart p (Region r) is q s i k begins ends a below above =
      let only = λ (z : Ptr AnOperation) (j : ℕ) (h : BeginsAt p z j). (subst (λ y. BeginsAt y z j) is.5 h).0 in
      not_in_itself q a (subst (λ z. StandsInside c (OperationNode z) (BlockNode a)) (only s k ends ∙ sym (only q i begins)) below) above

  module _ (op : Ptr AnOperation) (t : ProgramTree O B) (occurs : Occurs c op t) where
    -- the operation whose region has a block that is found
    owner_stands : (x : FoundBlock O B) (has : Has x (block_occurrences_of t)) → StandsInOperation c (occurs.blocks_sound x has).spot.region x.spot.owner.name
    owner_stands x has =
        let s = (occurs.blocks_sound x has).spot in
        lists.regions x.spot.owner.name x.spot.region s.region (ap (λ o. slice_get (unwrap_or (option_map (λ (v : OperationView O). v.regions) o) []) x.spot.region) s.owner_there ∙ s.index)

    -- what is in the operation that has a block's region has the block in it
    in_owner : (q : Ptr AnOperation) (x : FoundBlock O B) → Has x (block_occurrences_of t) → StandsInside c (OperationNode q) (OperationNode x.spot.owner.name) → StandsInside c (OperationNode q) (BlockNode x.label.name)
    in_owner q x has h =
        let s = (occurs.blocks_sound x has).spot in
        in_region x.label.name s.region s.in_region (in_operation s.region x.spot.owner.name (owner_stands x has) h)

    -- the blocks that a block is in are around the operation whose region it stands in
    pub around_owner : (x : FoundBlock O B) → Has x (block_occurrences_of t) → (a : Ptr BasicBlock) → Has a x.spot.within → StandsInside c (BlockNode a) (OperationNode x.spot.owner.name)
    around_owner x has a m =
        let s = (occurs.blocks_sound x has).spot in
        let w = (s.within a).0 m in
        ⊎_elim
        (λ (e : BlockNode a ≡ BlockNode x.label.name). absurd (w.1 (cc)))
        (λ h. ⊎_elim (λ (e : BlockNode a ≡ RegionNode s.region). cc) (λ i. i) (around_region c lists (BlockNode a) s.region x.spot.owner.name (owner_stands x has) h))
        (around_block c lists (BlockNode a) x.label.name s.region s.in_region w.2)

    module _ {A : Type 0} (d : Dialect (in_program O B) A) (p : StartingRegions by_handle) where
      -- a visited region is one of an operation that is inside one where looking begins
      below_start : (q : Ptr AnOperation) (i : ℕ) → IsVisited d p t q i → (s : Ptr AnOperation) × (k : ℕ) × BeginsAt p s k × StandsInside c (OperationNode s) (OperationNode q)
      below_start _ _ (of_place q i begins) = (q, i, begins, itself)
      below_start _ _ (of_inner o i has visited entered) =
          let r = below_start o.site.spot.owner.name o.site.spot.region visited in
          let site = occurs.site o has in
          let owner : StandsInside c (OperationNode r.0) (OperationNode site.block.spot.owner.name) = subst (λ (z : Spot by_handle (in_program O B)). StandsInside c (OperationNode r.0) (OperationNode z.owner.name)) (sym site.spot) r.3 in
          let block : StandsInside c (OperationNode r.0) (BlockNode o.site.label.name) = subst (λ (l : Label by_handle (in_program O B)). StandsInside c (OperationNode r.0) (BlockNode l.name)) site.label (in_owner r.0 site.block site.found owner) in
          (r.0, r.1, r.2, in_block o.head.name o.site.label.name (occurs.sound o has).in_block block)

      pub block_below_start : (x : FoundBlock O B) → Has x (block_occurrences_of t) → IsVisited d p t x.spot.owner.name x.spot.region → (s : Ptr AnOperation) × (k : ℕ) × BeginsAt p s k × StandsInside c (OperationNode s) (BlockNode x.label.name)
      block_below_start x has visited =
          let r = below_start x.spot.owner.name x.spot.region visited in
          (r.0, r.1, r.2, in_owner r.0 x has r.3)
