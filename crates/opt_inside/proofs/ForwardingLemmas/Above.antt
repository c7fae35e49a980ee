-- What is inside the place where looking begins is under it, or holds its regions, and never both.
use Rattle.std.proofs.Common.{◌≡◌, ◌⊎◌, inl, inr, ⊎_elim, refl, subst}
use Rattle.ir_program.specs.Program.{Program}
use Rattle.ir_program.specs.Lists.{StandsInBlock, StandsInside, itself, in_block, in_region, in_operation}
use Rattle.ir_program.specs.declared.handles.IRNode.{IRNode}
use Rattle.ir_program.specs.declared.handles.IRNode.TheVariants.{Operation as OperationNode, Region as RegionNode, BasicBlock as BlockNode}
use Rattle.ir_program.specs.declared.handles.Ptr.{Ptr}
use Rattle.ir_program.specs.declared.handles.Operation.{Operation}
use Rattle.ir_program.specs.declared.handles.BasicBlock.{BasicBlock}
use Rattle.opt_inside.proofs.Around.{HasLists, inside_both}
use Rattle.opt_inside.specs.reach.Edges.{IsNodeUnder, IsBlockUnder}
use Rattle.opt_inside.specs.declared.reach.starts.Start.{Start}
use Rattle.opt_inside.specs.declared.reach.starts.Start.TheVariants.{Operation as AtOperation, Block as AtBlock, Region as AtRegion}
use Rattle.opt_inside.proofs.ReachLemmas.FromBelow.{root_or_under, under_inside, under_below}
use Rattle.opt_inside.proofs.ReachLemmas.Under.{under_into, block_under}
use Rattle.opt_inside.specs.forwarding.Tops.{node_of, IsAbove, HasOwner}

module _ {O B : Type 0} (c : Program O B) where
  -- what is inside a block is the block, one of its operations, or under it
  block_or_under : (b : Ptr BasicBlock) (e : IRNode) → StandsInside c (BlockNode b) e → IsAbove c (AtBlock b) e ⊎ IsNodeUnder c (AtBlock b) e
  block_or_under b _ itself = inl (inl refl)
  block_or_under b _ (in_block p a s i) = ⊎_elim
      (λ above. ⊎_elim
      (λ (e : BlockNode a ≡ BlockNode b). let same : a ≡ b = cc in inl (inr (p, refl, subst (StandsInBlock c p) same s)))
      (λ (h : (q : Ptr Operation) × (BlockNode a ≡ OperationNode q) × StandsInBlock c q b). let e = h.1 in cc)
      above)
      (λ u. inr (under_into c (AtBlock b) (BlockNode a) (OperationNode p) u (in_block p a s itself)))
      (block_or_under b (BlockNode a) i)
  block_or_under b _ (in_region a r s i) = ⊎_elim
      (λ above. ⊎_elim
      (λ (e : RegionNode r ≡ BlockNode b). cc)
      (λ (h : (q : Ptr Operation) × (RegionNode r ≡ OperationNode q) × StandsInBlock c q b). let e = h.1 in cc)
      above)
      (λ u. inr (under_into c (AtBlock b) (RegionNode r) (BlockNode a) u (in_region a r s itself)))
      (block_or_under b (RegionNode r) i)
  block_or_under b _ (in_operation r p s i) = ⊎_elim
      (λ above. ⊎_elim
      (λ (e : OperationNode p ≡ BlockNode b). cc)
      (λ (h : (q : Ptr Operation) × (OperationNode p ≡ OperationNode q) × StandsInBlock c q b).
      let e = h.1 in
      let same : h.0 ≡ p = cc in
      inr (record { operation = p; region = r; begins = subst (λ z. StandsInBlock c z b) same h.2; of_operation = s; inside = itself }))
      above)
      (λ u. inr (under_into c (AtBlock b) (OperationNode p) (RegionNode r) u (in_operation r p s itself)))
      (block_or_under b (OperationNode p) i)

  pub above_or_under : (start : Start) → HasOwner c start → (e : IRNode) → StandsInside c (node_of start) e → IsAbove c start e ⊎ IsNodeUnder c start e
  above_or_under (AtOperation op) owner e i = root_or_under c op e i
  above_or_under (AtBlock b) owner e i = block_or_under b e i
  above_or_under (AtRegion r) owner e i = inr (record { operation = owner.0; region = r; begins = refl; of_operation = owner.1; inside = i })

  -- what is under the place is inside it
  pub inside_start : (start : Start) (e : IRNode) → IsNodeUnder c start e → StandsInside c (node_of start) e
  inside_start (AtOperation op) e u = under_inside c op e u
  inside_start (AtBlock b) e u = inside_both c (BlockNode b) (RegionNode u.region) e (in_operation u.region u.operation u.of_operation (in_block u.operation b u.begins itself)) u.inside
  inside_start (AtRegion r) e u = subst (λ z. StandsInside c (RegionNode z) e) u.begins u.inside

  module _ (lists : HasLists c) where
    not_under_itself : (b : Ptr BasicBlock) → IsBlockUnder c (AtBlock b) b → ⊥
    not_under_itself b u = lists.operation_apart u.operation b u.begins
        (inside_both c (OperationNode u.operation) (RegionNode u.region) (BlockNode b) (in_operation u.region u.operation u.of_operation itself) u.inside)

    pub not_above : (start : Start) (e : IRNode) → IsNodeUnder c start e → IsAbove c start e → ⊥
    not_above (AtOperation op) e u above = (under_below c op lists op (subst (IsNodeUnder c (AtOperation op)) above u)).other refl
    not_above (AtBlock b) e u above = ⊎_elim
        (λ (same : e ≡ BlockNode b). not_under_itself b (subst (IsNodeUnder c (AtBlock b)) same u))
        (λ (h : (p : Ptr Operation) × (e ≡ OperationNode p) × StandsInBlock c p b).
        not_under_itself b (block_under c (AtBlock b) lists h.0 b h.2 (subst (IsNodeUnder c (AtBlock b)) h.1 u)))
        above
    not_above (AtRegion r) e u above = above
