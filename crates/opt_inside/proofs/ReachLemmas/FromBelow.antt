-- Edges are local, or fit, below an operation exactly where they are so under a place of this operation.
use Rattle.std.proofs.Common.{◌≡◌, ◌⊎◌, ◌↔◌, inl, inr, ⊎_elim, Bool, refl, subst}
use Rattle.ir_program.specs.Program.{Program}
use Rattle.ir_program.specs.Lists.{StandsInOperation, StandsInside, itself, in_block, in_region, in_operation}
use Rattle.ir_program.specs.declared.handles.IRNode.{IRNode}
use Rattle.ir_program.specs.declared.handles.IRNode.TheVariants.{Operation as OperationNode, Region as RegionNode, BasicBlock as BlockNode}
use Rattle.ir_program.specs.declared.handles.Ptr.{Ptr}
use Rattle.ir_program.specs.declared.handles.Operation.{Operation}
use Rattle.ir_program.specs.declared.handles.BasicBlock.{BasicBlock}
use Rattle.ir_trees.specs.Stands.{in_program}
use Rattle.opt_trees.specs.Dialect.{Dialect}
use Rattle.opt_inside.specs.Edges.{HasLocalEdgesBelow, FitsEdgesBelow}
use Rattle.opt_inside.specs.Occurring.{IsBelowRoot, IsBlockBelow}
use Rattle.opt_inside.proofs.Around.{HasLists, inside_both}
use Rattle.opt_inside.specs.reach.Edges.{IsNodeUnder, IsUnder, IsBlockUnder, HasLocalEdgesFrom, FitsEdgesFrom}
use Rattle.opt_inside.specs.declared.reach.starts.Start.TheVariants.{Operation as AtOperation}
use Rattle.opt_inside.proofs.ReachLemmas.Occurs.{below_block}
use Rattle.opt_inside.proofs.ReachLemmas.Under.{under_home, block_under}

module _ {O B : Type 0} (c : Program O B) (op : Ptr Operation) where
  -- what is inside an operation is the operation, or under it
  pub root_or_under : (e : IRNode) → StandsInside c (OperationNode op) e → (e ≡ OperationNode op) ⊎ IsNodeUnder c (AtOperation op) e
  root_or_under _ itself = inl refl
  root_or_under _ (in_block p b s i) = ⊎_elim
      (λ (e : BlockNode b ≡ OperationNode op). cc)
      (λ u. inr (record { operation = u.operation; region = u.region; begins = u.begins; of_operation = u.of_operation; inside = in_block p b s u.inside }))
      (root_or_under (BlockNode b) i)
  root_or_under _ (in_region b r s i) = ⊎_elim
      (λ (e : RegionNode r ≡ OperationNode op). cc)
      (λ u. inr (record { operation = u.operation; region = u.region; begins = u.begins; of_operation = u.of_operation; inside = in_region b r s u.inside }))
      (root_or_under (RegionNode r) i)
  root_or_under _ (in_operation r p s i) = ⊎_elim
      (λ (e : OperationNode p ≡ OperationNode op). let same : p ≡ op = cc in inr (record { operation = p; region = r; begins = same; of_operation = s; inside = itself }))
      (λ u. inr (record { operation = u.operation; region = u.region; begins = u.begins; of_operation = u.of_operation; inside = in_operation r p s u.inside }))
      (root_or_under (OperationNode p) i)

  -- what is under an operation is inside it
  pub under_inside : (e : IRNode) → IsNodeUnder c (AtOperation op) e → StandsInside c (OperationNode op) e
  under_inside e u =
      let of_op : StandsInOperation c u.region op = subst (StandsInOperation c u.region) u.begins u.of_operation in
      inside_both c (OperationNode op) (RegionNode u.region) e (in_operation u.region op of_op itself) u.inside

  module _ (lists : HasLists c) where
    pub under_below : (p : Ptr Operation) → IsUnder c (AtOperation op) p → IsBelowRoot c op p
    under_below p u =
        let h = under_home c (AtOperation op) p u in
        below_block c lists op p h.0 h.2 (under_inside (BlockNode h.0) (block_under c (AtOperation op) lists p h.0 h.2 u))

    pub below_under : (p : Ptr Operation) → IsBelowRoot c op p → IsUnder c (AtOperation op) p
    below_under p b = ⊎_elim
        (λ (e : OperationNode p ≡ OperationNode op). let same : p ≡ op = cc in absurd (b.other same))
        (λ u. u)
        (root_or_under (OperationNode p) b.inside)

    block_below_under : (s : Ptr BasicBlock) → IsBlockBelow c op s → IsBlockUnder c (AtOperation op) s
    block_below_under s i = ⊎_elim (λ (e : BlockNode s ≡ OperationNode op). cc) (λ u. u) (root_or_under (BlockNode s) i)

    pub local_from_below : (is_terminator : O → Bool) → HasLocalEdgesBelow is_terminator c op ↔ HasLocalEdgesFrom is_terminator c (AtOperation op)
    local_from_below is_terminator = (
      λ edges. record {
        leaving = λ p s b r u. edges.leaving p s b r (under_below p u);
        entering = λ p s l u. below_under p (edges.entering p s l (under_inside (BlockNode s) u));
        last = λ p s b k u edge. edges.last p s b k (under_below p u) edge;
        terminators = λ p s v u. edges.terminators p s v (under_below p u);
      },
      λ edges. record {
        leaving = λ p s b r u. edges.leaving p s b r (below_under p u);
        entering = λ p s l u. under_below p (edges.entering p s l (block_below_under s u));
        last = λ p s b k u edge. edges.last p s b k (below_under p u) edge;
        terminators = λ p s v u. edges.terminators p s v (below_under p u);
      },
    )

    pub fits_from_below : {A : Type 0} (d : Dialect (in_program O B) A) → FitsEdgesBelow d c op ↔ FitsEdgesFrom d c (AtOperation op)
    fits_from_below d = (λ fits p v i b u. fits p v i b (under_below p u), λ fits p v i b u. fits p v i b (below_under p u))
