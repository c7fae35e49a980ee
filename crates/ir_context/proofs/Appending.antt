-- When the members of one list can be moved behind those of another.
use Rattle.std.proofs.Common.{◌≡◌, ◌↔◌, ◌⊎◌, inl, inr, ⊎_elim, Bool, true, false, true≢false, not, IsTrue, refl, sym, subst}
use Rattle.ir_program.specs.Program.{Program}
use Rattle.ir_program.specs.Lists.{StandsInBlock, StandsInRegion, StandsInside, itself, in_block, in_region, in_operation, CanAppendOperations, CanAppendBlocks}
use Rattle.ir_program.specs.declared.handles.Ptr.{Ptr}
use Rattle.ir_program.specs.declared.handles.Operation.{Operation}
use Rattle.ir_program.specs.declared.handles.BasicBlock.{BasicBlock}
use Rattle.ir_program.specs.declared.handles.Region.{Region}
use Rattle.ir_program.specs.declared.handles.IRNode.{IRNode}
use Rattle.ir_program.specs.declared.handles.IRNode.TheVariants.{Operation as OperationNode, BasicBlock as BlockNode, Region as RegionNode}

module _ {O B : Type 0} (c : Program O B) where
  -- what is inside something inside x is inside x
  inside_both : (x y z : IRNode) → StandsInside c x y → StandsInside c y z → StandsInside c x z
  inside_both x y z h itself = h
  inside_both x y z h (in_block p b s i) = in_block p b s (inside_both x y (BlockNode b) h i)
  inside_both x y z h (in_region b r s i) = in_region b r s (inside_both x y (RegionNode r) h i)
  inside_both x y z h (in_operation r p s i) = in_operation r p s (inside_both x y (OperationNode p) h i)

  -- what is inside a block is the block, or inside one of its operations
  inside_block : (b : Ptr BasicBlock) (x : IRNode) → StandsInside c (BlockNode b) x → (x ≡ BlockNode b) ⊎ ((p : Ptr Operation) × StandsInBlock c p b × StandsInside c (OperationNode p) x)
  inside_block b x itself = inl refl
  inside_block b x (in_block p a s i) = ⊎_elim
      (λ (e : BlockNode a ≡ BlockNode b). let same : a ≡ b = cc in inr (p, subst (StandsInBlock c p) same s, itself))
      (λ h. inr (h.0, h.1, in_block p a s h.2))
      (inside_block b (BlockNode a) i)
  inside_block b x (in_region a r s i) = ⊎_elim
      (λ (e : RegionNode r ≡ BlockNode b). cc)
      (λ h. inr (h.0, h.1, in_region a r s h.2))
      (inside_block b (RegionNode r) i)
  inside_block b x (in_operation r p s i) = ⊎_elim
      (λ (e : OperationNode p ≡ BlockNode b). cc)
      (λ h. inr (h.0, h.1, in_operation r p s h.2))
      (inside_block b (OperationNode p) i)

  -- what is inside a region is the region, or inside one of its blocks
  inside_region : (r : Ptr Region) (x : IRNode) → StandsInside c (RegionNode r) x → (x ≡ RegionNode r) ⊎ ((b : Ptr BasicBlock) × StandsInRegion c b r × StandsInside c (BlockNode b) x)
  inside_region r x itself = inl refl
  inside_region r x (in_region b q s i) = ⊎_elim
      (λ (e : RegionNode q ≡ RegionNode r). let same : q ≡ r = cc in inr (b, subst (StandsInRegion c b) same s, itself))
      (λ h. inr (h.0, h.1, in_region b q s h.2))
      (inside_region r (RegionNode q) i)
  inside_region r x (in_block p a s i) = ⊎_elim
      (λ (e : BlockNode a ≡ RegionNode r). cc)
      (λ h. inr (h.0, h.1, in_block p a s h.2))
      (inside_region r (BlockNode a) i)
  inside_region r x (in_operation q p s i) = ⊎_elim
      (λ (e : OperationNode p ≡ RegionNode r). cc)
      (λ h. inr (h.0, h.1, in_operation q p s h.2))
      (inside_region r (OperationNode p) i)

  pub can_append_operations : (donee donor : Ptr BasicBlock) (r : Bool) → (IsTrue r ↔ StandsInside c (BlockNode donor) (BlockNode donee)) → (IsTrue (not r) ↔ CanAppendOperations c donee donor)
  can_append_operations donee donor true l = (
    λ t. absurd (true≢false (sym t)),
    λ can. absurd (⊎_elim (λ (e : BlockNode donee ≡ BlockNode donor). let same : donee ≡ donor = cc in can.0 same) (λ h. can.1 h.0 h.1 h.2) (inside_block donor (BlockNode donee) (l.0 refl))),
  )
  can_append_operations donee donor false l = (
    λ t. (
      λ e. true≢false (sym (l.1 (subst (λ b. StandsInside c (BlockNode donor) (BlockNode b)) (sym e) itself))),
      λ p s i. true≢false (sym (l.1 (inside_both (BlockNode donor) (OperationNode p) (BlockNode donee) (in_block p donor s itself) i))),
    ),
    λ can. refl,
  )

  pub can_append_blocks : (donee donor : Ptr Region) (r : Bool) → (IsTrue r ↔ StandsInside c (RegionNode donor) (RegionNode donee)) → (IsTrue (not r) ↔ CanAppendBlocks c donee donor)
  can_append_blocks donee donor true l = (
    λ t. absurd (true≢false (sym t)),
    λ can. absurd (⊎_elim (λ (e : RegionNode donee ≡ RegionNode donor). let same : donee ≡ donor = cc in can.0 same) (λ h. can.1 h.0 h.1 h.2) (inside_region donor (RegionNode donee) (l.0 refl))),
  )
  can_append_blocks donee donor false l = (
    λ t. (
      λ e. true≢false (sym (l.1 (subst (λ b. StandsInside c (RegionNode donor) (RegionNode b)) (sym e) itself))),
      λ b s i. true≢false (sym (l.1 (inside_both (RegionNode donor) (BlockNode b) (RegionNode donee) (in_region b donor s itself) i))),
    ),
    λ can. refl,
  )
