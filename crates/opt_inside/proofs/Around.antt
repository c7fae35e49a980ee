-- What stands inside what, where each thing stands in one place and nothing stands inside what it holds.
use Rattle.std.proofs.Common.{◌≡◌, ◌≢◌, ◌⊎◌, inl, inr, ⊎_elim, ℕ, Some, slice_get, refl, sym, subst}
use Rattle.ir_program.specs.Program.{Program}
use Rattle.ir_program.specs.Lists.{operations_in, blocks_in, regions_in, StandsInBlock, StandsInRegion, StandsInOperation, StandsInside, itself, in_block, in_region, in_operation, StandOnce}
use Rattle.ir_program.specs.declared.handles.IRNode.{IRNode}
use Rattle.ir_program.specs.declared.handles.IRNode.TheVariants.{Operation as OperationNode, Region as RegionNode, BasicBlock as BlockNode}
use Rattle.ir_program.specs.declared.handles.Ptr.{Ptr}
use Rattle.ir_program.specs.declared.handles.Operation.{Operation}
use Rattle.ir_program.specs.declared.handles.Region.{Region}
use Rattle.ir_program.specs.declared.handles.BasicBlock.{BasicBlock}

-- what holds of the lists of every program
pub record HasLists {O B : Type 0} (c : Program O B) : Type 0 where
  pub operations_once : StandOnce (operations_in c)
  pub blocks_once : StandOnce (blocks_in c)
  pub regions_once : StandOnce (regions_in c)
  pub operations : (b : Ptr BasicBlock) (k : ℕ) (p : Ptr Operation) → slice_get (operations_in c b) k ≡ Some p → StandsInBlock c p b
  pub blocks : (r : Ptr Region) (k : ℕ) (b : Ptr BasicBlock) → slice_get (blocks_in c r) k ≡ Some b → StandsInRegion c b r
  pub regions : (p : Ptr Operation) (k : ℕ) (r : Ptr Region) → slice_get (regions_in c p) k ≡ Some r → StandsInOperation c r p
  pub operation_apart : (p : Ptr Operation) (b : Ptr BasicBlock) → StandsInBlock c p b → StandsInside c (OperationNode p) (BlockNode b) → ⊥
  pub block_apart : (b : Ptr BasicBlock) (r : Ptr Region) → StandsInRegion c b r → StandsInside c (BlockNode b) (RegionNode r) → ⊥

module _ {O B : Type 0} (c : Program O B) where
  -- what is inside something inside x is inside x
  pub inside_both : (x y z : IRNode) → StandsInside c x y → StandsInside c y z → StandsInside c x z
  inside_both x y z h itself = h
  inside_both x y z h (in_block p b s i) = in_block p b s (inside_both x y (BlockNode b) h i)
  inside_both x y z h (in_region b r s i) = in_region b r s (inside_both x y (RegionNode r) h i)
  inside_both x y z h (in_operation r p s i) = in_operation r p s (inside_both x y (OperationNode p) h i)

  -- what has an operation inside it is the operation, or has the block of the operation inside it
  over_operation : (x e : IRNode) (p : Ptr Operation) → StandsInside c x e → e ≡ OperationNode p → (x ≡ OperationNode p) ⊎ ((b : Ptr BasicBlock) × StandsInBlock c p b × StandsInside c x (BlockNode b))
  over_operation x _ p itself same = inl same
  over_operation x _ p (in_block q b s i) same = let e : q ≡ p = cc in inr (b, subst (λ z. StandsInBlock c z b) e s, i)
  over_operation x _ p (in_region b r s i) same = cc
  over_operation x _ p (in_operation r q s i) same = cc

  over_block : (x e : IRNode) (b : Ptr BasicBlock) → StandsInside c x e → e ≡ BlockNode b → (x ≡ BlockNode b) ⊎ ((r : Ptr Region) × StandsInRegion c b r × StandsInside c x (RegionNode r))
  over_block x _ b itself same = inl same
  over_block x _ b (in_region a r s i) same = let e : a ≡ b = cc in inr (r, subst (λ z. StandsInRegion c z r) e s, i)
  over_block x _ b (in_block q a s i) same = cc
  over_block x _ b (in_operation r q s i) same = cc

  over_region : (x e : IRNode) (r : Ptr Region) → StandsInside c x e → e ≡ RegionNode r → (x ≡ RegionNode r) ⊎ ((p : Ptr Operation) × StandsInOperation c r p × StandsInside c x (OperationNode p))
  over_region x _ r itself same = inl same
  over_region x _ r (in_operation q p s i) same = let e : q ≡ r = cc in inr (p, subst (λ z. StandsInOperation c z p) e s, i)
  over_region x _ r (in_block q a s i) same = cc
  over_region x _ r (in_region a q s i) same = cc

  module _ (lists : HasLists c) where
    -- so, with the block, the region or the operation that it stands in
    pub around_operation : (x : IRNode) (p : Ptr Operation) (b : Ptr BasicBlock) → StandsInBlock c p b → StandsInside c x (OperationNode p) → (x ≡ OperationNode p) ⊎ StandsInside c x (BlockNode b)
    around_operation x p b s i = ⊎_elim
        (λ e. inl e)
        (λ h. inr (subst (λ z. StandsInside c x (BlockNode z)) (lists.operations_once p h.0 b h.1.index s.index h.1.here s.here).0 h.2))
        (over_operation x (OperationNode p) p i refl)

    pub around_block : (x : IRNode) (b : Ptr BasicBlock) (r : Ptr Region) → StandsInRegion c b r → StandsInside c x (BlockNode b) → (x ≡ BlockNode b) ⊎ StandsInside c x (RegionNode r)
    around_block x b r s i = ⊎_elim
        (λ e. inl e)
        (λ h. inr (subst (λ z. StandsInside c x (RegionNode z)) (lists.blocks_once b h.0 r h.1.index s.index h.1.here s.here).0 h.2))
        (over_block x (BlockNode b) b i refl)

    pub around_region : (x : IRNode) (r : Ptr Region) (p : Ptr Operation) → StandsInOperation c r p → StandsInside c x (RegionNode r) → (x ≡ RegionNode r) ⊎ StandsInside c x (OperationNode p)
    around_region x r p s i = ⊎_elim
        (λ e. inl e)
        (λ h. inr (subst (λ z. StandsInside c x (OperationNode z)) (lists.regions_once r h.0 p h.1.index s.index h.1.here s.here).0 h.2))
        (over_region x (RegionNode r) r i refl)

    -- an operation in a block inside the root isn't the root
    pub not_root : (op p : Ptr Operation) (b : Ptr BasicBlock) → StandsInBlock c p b → StandsInside c (OperationNode op) (BlockNode b) → p ≢ op
    not_root op p b s i e = lists.operation_apart p b s (subst (λ z. StandsInside c (OperationNode z) (BlockNode b)) (sym e) i)

    -- what is inside the root and has the root inside it is the root
    pub is_root : (op : Ptr Operation) (x : IRNode) → StandsInside c (OperationNode op) x → StandsInside c x (OperationNode op) → x ≡ OperationNode op
    is_root op x down up = ⊎_elim
        (λ e. e)
        (λ h. absurd (lists.operation_apart op h.0 h.1 (inside_both (OperationNode op) x (BlockNode h.0) down h.2)))
        (over_operation x (OperationNode op) op up refl)

    -- a block of a region of an operation, and what it is inside of
    module _ (b : Ptr BasicBlock) (r : Ptr Region) (p : Ptr Operation) (in_r : StandsInRegion c b r) (of_p : StandsInOperation c r p) where
      pub down_to : (x : IRNode) → StandsInside c x (OperationNode p) → StandsInside c x (BlockNode b)
      down_to x i = in_region b r in_r (in_operation r p of_p i)

      pub up_from : (x : IRNode) → StandsInside c x (BlockNode b) → (x ≡ BlockNode b) ⊎ ((x ≡ RegionNode r) ⊎ StandsInside c x (OperationNode p))
      up_from x i = ⊎_elim (λ e. inl e) (λ h. inr (around_region x r p of_p h)) (around_block x b r in_r i)

      pub operation_up : (a : Ptr Operation) → StandsInside c (OperationNode a) (BlockNode b) → StandsInside c (OperationNode a) (OperationNode p)
      operation_up a i = ⊎_elim
          (λ (e : OperationNode a ≡ BlockNode b). cc)
          (λ h. ⊎_elim (λ (e : OperationNode a ≡ RegionNode r). cc) (λ w. w) h)
          (up_from (OperationNode a) i)

      pub block_up : (x : Ptr BasicBlock) → x ≢ b → StandsInside c (BlockNode x) (BlockNode b) → StandsInside c (BlockNode x) (OperationNode p)
      block_up x ne i = ⊎_elim
          (λ (e : BlockNode x ≡ BlockNode b). let same : x ≡ b = cc in absurd (ne same))
          (λ h. ⊎_elim (λ (e : BlockNode x ≡ RegionNode r). cc) (λ w. w) h)
          (up_from (BlockNode x) i)

      pub not_within : (x : Ptr BasicBlock) → StandsInside c (BlockNode x) (OperationNode p) → x ≢ b
      not_within x i e = lists.block_apart b r in_r (in_operation r p of_p (subst (λ z. StandsInside c (BlockNode z) (OperationNode p)) e i))
