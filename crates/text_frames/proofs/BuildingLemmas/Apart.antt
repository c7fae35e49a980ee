-- What stands in no list has nothing around it.
use Rattle.std.proofs.Common.{◌≡◌, ◌⊎◌, inl, inr, ⊎_elim, ℕ, Some, slice_get, refl, subst}
use Rattle.ir_program.specs.Lists.{regions_in, StandsInBlock, StandsInRegion, StandsInOperation, IsUnlinkedBlock, IsUnlinkedOperation, StandOnce, StandsInside, itself, in_block, in_region, in_operation}
use Rattle.ir_program.specs.Program.{Program}
use Rattle.ir_program.specs.declared.handles.IRNode.{IRNode}
use Rattle.ir_program.specs.declared.handles.IRNode.TheVariants.{Operation as OperationNode, Region as RegionNode, BasicBlock as BlockNode}
use Rattle.ir_program.specs.declared.handles.Ptr.{Ptr}
use Rattle.ir_program.specs.declared.handles.Operation.{Operation}
use Rattle.ir_program.specs.declared.handles.Region.{Region}
use Rattle.ir_program.specs.declared.handles.BasicBlock.{BasicBlock}

-- what is listed as a region of an operation is one, and of no other and at no other place
abbrev pub AreRegionsListed : {O B : Type 0} → Program O B → Type 0
AreRegionsListed c = ((p : Ptr Operation) (k : ℕ) (r : Ptr Region) → slice_get (regions_in c p) k ≡ Some r → StandsInOperation c r p) × StandOnce (regions_in c)

module _ {O B : Type 0} (c : Program O B) (x : IRNode) where
  -- what holds an entity directly is inside x too
  abbrev HolderInside : IRNode → Type 0
  HolderInside (OperationNode p) = (b : Ptr BasicBlock) × StandsInBlock c p b × StandsInside c x (BlockNode b)
  HolderInside (BlockNode b) = (r : Ptr Region) × StandsInRegion c b r × StandsInside c x (RegionNode r)
  HolderInside (RegionNode r) = (p : Ptr Operation) × StandsInOperation c r p × StandsInside c x (OperationNode p)

  itself_or_held : (e : IRNode) → StandsInside c x e → (x ≡ e) ⊎ HolderInside e
  itself_or_held _ itself = inl refl
  itself_or_held _ (in_block p b s i) = inr (b, s, i)
  itself_or_held _ (in_region b r s i) = inr (r, s, i)
  itself_or_held _ (in_operation r p s i) = inr (p, s, i)

  -- nothing else is around a block that is in no region
  pub around_block : (b : Ptr BasicBlock) → IsUnlinkedBlock c b → StandsInside c x (BlockNode b) → x ≡ BlockNode b
  around_block b loose i = ⊎_elim (λ (e : x ≡ BlockNode b). e) (λ (h : HolderInside (BlockNode b)). absurd (loose h.0 h.1)) (itself_or_held (BlockNode b) i)

  -- nothing else is around an operation that is in no block
  pub around_operation : (p : Ptr Operation) → IsUnlinkedOperation c p → StandsInside c x (OperationNode p) → x ≡ OperationNode p
  around_operation p loose i = ⊎_elim (λ (e : x ≡ OperationNode p). e) (λ (h : HolderInside (OperationNode p)). absurd (loose h.0 h.1)) (itself_or_held (OperationNode p) i)

  -- around a region of an operation that is in no block there is the operation
  pub around_region : StandOnce (regions_in c) → (r : Ptr Region) (p : Ptr Operation) → StandsInOperation c r p → IsUnlinkedOperation c p
      → StandsInside c x (RegionNode r) → (x ≡ RegionNode r) ⊎ (x ≡ OperationNode p)
  around_region once r p stands loose i = ⊎_elim
      (λ (e : x ≡ RegionNode r). inl e)
      (λ (h : HolderInside (RegionNode r)).
      let same : h.0 ≡ p = (once r h.0 p h.1.index stands.index h.1.here stands.here).0 in
      inr (around_operation p loose (subst (λ q. StandsInside c x (OperationNode q)) same h.2)))
      (itself_or_held (RegionNode r) i)

module _ {O B : Type 0} (c : Program O B) where
  pub block_apart : (b : Ptr BasicBlock) (r : Ptr Region) (p : Ptr Operation) → StandOnce (regions_in c) → StandsInOperation c r p → IsUnlinkedOperation c p
      → StandsInside c (BlockNode b) (RegionNode r) → ⊥
  block_apart b r p once stands loose i = ⊎_elim (λ (e : BlockNode b ≡ RegionNode r). cc) (λ (e : BlockNode b ≡ OperationNode p). cc) (around_region c (BlockNode b) once r p stands loose i)

  pub operation_apart : (p : Ptr Operation) (b : Ptr BasicBlock) → IsUnlinkedBlock c b → StandsInside c (OperationNode p) (BlockNode b) → ⊥
  operation_apart p b loose i = let e : OperationNode p ≡ BlockNode b = around_block c (OperationNode p) b loose i in cc
