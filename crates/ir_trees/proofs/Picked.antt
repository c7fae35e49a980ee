-- The operations and the blocks among entities.
use Rattle.std.proofs.Common.{◌≡◌, inl, inr, ⊎_elim, List, [], ◌∷◌, ◌++◌, refl, ap}
use Rattle.ir_program.specs.declared.handles.IRNode.{IRNode}
use Rattle.ir_program.specs.declared.handles.IRNode.TheVariants.{Operation as OperationNode, Region as RegionNode, BasicBlock as BlockNode}
use Rattle.ir_program.specs.declared.handles.Ptr.{Ptr}
use Rattle.ir_program.specs.declared.handles.Operation.{Operation}
use Rattle.ir_program.specs.declared.handles.BasicBlock.{BasicBlock}
use Rattle.ir_trees.proofs.Members.{Has, Once}

abbrev pub operations_among : List IRNode → List (Ptr Operation)
operations_among [] = []
operations_among (OperationNode p ∷ es) = p ∷ operations_among es
operations_among (BlockNode b ∷ es) = operations_among es
operations_among (RegionNode r ∷ es) = operations_among es

abbrev pub blocks_among : List IRNode → List (Ptr BasicBlock)
blocks_among [] = []
blocks_among (BlockNode b ∷ es) = b ∷ blocks_among es
blocks_among (OperationNode p ∷ es) = blocks_among es
blocks_among (RegionNode r ∷ es) = blocks_among es

pub operations_joined : (xs ys : List IRNode) → operations_among (xs ++ ys) ≡ operations_among xs ++ operations_among ys
operations_joined [] ys = refl
operations_joined (OperationNode p ∷ xs) ys = ap (λ l. p ∷ l) (operations_joined xs ys)
operations_joined (BlockNode b ∷ xs) ys = operations_joined xs ys
operations_joined (RegionNode r ∷ xs) ys = operations_joined xs ys

pub blocks_joined : (xs ys : List IRNode) → blocks_among (xs ++ ys) ≡ blocks_among xs ++ blocks_among ys
blocks_joined [] ys = refl
blocks_joined (BlockNode b ∷ xs) ys = ap (λ l. b ∷ l) (blocks_joined xs ys)
blocks_joined (OperationNode p ∷ xs) ys = blocks_joined xs ys
blocks_joined (RegionNode r ∷ xs) ys = blocks_joined xs ys

pub operation_picked : (xs : List IRNode) (p : Ptr Operation) → Has (OperationNode p) xs → Has p (operations_among xs)
operation_picked [] p h = absurd h
operation_picked (OperationNode q ∷ xs) p h = ⊎_elim (λ s. let e : p ≡ q = cc in inl e) (λ r. inr (operation_picked xs p r)) h
operation_picked (BlockNode q ∷ xs) p h = ⊎_elim (λ s. let e : ⊥ = cc in absurd e) (λ r. operation_picked xs p r) h
operation_picked (RegionNode q ∷ xs) p h = ⊎_elim (λ s. let e : ⊥ = cc in absurd e) (λ r. operation_picked xs p r) h

pub operation_from : (xs : List IRNode) (p : Ptr Operation) → Has p (operations_among xs) → Has (OperationNode p) xs
operation_from [] p h = absurd h
operation_from (OperationNode q ∷ xs) p h = ⊎_elim (λ s. inl (ap OperationNode s)) (λ r. inr (operation_from xs p r)) h
operation_from (BlockNode q ∷ xs) p h = inr (operation_from xs p h)
operation_from (RegionNode q ∷ xs) p h = inr (operation_from xs p h)

pub block_picked : (xs : List IRNode) (b : Ptr BasicBlock) → Has (BlockNode b) xs → Has b (blocks_among xs)
block_picked [] b h = absurd h
block_picked (BlockNode q ∷ xs) b h = ⊎_elim (λ s. let e : b ≡ q = cc in inl e) (λ r. inr (block_picked xs b r)) h
block_picked (OperationNode q ∷ xs) b h = ⊎_elim (λ s. let e : ⊥ = cc in absurd e) (λ r. block_picked xs b r) h
block_picked (RegionNode q ∷ xs) b h = ⊎_elim (λ s. let e : ⊥ = cc in absurd e) (λ r. block_picked xs b r) h

pub block_from : (xs : List IRNode) (b : Ptr BasicBlock) → Has b (blocks_among xs) → Has (BlockNode b) xs
block_from [] b h = absurd h
block_from (BlockNode q ∷ xs) b h = ⊎_elim (λ s. inl (ap BlockNode s)) (λ r. inr (block_from xs b r)) h
block_from (OperationNode q ∷ xs) b h = inr (block_from xs b h)
block_from (RegionNode q ∷ xs) b h = inr (block_from xs b h)

pub operations_once : (xs : List IRNode) → Once xs → Once (operations_among xs)
operations_once [] once = tt
operations_once (OperationNode p ∷ xs) once = (λ h. once.0 (operation_from xs p h), operations_once xs once.1)
operations_once (BlockNode b ∷ xs) once = operations_once xs once.1
operations_once (RegionNode r ∷ xs) once = operations_once xs once.1

pub blocks_once : (xs : List IRNode) → Once xs → Once (blocks_among xs)
blocks_once [] once = tt
blocks_once (BlockNode b ∷ xs) once = (λ h. once.0 (block_from xs b h), blocks_once xs once.1)
blocks_once (OperationNode p ∷ xs) once = blocks_once xs once.1
blocks_once (RegionNode r ∷ xs) once = blocks_once xs once.1
