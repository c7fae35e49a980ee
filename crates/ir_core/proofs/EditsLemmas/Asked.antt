-- What tests say of values, places and lists.
use Rattle.std.proofs.Common.{◌≡◌, ◌≢◌, ◌↔◌, inl, inr, Bool, true, false, true≢false, List, [], ◌∷◌, ◌++◌, Option, Some, None, IsSome, IsNone, IfSome, MatchOption, IsTrue, not, unwrap_or, option_map, refl, sym, ap, ◌∙◌, subst}
use Rattle.ir_program.specs.Program.{Program, OperationView, operation_at, block_at}
use Rattle.ir_program.specs.Rows.{operands_at, successors_at}
use Rattle.ir_program.specs.Edits.{IsUnchanged}
use Rattle.ir_program.specs.Lists.{StandsInside, StandsInBlock, StandsInRegion, IsUnlinkedOperation, IsUnlinkedBlock, itself, in_block, in_region, in_operation}
use Rattle.ir_program.specs.Uses.{IsUsed}
use Rattle.ir_program.specs.Definers.{ForgetsValue}
use Rattle.ir_program.specs.declared.handles.Ptr.{Ptr}
use Rattle.ir_program.specs.declared.handles.Operation.{Operation}
use Rattle.ir_program.specs.declared.handles.Region.{Region}
use Rattle.ir_program.specs.declared.handles.BasicBlock.{BasicBlock}
use Rattle.ir_program.specs.declared.handles.Value.{Value}
use Rattle.ir_program.specs.declared.handles.IRNode.{IRNode}
use Rattle.ir_core.specs.edits.Same.{IsPopped}
use Rattle.ir_program.specs.declared.handles.IRNode.TheVariants.{Operation as OperationNode, BasicBlock as BlockNode, Region as RegionNode}

-- what was popped is the last, where there was one
pub popped_where : {X : Type 0} (r : Option X) (xs ys : List X) → MatchOption r (xs ≡ []) (λ x. xs ≡ ys ++ x ∷ []) → (IsNone r → ys ≡ xs) → IsPopped xs ys
popped_where None xs ys e same = inl (e, same refl ∙ e)
popped_where (Some x) xs ys e same = inr (x, e)

-- operations that nothing has changed have the same rows
pub operands_same : {O B : Type 0} (c n : Program O B) → IsUnchanged c n → (p : Ptr Operation) → operands_at n p ≡ operands_at c p
operands_same c n h p = ap (λ o. unwrap_or (option_map (λ (v : OperationView _). v.operands) o) []) (h.operations p)

pub successors_same : {O B : Type 0} (c n : Program O B) → IsUnchanged c n → (p : Ptr Operation) → successors_at n p ≡ successors_at c p
successors_same c n h p = ap (λ o. unwrap_or (option_map (λ (v : OperationView _). v.successors) o) []) (h.operations p)

pub operand_popped : {O B : Type 0} (c n : Program O B) (p : Ptr Operation) (r : Option Value) → MatchOption r (operands_at c p ≡ []) (λ v. operands_at c p ≡ operands_at n p ++ v ∷ []) → (IsNone r → IsUnchanged c n) → IsPopped (operands_at c p) (operands_at n p)
operand_popped c n p r e same = popped_where r (operands_at c p) (operands_at n p) e (λ none. operands_same c n (same none) p)

pub successor_popped : {O B : Type 0} (c n : Program O B) (p : Ptr Operation) (r : Option (Ptr BasicBlock)) → MatchOption r (successors_at c p ≡ []) (λ b. successors_at c p ≡ successors_at n p ++ b ∷ []) → (IsNone r → IsUnchanged c n) → IsPopped (successors_at c p) (successors_at n p)
successor_popped c n p r e same = popped_where r (successors_at c p) (successors_at n p) e (λ none. successors_same c n (same none) p)

-- what is there and stands in nothing can be put somewhere
pub can_stand_where : {A X : Type 0} (P : X → Type 0) (b : Bool) → A → (IsTrue b ↔ ((x : X) × P x)) → (IsTrue (not b) ↔ (A × ((x : X) → P x → ⊥)))
can_stand_where P false a l = (λ t. (a, λ x h. true≢false (sym (l.1 (x, h)))), λ h. refl)
can_stand_where P true a l = (λ t. absurd (true≢false (sym t)), λ h. absurd (let p = l.0 refl in h.1 p.0 p.1))

-- the value that was found is the one that is used
pub used_at : {O B : Type 0} (c : Program O B) (o : Option Value) (v : Value) (b : Bool) → o ≡ Some v → (IsTrue b ↔ IsUsed c v) → (IsTrue b ↔ ((w : Value) × (o ≡ Some w) × IsUsed c w))
used_at c o v b e h = (λ t. (v, e, h.0 t), λ w. h.1 (subst (IsUsed c) (ap (λ x. unwrap_or x v) (sym w.1 ∙ e)) w.2))

-- the value that was found is the one that is forgotten
pub forgets_found : {O B : Type 0} (c n : Program O B) (o : Option Value) (v : Value) → o ≡ Some v → ForgetsValue c n v → IfSome o (λ w. ForgetsValue c n w)
forgets_found c n o v e h = subst (λ x. IfSome x (λ w. ForgetsValue c n w)) (sym e) h

module _ {O B : Type 0} (c : Program O B) where
  -- what can be put somewhere stands in nothing
  pub operation_free : (op : Ptr Operation) (b : Bool) → (IsTrue b ↔ (IsSome (operation_at c op) × IsUnlinkedOperation c op)) → b ≡ true → (block : Ptr BasicBlock) → StandsInBlock c op block → ⊥
  operation_free op b l e = (l.0 e).1

  pub block_free : (block : Ptr BasicBlock) (b : Bool) → (IsTrue b ↔ (IsSome (block_at c block) × IsUnlinkedBlock c block)) → b ≡ true → (region : Ptr Region) → StandsInRegion c block region → ⊥
  block_free block b l e = (l.0 e).1

  -- what stands inside an operation stands inside the block that it stands in
  pub inside_block : (p : Ptr Operation) (b : Ptr BasicBlock) → StandsInBlock c p b → (x : IRNode) → StandsInside c (OperationNode p) x → StandsInside c (BlockNode b) x
  inside_block p b h x itself = in_block p b h itself
  inside_block p b h x (in_block q a e i) = in_block q a e (inside_block p b h (BlockNode a) i)
  inside_block p b h x (in_region a r e i) = in_region a r e (inside_block p b h (RegionNode r) i)
  inside_block p b h x (in_operation r q e i) = in_operation r q e (inside_block p b h (OperationNode q) i)

  -- what stands inside a block stands inside the region that it stands in
  pub inside_region : (b : Ptr BasicBlock) (r : Ptr Region) → StandsInRegion c b r → (x : IRNode) → StandsInside c (BlockNode b) x → StandsInside c (RegionNode r) x
  inside_region b r h x itself = in_region b r h itself
  inside_region b r h x (in_block q a e i) = in_block q a e (inside_region b r h (BlockNode a) i)
  inside_region b r h x (in_region a s e i) = in_region a s e (inside_region b r h (RegionNode s) i)
  inside_region b r h x (in_operation s q e i) = in_operation s q e (inside_region b r h (OperationNode q) i)

  -- what is not inside something is something else
  pub block_elsewhere : (a b : Ptr BasicBlock) → (StandsInside c (BlockNode b) (BlockNode a) → ⊥) → a ≢ b
  block_elsewhere a b h e = h (subst (λ x. StandsInside c (BlockNode b) (BlockNode x)) (sym e) itself)

  pub region_elsewhere : (a b : Ptr Region) → (StandsInside c (RegionNode b) (RegionNode a) → ⊥) → a ≢ b
  region_elsewhere a b h e = h (subst (λ x. StandsInside c (RegionNode b) (RegionNode x)) (sym e) itself)

  -- where one block is not inside another, it is inside no operation of the other; and so for regions
  pub block_apart : (donee donor : Ptr BasicBlock) (b : Bool) → (IsTrue b ↔ StandsInside c (BlockNode donor) (BlockNode donee)) → b ≡ false
      → (op : Ptr Operation) → StandsInBlock c op donor → StandsInside c (OperationNode op) (BlockNode donee) → ⊥
  block_apart donee donor b l e op s i = true≢false (sym (l.1 (inside_block op donor s (BlockNode donee) i)) ∙ e)

  pub region_apart : (donee donor : Ptr Region) (b : Bool) → (IsTrue b ↔ StandsInside c (RegionNode donor) (RegionNode donee)) → b ≡ false
      → (block : Ptr BasicBlock) → StandsInRegion c block donor → StandsInside c (BlockNode block) (RegionNode donee) → ⊥
  region_apart donee donor b l e block s i = true≢false (sym (l.1 (inside_region block donor s (RegionNode donee) i)) ∙ e)
