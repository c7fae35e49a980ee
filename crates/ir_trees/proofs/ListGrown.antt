-- The operations of a block stand for a list of trees.
use Rattle.std.proofs.Common.{◌≡◌, inl, inr, ℕ, List, [], ◌∷◌, ◌++◌, map, Some, slice_get, refl, sym, ⊎_elim, subst}
use Rattle.ir_program.specs.Program.{Program}
use Rattle.ir_program.specs.Lists.{IsLiveNode, operations_in}
use Rattle.ir_program.specs.Preorder.{nodes_in, IsPreorder, nothing, more}
use Rattle.ir_program.specs.declared.handles.IRNode.{IRNode}
use Rattle.ir_program.specs.declared.handles.IRNode.TheVariants.{Operation as OperationNode, BasicBlock as BlockNode}
use Rattle.ir_program.specs.declared.handles.Ptr.{Ptr}
use Rattle.ir_program.specs.declared.handles.Operation.{Operation}
use Rattle.ir_program.specs.declared.handles.BasicBlock.{BasicBlock}
use Rattle.ir_trees.specs.Trees.{Head, Operations, Tree, end, operation}
use Rattle.ir_trees.specs.Stands.{by_handle, in_program, AreTree, no_operations, first_operation}
use Rattle.ir_trees.proofs.Members.{Has, at_has, has_at, has_front, has_back, has_either}
use Rattle.ir_trees.proofs.Grown.{grown_tree}

in_front : (e : IRNode) (inner rest : List IRNode) (x : IRNode) → Has x (e ∷ (inner ++ [])) → Has x (e ∷ (inner ++ rest))
in_front e inner rest x h = ⊎_elim (λ s. inl s) (λ r. inr (⊎_elim (λ a. has_front inner rest x a) (λ b. absurd b) (has_either inner [] x r))) h

module _ {O B : Type 0} (c : Program O B) where
  list_grown : (ps : List (Ptr Operation)) (es ns : List IRNode) → IsPreorder c es ns → es ≡ map OperationNode ps → ((e : IRNode) → Has e ns → IsLiveNode c e) → (t : Tree by_handle (in_program O B) Operations) × AreTree c Operations ps t
  list_grown [] es ns order same live = (end, no_operations)
  list_grown (p ∷ ps) _ _ nothing same live = cc
  list_grown (p ∷ ps) _ _ (more e es inner rest d ds) same live =
      let first : e ≡ OperationNode p = cc in
      let left : es ≡ map OperationNode ps = cc in
      let behind = list_grown ps es rest ds left (λ x h. live x (inr (has_back inner rest x h))) in
      let alive : (x : IRNode) → Has x (e ∷ (inner ++ [])) → IsLiveNode c x = λ x h. live x (in_front e inner rest x h) in
      let order : IsPreorder c (OperationNode p ∷ []) (e ∷ (inner ++ [])) = subst (λ y. IsPreorder c (y ∷ []) (e ∷ (inner ++ []))) first (more e [] inner [] d nothing) in
      let tree = grown_tree c p (subst (IsLiveNode c) first (live e (inl refl))) (e ∷ (inner ++ [])) order (λ k x h. alive x (at_has (e ∷ (inner ++ [])) k x h)) in
      (operation tree.0.head tree.0.regions behind.0, subst (λ (h : Head by_handle (in_program O B)). AreTree c Operations (p ∷ ps) (operation h tree.0.regions behind.0)) (sym tree.1.head) (first_operation p ps tree.1.view tree.0.regions behind.0 tree.1.there tree.1.regions behind.1))

  pub operations_grown : (b : Ptr BasicBlock) → (ns : List IRNode) → IsPreorder c (BlockNode b ∷ []) ns → ((k : ℕ) (e : IRNode) → slice_get ns k ≡ Some e → IsLiveNode c e) → (t : Tree by_handle (in_program O B) Operations) × AreTree c Operations (operations_in c b) t
  operations_grown b _ (more e es inner rest d ds) live = list_grown (operations_in c b) (nodes_in c (BlockNode b)) inner d refl
      (λ x h. let k = has_at (BlockNode b ∷ (inner ++ rest)) x (inr (has_front inner rest x h)) in live k.0 x k.1)
