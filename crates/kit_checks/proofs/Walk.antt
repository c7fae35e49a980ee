-- Operations of one block come in walk order as they stand in the block.
use Rattle.std.proofs.Common.{◌≡◌, inl, inr, ⊎_elim, ℕ, zero, suc, ◌<◌, ◌+◌, List, [], ◌∷◌, ◌++◌, length, Some, option_map, slice_get, ap, ◌∙◌, subst, arith}
use Rattle.std.proofs.lemmas.Option.{slice_get-map}
use Rattle.ir_program.specs.Lists.{StandsInside, operations_in}
use Rattle.ir_program.specs.Preorder.{nodes_in, AreInside, IsPreorder, nothing, more}
use Rattle.ir_program.specs.Program.{Program}
use Rattle.ir_program.specs.declared.handles.IRNode.{IRNode}
use Rattle.ir_program.specs.declared.handles.IRNode.TheVariants.{Operation as OperationNode, BasicBlock as BlockNode}
use Rattle.ir_program.specs.declared.handles.Ptr.{Ptr}
use Rattle.ir_program.specs.declared.handles.Operation.{Operation}
use Rattle.ir_program.specs.declared.handles.BasicBlock.{BasicBlock}
use Rattle.ir_trees.proofs.Members.{Has, at_has, has_at, has_back, has_either}
use Rattle.kit_checks.specs.Naming.{IsEarlier}

module _ {X : Type 0} where
  -- a member of the first part is one of the whole list
  pub front_get : (front rest : List X) (k : ℕ) (x : X) → slice_get front k ≡ Some x → (slice_get (front ++ rest) k ≡ Some x) × (k < length front)
  front_get [] rest k x here = cc
  front_get (y ∷ front) rest zero x here = (here, omega arith)
  front_get (y ∷ front) rest (suc k) x here = let r = front_get front rest k x here in let less = r.1 in (r.0, omega arith)

  -- in a longer list
  before_inner : (xs ys : List X) (x y : X) → IsEarlier xs x y → IsEarlier (xs ++ ys) x y
  before_inner xs ys x y e = record {
    first = e.first;
    second = e.second;
    here = (front_get xs ys e.first x e.here).0;
    there = (front_get xs ys e.second y e.there).0;
    before = e.before;
  }

  behind_get : (front rest : List X) (k : ℕ) (x : X) → slice_get rest k ≡ Some x → slice_get (front ++ rest) (length front + k) ≡ Some x
  behind_get [] rest k x here = let z : k ≡ 0 + k = omega arith in subst (λ j. slice_get rest j ≡ Some x) z here
  behind_get (y ∷ front) rest k x here =
      let z : suc (length front + k) ≡ suc (length front) + k = omega arith in
      subst (λ j. slice_get (y ∷ (front ++ rest)) j ≡ Some x) z (behind_get front rest k x here)

  before_behind : (xs ys : List X) (x y : X) → IsEarlier ys x y → IsEarlier (xs ++ ys) x y
  before_behind xs ys x y e =
      let less = e.before in
      record {
        first = length xs + e.first;
        second = length xs + e.second;
        here = behind_get xs ys e.first x e.here;
        there = behind_get xs ys e.second y e.there;
        before = omega arith;
      }

  -- a member of the first part and one of the second
  before_across : (xs ys : List X) (x y : X) → Has x xs → Has y ys → IsEarlier (xs ++ ys) x y
  before_across xs ys x y a b =
      let j = has_at xs x a in
      let k = has_at ys y b in
      let r = front_get xs ys j.0 x j.1 in
      let less = r.1 in
      record { first = j.0; second = length xs + k.0; here = r.0; there = behind_get xs ys k.0 y k.1; before = omega arith }

module _ {O B : Type 0} (c : Program O B) where
  -- entities of the list are among those of its preorder, in the same order
  all_there : (es ns : List IRNode) → IsPreorder c es ns → (e : IRNode) → Has e es → Has e ns
  all_there _ _ nothing e h = h
  all_there _ _ (more d es inner rest below behind) e h = ⊎_elim inl (λ r. inr (has_back inner rest e (all_there es rest behind e r))) h

  same_order : (es ns : List IRNode) → IsPreorder c es ns → (x y : IRNode) (i j : ℕ) → slice_get es i ≡ Some x → slice_get es j ≡ Some y → i < j → IsEarlier ns x y
  same_order _ _ nothing x y i j here there less = cc
  same_order _ _ (more d es inner rest below behind) x y i zero here there less = absurd (omega arith)
  same_order _ _ (more d es inner rest below behind) x y zero (suc j) here there less =
      let first : x ≡ d = cc in
      before_across (d ∷ []) (inner ++ rest) x y (inl first) (has_back inner rest y (all_there es rest behind y (at_has es j y there)))
  same_order _ _ (more d es inner rest below behind) x y (suc i) (suc j) here there less =
      before_behind (d ∷ inner) rest x y (same_order es rest behind x y i j here there (omega arith))

  -- so are those that stand in one of them
  inner_order : (es ns : List IRNode) → IsPreorder c es ns → (e x y : IRNode) → Has e ns → IsEarlier (nodes_in c e) x y → IsEarlier ns x y
  inner_order _ _ nothing e x y h b = absurd h
  inner_order _ _ (more d es inner rest below behind) e x y h b = ⊎_elim
      (λ same. before_behind (d ∷ []) (inner ++ rest) x y (before_inner inner rest x y
      (let b2 : IsEarlier (nodes_in c d) x y = subst (λ z. IsEarlier (nodes_in c z) x y) same b in same_order (nodes_in c d) inner below x y b2.first b2.second b2.here b2.there b2.before)))
      (λ more. ⊎_elim
      (λ within. before_behind (d ∷ []) (inner ++ rest) x y (before_inner inner rest x y (inner_order (nodes_in c d) inner below e x y within b)))
      (λ later. before_behind (d ∷ inner) rest x y (inner_order es rest behind e x y later b))
      (has_either inner rest e more))
      h

module _ {O B : Type 0} (c : Program O B) (root : Ptr Operation) (all : List IRNode)
    (within : AreInside c (OperationNode root) all) (order : IsPreorder c (OperationNode root ∷ []) all) where
  -- operations of a block inside the root stand in their order among the entities inside the root
  pub walk_order : (block : Ptr BasicBlock) → StandsInside c (OperationNode root) (BlockNode block)
      → (p q : Ptr Operation) → IsEarlier (operations_in c block) p q
      → IsEarlier all (OperationNode p) (OperationNode q)
  walk_order block inside p q e =
      let here = within.all (BlockNode block) inside in
      let nodes : IsEarlier (nodes_in c (BlockNode block)) (OperationNode p) (OperationNode q) = record {
        first = e.first;
        second = e.second;
        here = slice_get-map OperationNode (operations_in c block) e.first ∙ ap (option_map OperationNode) e.here;
        there = slice_get-map OperationNode (operations_in c block) e.second ∙ ap (option_map OperationNode) e.there;
        before = e.before;
      } in
      let has = at_has all here.0 (BlockNode block) here.1 in
      inner_order c (OperationNode root ∷ []) all order (BlockNode block) (OperationNode p) (OperationNode q) has nodes
