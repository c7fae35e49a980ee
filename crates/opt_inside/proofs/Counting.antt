-- Numbering what is inside an operation, one entity after the other.
use Rattle.std.proofs.Common.{◌≡◌, inl, inr, List, [], ◌∷◌, ◌++◌, Option, Some, None, MatchOption, refl, sym, ap, ◌∙◌, subst, append_assoc}
use Rattle.std.proofs.lemmas.List.{append-nil}
use Rattle.ir_program.specs.Lists.{IsLiveNode}
use Rattle.ir_program.specs.Preorder.{nodes_inside, IsPreorder, more, AreInside, StandOnceEach}
use Rattle.ir_program.specs.Program.{Program}
use Rattle.ir_program.specs.declared.handles.IRNode.{IRNode}
use Rattle.ir_program.specs.declared.handles.IRNode.TheVariants.{Operation as OperationNode}
use Rattle.ir_program.specs.declared.handles.Ptr.{Ptr}
use Rattle.ir_program.specs.declared.handles.Operation.{Operation}
use Rattle.ir_trees.proofs.Members.{Once, has_at, has_back, once_of}
use Rattle.opt_trees.specs.Occurrences.{Has}
use Rattle.opt_inside.specs.Numbered.{Numbers, NumbersInside, with_node}
use Rattle.opt_inside.proofs.Added.{HasValues}
use Rattle.opt_inside.proofs.Among.{numbers_among, with_next, all_numbered}
use Rattle.opt_inside.proofs.Ordered.{in_preorder}

module _ {O B : Type 0} (c : Program O B) where
  -- the numbers of the entities behind the root that have been gone through
  pub record IsNumberedUpTo (op : Ptr Operation) (n : Numbers) (left : List IRNode) : Type 0 where
    pub done : List IRNode
    pub parts : nodes_inside c (OperationNode op) ≡ OperationNode op ∷ (done ++ left)
    pub numbers : n ≡ numbers_among c done

  first_left : (r : Option IRNode) (was left : List IRNode) (e : IRNode) (ns : List IRNode) → was ≡ e ∷ ns → MatchOption r ((was ≡ []) × (left ≡ [])) (λ x. was ≡ x ∷ left) → left ≡ ns
  first_left None was left e ns is gives = let s : [] ≡ e ∷ ns = sym gives.0 ∙ is in absurd (cc)
  first_left (Some x) was left e ns is gives = let s : x ∷ left ≡ e ∷ ns = sym gives ∙ is in cc

  root_first : (e : IRNode) (all : List IRNode) → IsPreorder c (e ∷ []) all → (ns : List IRNode) × (all ≡ e ∷ ns)
  root_first _ _ (more e es inner rest d ds) = (inner ++ rest, refl)

  module _ (op : Ptr Operation) where
    -- after the first one, the root itself
    pub numbering_begins : (n : Numbers) (was left : List IRNode) (r : Option IRNode) → IsPreorder c (OperationNode op ∷ []) (nodes_inside c (OperationNode op)) → was ≡ nodes_inside c (OperationNode op)
        → MatchOption r ((was ≡ []) × (left ≡ [])) (λ x. was ≡ x ∷ left) → n ≡ numbers_among c [] → IsNumberedUpTo op n left
    numbering_begins n was left r order list gives none =
        let f = root_first (OperationNode op) (nodes_inside c (OperationNode op)) order in
        record { done = []; parts = f.1 ∙ ap (λ l. OperationNode op ∷ l) (sym (first_left r was left (OperationNode op) f.0 (list ∙ f.1) gives)); numbers = none }

    pub numbering_goes_on : (n after : Numbers) (was left : List IRNode) (e : IRNode) → was ≡ e ∷ left → after ≡ with_node c n e → IsNumberedUpTo op n was → IsNumberedUpTo op after left
    numbering_goes_on n after was left e is with h = record {
      done = h.done ++ e ∷ [];
      parts = h.parts ∙ ap (λ l. OperationNode op ∷ (h.done ++ l)) is ∙ ap (λ l. OperationNode op ∷ l) (sym (append_assoc h.done (e ∷ []) left));
      numbers = with ∙ ap (λ m. with_node c m e) h.numbers ∙ with_next c h.done e;
    }

    module _ (inside : AreInside c (OperationNode op) (nodes_inside c (OperationNode op))) where
      pub next_is_live : (n : Numbers) (was left : List IRNode) (e : IRNode) → was ≡ e ∷ left → IsNumberedUpTo op n was → IsLiveNode c e
      next_is_live n was left e is h =
          let has : Has e (nodes_inside c (OperationNode op)) = subst (Has e) (sym (h.parts ∙ ap (λ l. OperationNode op ∷ (h.done ++ l)) is)) (inr (has_back h.done (e ∷ left) e (inl refl))) in
          let k = has_at (nodes_inside c (OperationNode op)) e has in inside.live k.0 e k.1

      module _ (values : HasValues c) (once : StandOnceEach (nodes_inside c (OperationNode op))) where
        pub numbering_ends : IsPreorder c (OperationNode op ∷ []) (nodes_inside c (OperationNode op)) → (n : Numbers) (left : List IRNode) → left ≡ [] → IsNumberedUpTo op n left → NumbersInside c op n
        numbering_ends order n left is h =
            let parts : nodes_inside c (OperationNode op) ≡ OperationNode op ∷ h.done = h.parts ∙ ap (λ l. OperationNode op ∷ (h.done ++ l)) is ∙ ap (λ l. OperationNode op ∷ l) (append-nil h.done) in
            subst (NumbersInside c op) (sym h.numbers)
            (all_numbered c values op h.done (subst (AreInside c (OperationNode op)) parts inside) (subst Once parts (once_of (nodes_inside c (OperationNode op)) once))
            (in_preorder c op h.done (subst (IsPreorder c (OperationNode op ∷ [])) parts order)))
