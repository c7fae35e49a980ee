-- Going through what is inside the place where looking begins, one entity after the other, where something is found to hold
-- of each that is under it.
use Rattle.std.proofs.Common.{◌≡◌, ◌⊎◌, inl, inr, ⊎_elim, List, [], ◌∷◌, ◌++◌, sym, ap, ◌∙◌, subst, append_assoc, refl}
use Rattle.std.proofs.lemmas.List.{append-nil}
use Rattle.ir_program.specs.Program.{Program}
use Rattle.ir_program.specs.Lists.{IsLiveNode, StandsInside}
use Rattle.ir_program.specs.Preorder.{nodes_inside, AreInside}
use Rattle.ir_program.specs.declared.handles.IRNode.{IRNode}
use Rattle.ir_trees.proofs.Members.{Has, at_has, has_at, has_back}
use Rattle.opt_inside.proofs.Around.{HasLists}
use Rattle.opt_inside.specs.reach.Edges.{IsNodeUnder}
use Rattle.opt_inside.specs.declared.reach.starts.Start.{Start}
use Rattle.opt_inside.specs.forwarding.Tops.{IsAbove, IsStartNode}
use Rattle.opt_inside.proofs.ForwardingLemmas.Above.{above_or_under, inside_start, not_above}
use Rattle.opt_inside.proofs.ForwardingLemmas.Partway.{each_more}

module _ {O B : Type 0} (c : Program O B) (start : Start) (P : IRNode → Type 0) (node : IRNode) where
  -- these are left of what is inside; of the others each holds regions where looking begins, or it holds of it
  pub record IsSeenUpTo (left : List IRNode) : Type 0 where
    pub done : List IRNode
    pub parts : nodes_inside c node ≡ done ++ left
    pub each : (e : IRNode) → Has e done → IsAbove c start e ⊎ P e

  pub seeing_begins : (left : List IRNode) → left ≡ nodes_inside c node → IsSeenUpTo left
  seeing_begins left is = record { done = []; parts = sym is; each = λ e has. absurd has }

  -- one more
  pub seeing_goes_on : (was left : List IRNode) (e : IRNode) → was ≡ e ∷ left → IsAbove c start e ⊎ P e → IsSeenUpTo was → IsSeenUpTo left
  seeing_goes_on was left e is here h = record {
    done = h.done ++ e ∷ [];
    parts = h.parts ∙ ap (λ l. h.done ++ l) is ∙ sym (append_assoc h.done (e ∷ []) left);
    each = each_more (λ x. IsAbove c start x ⊎ P x) h.done e h.each here;
  }

  module _ (inside : AreInside c node (nodes_inside c node)) where
    has_next : (was left : List IRNode) (e : IRNode) → was ≡ e ∷ left → IsSeenUpTo was → Has e (nodes_inside c node)
    has_next was left e is h = subst (Has e) (sym (h.parts ∙ ap (λ l. h.done ++ l) is)) (has_back h.done (e ∷ left) e (inl refl))

    -- the next one is there
    pub next_is_there : (was left : List IRNode) (e : IRNode) → was ≡ e ∷ left → IsSeenUpTo was → IsLiveNode c e
    next_is_there was left e is h = let k = has_at (nodes_inside c node) e (has_next was left e is h) in inside.live k.0 e k.1

    module _ (at : IsStartNode c start node) where
      -- where it holds of each under the place it holds of the next one, if that is there
      pub holds_of_next : (was left : List IRNode) (e : IRNode) → was ≡ e ∷ left → IsSeenUpTo was → ((x : IRNode) → IsNodeUnder c start x → P x) → IsAbove c start e ⊎ P e
      holds_of_next was left e is h all =
          let k = has_at (nodes_inside c node) e (has_next was left e is h) in
          ⊎_elim
          (λ above. inl above)
          (λ under. inr (all e under))
          (above_or_under c start at.owner e (subst (λ n. StandsInside c n e) at.is (inside.inside k.0 e k.1)))

      -- when none is left it holds of each
      pub seeing_ends : HasLists c → (left : List IRNode) → left ≡ [] → IsSeenUpTo left → (e : IRNode) → IsNodeUnder c start e → P e
      seeing_ends lists left is h e u =
          let all : nodes_inside c node ≡ h.done = h.parts ∙ ap (λ l. h.done ++ l) is ∙ append-nil h.done in
          let k = inside.all e (subst (λ n. StandsInside c n e) (sym at.is) (inside_start c start e u)) in
          ⊎_elim
          (λ above. absurd (not_above c lists start e u above))
          (λ holds. holds)
          (h.each e (subst (Has e) all (at_has (nodes_inside c node) k.0 e k.1)))
