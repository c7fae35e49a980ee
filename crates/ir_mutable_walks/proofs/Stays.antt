-- What a call leaves in its place.
use Rattle.std.proofs.Common.{◌≡◌, ⊎_elim, ℕ, slice_get, Some, refl, sym, ap, ◌∙◌, subst}
use Rattle.ir_program.specs.Lists.{StandsInside, IsLiveNode}
use Rattle.ir_program.specs.Preorder.{nodes_in}
use Rattle.ir_program.specs.Program.{Program}
use Rattle.ir_program.specs.declared.handles.IRNode.{IRNode}
use Rattle.ir_walks.specs.Turns.{IsKnown}
use Rattle.ir_walks.proofs.Measure.{same_node}
use Rattle.ir_walks.proofs.Trees.{Within, it, deeper, IsTree, tree_of, inside, through}
use Rattle.ir_mutable_walks.specs.Changes.{ReshapesBelow}

module _ {O B : Type 0} (c : Program O B) (tree : IsTree c) where
  -- two nodes that stand in one another are one
  pub same_if_inside : (a b : IRNode) → Within c a b → Within c b a → a ≡ b
  same_if_inside a _ it w = refl
  same_if_inside a _ (deeper d b k h v) w = absurd (tree.apart d b k h (through c b a d w v))

module _ {O B : Type 0} (c : Program O B) (x : IRNode) (known : IsKnown c x) where
  pub live_in : (e : IRNode) → Within c x e → IsLiveNode c e
  live_in e w =
      let tree : IsTree c = tree_of c x known in
      let k = known.inside.all e (tree.outside x e w) in known.inside.live k.0 e k.1

module _ {O B : Type 0} (x : IRNode) (old new : Program O B) (known : IsKnown old x) (n : IRNode) (below : ReshapesBelow old new n) where
  tree : IsTree old
  tree = tree_of old x known

  -- what neither is n nor stands in it has in it what it had
  pub same_outside : (e : IRNode) → Within old x e → (Within old n e → ⊥) → nodes_in new e ≡ nodes_in old e
  same_outside e w apart = below.same e (live_in old x known e w) (λ s. apart (inside old n e s))

  pub root_live : StandsInside old x n → IsLiveNode old x → IsLiveNode new x
  root_live stands live = ⊎_elim
      (λ s. subst (IsLiveNode new) (sym s) below.there)
      (λ ne. below.live x live (λ s. ne (same_if_inside old tree x n (inside old x n stands) (inside old n x s))))
      (same_node x n)

  -- what holds n doesn't stand in it
  pub apart_above : (d m : IRNode) (k : ℕ) → slice_get (nodes_in old d) k ≡ Some m → Within old m n → Within old n d → ⊥
  apart_above d m k h v u = tree.apart d m k h (through old m n d v u)

  still : (m : IRNode) → Within old x m → Within old m n → Within new x m
  still _ it v = it
  still _ (deeper d m k h w) v =
      let up : Within old d n = through old d m n (deeper d m k h it) v in
      deeper d m k (ap (λ es. slice_get es k) (same_outside d w (apart_above d m k h v)) ∙ h) (still d w up)

  pub still_inside : StandsInside old x n → IsKnown new x → StandsInside new x n
  still_inside stands after =
      let after_tree : IsTree new = tree_of new x after in
      after_tree.outside x n (still n (inside old x n stands) it)
