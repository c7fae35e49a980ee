-- What was called before a node is of the new tree too, where a call at the node reshaped only what is below it.
use Rattle.std.proofs.Common.{◌≡◌, ℕ, zero, suc, ◌<◌, List, [], ◌∷◌, ◌++◌, length, slice_get, Option, Some, None, refl, sym, ap, ◌∙◌, subst, arith}
use Rattle.std.proofs.lemmas.Option.{slice_get_within}
use Rattle.ir_program.specs.Preorder.{nodes_in}
use Rattle.ir_program.specs.Program.{Program}
use Rattle.ir_program.specs.declared.handles.IRNode.{IRNode}
use Rattle.ir_walks.specs.declared.config.Order.TheVariants.{PreOrder}
use Rattle.ir_walks.specs.declared.config.WalkConfig.{WalkConfig}
use Rattle.ir_walks.specs.declared.turns.Cursor.{Cursor}
use Rattle.ir_walks.specs.declared.turns.Cursor.TheVariants.{Arriving, Leaving}
use Rattle.ir_walks.specs.Levels.{members}
use Rattle.ir_walks.specs.Turns.{on_leaving, called_at, IsKnown}
use Rattle.ir_walks.specs.Walks.{Call, IsWalk, nothing, skipped, first, last}
use Rattle.ir_walks.proofs.Ordered.{WithinOne, below_within}
use Rattle.ir_walks.proofs.Progress.{Opens, called_before, not_before, Begun, root, down, begun_within, IsSoFar, begins}
use Rattle.ir_walks.proofs.Sequences.{at_seam}
use Rattle.ir_walks.proofs.Trees.{Within, it, deeper, IsTree, tree_of, through, stands_in, member_in, disjoint}
use Rattle.ir_mutable_walks.specs.Changes.{ReshapesBelow}
use Rattle.ir_mutable_walks.specs.Ends.{HasOrder}
use Rattle.ir_mutable_walks.specs.Ways.{Way, start, silent, called}
use Rattle.ir_mutable_walks.proofs.Along.{Keeping, known_along}
use Rattle.ir_mutable_walks.proofs.OneTurn.{called_is_node}
use Rattle.ir_mutable_walks.proofs.SoFar.{has_order, on_silently, on_called, members_same}
use Rattle.ir_mutable_walks.proofs.Stays.{same_outside, apart_above}

pub get_left : {X : Type 0} (xs ys : List X) (k : ℕ) (x : X) → slice_get xs k ≡ Some x → slice_get (xs ++ ys) k ≡ Some x
get_left [] ys k x h = let no : None ≡ Some x = h in cc
get_left (y ∷ xs) ys zero x h = h
get_left (y ∷ xs) ys (suc k) x h = get_left xs ys k x h

module _ {O B : Type 0} (old new : Program O B) (config : WalkConfig) where
  -- a walk of nodes in which nothing was reshaped
  walk_moved : (es : List IRNode) (cs : List Call) → IsWalk old config es cs → ((e : IRNode) → WithinOne old es e → nodes_in new e ≡ nodes_in old e) → IsWalk new config es cs
  walk_moved _ _ nothing same = nothing
  walk_moved _ _ (skipped e es rest p w) same = skipped e es rest p (walk_moved es rest w (λ f m. same f (record { place = suc m.place; one = m.one; here = m.here; within = m.within })))
  walk_moved _ _ (first e es inner rest p i w) same =
      let own : members old config e ≡ members new config e = sym (members_same old new config e (same e (record { place = 0; one = e; here = refl; within = it }))) in
      let down_there : IsWalk new config (members old config e) inner = walk_moved (members old config e) inner i (λ f m. same f (record { place = 0; one = e; here = refl; within = below_within old config e f m })) in
      first e es inner rest p (subst (λ zs. IsWalk new config zs inner) own down_there)
      (walk_moved es rest w (λ f m. same f (record { place = suc m.place; one = m.one; here = m.here; within = m.within })))
  walk_moved _ _ (last e es inner rest a p i w) same =
      let own : members old config e ≡ members new config e = sym (members_same old new config e (same e (record { place = 0; one = e; here = refl; within = it }))) in
      let down_there : IsWalk new config (members old config e) inner = walk_moved (members old config e) inner i (λ f m. same f (record { place = 0; one = e; here = refl; within = below_within old config e f m })) in
      last e es inner rest a p (subst (λ zs. IsWalk new config zs inner) own down_there)
      (walk_moved es rest w (λ f m. same f (record { place = suc m.place; one = m.one; here = m.here; within = m.within })))

  opens_moved : (e : IRNode) (cs : List Call) → Opens old config e cs → Opens new config e cs
  opens_moved e _ (called_before p) = called_before p
  opens_moved e _ (not_before p) = not_before p

  module _ (x : IRNode) (known : IsKnown old x) (n : IRNode) (below : ReshapesBelow old new n) where
    tree : IsTree old
    tree = tree_of old x known

    member_inside : (d one : IRNode) (k : ℕ) → slice_get (members old config d) k ≡ Some one → Within old x d → Within old x one
    member_inside d one k at w = let j = member_in old config d one k at in deeper d one j.0 j.1 w

    -- an earlier one beside a node that holds n, and what stands in it, isn't reshaped
    beside_same : (d e : IRNode) (before after : List IRNode) → members old config d ≡ before ++ e ∷ after → Within old x d → Within old e n → (f : IRNode) → WithinOne old before f → nodes_in new f ≡ nodes_in old f
    beside_same d e before after h wd v f m =
        let at_one : slice_get (members old config d) m.place ≡ Some m.one = ap (λ es. slice_get es m.place) h ∙ get_left before (e ∷ after) m.place m.one m.here in
        let at_e : slice_get (members old config d) (length before) ≡ Some e = ap (λ es. slice_get es (length before)) h ∙ at_seam before e after in
        let earlier : m.place < length before = slice_get_within before m.place m.one m.here in
        let one_in : Within old x m.one = member_inside d m.one m.place at_one wd in
        same_outside x old new known n below f (through old x m.one f one_in m.within)
        (λ u. disjoint old config tree d m.one e f m.place (length before) at_one at_e (λ s. let t : m.place ≡ length before = s in absurd (omega (arith, earlier, t))) m.within (through old e n f v u))

    pub begun_moved : (e : IRNode) (depth : ℕ) (cs : List Call) → Begun old config x e depth cs → Within old e n → Begun new config x e depth cs
    begun_moved _ _ _ root v = root
    begun_moved _ _ _ (down d e depth before after outer opening walked h o w b) v =
        let s = stands_in old config d e before after h in
        let wd : Within old x d = begun_within old config x d depth outer b in
        let same : nodes_in new d ≡ nodes_in old d = same_outside x old new known n below d wd (apart_above x old new known n below d e s.0 s.1 v) in
        down d e depth before after outer opening walked (members_same old new config d same ∙ h) (opens_moved d opening o)
        (walk_moved before walked w (beside_same d e before after h wd v))
        (begun_moved d depth outer b (through old d e n (deeper d e s.0 s.1 it) v))

    -- where every node is called first, also what was called up to a call at n
    pub so_far_moved : HasOrder config PreOrder → (at : Cursor) (cs : List Call) → called_at config at ≡ Some n → IsSoFar old config x (Some at) cs → IsSoFar new config x (Some at) cs
    so_far_moved pre (Arriving e) cs s so_far =
        let is : n ≡ e = called_is_node config (Arriving e) n s in
        record { depth = so_far.depth; begun = begun_moved e so_far.depth cs so_far.begun (subst (Within old e) (sym is) it) }
    so_far_moved pre (Leaving e) cs s so_far = let no : None ≡ Some n = subst (λ o. on_leaving o e ≡ Some n) (has_order config PreOrder pre e) s in cc

module _ {O B V : Type 0} (tree : V → Program O B) (Made : V → Call → V → Type 0) (config : WalkConfig) (x : IRNode) (v : V) (known : IsKnown (tree v) x) (pre : HasOrder config PreOrder) where
  -- where every node is called first, the calls so far are those of a walk of the tree as it is now
  pub last_so_far : (calls : List Call) (at : Option Cursor) (w : V) → Way tree (Keeping tree Made x) config x v calls at w → IsSoFar (tree w) config x at calls
  last_so_far _ _ _ start = begins (tree v) config x
  last_so_far _ _ _ (silent calls at w next way s turn) =
      on_silently (tree w) config x (known_along tree Made config x v known calls (Some at) w way) at calls (last_so_far calls (Some at) w way) s next turn
  last_so_far _ _ _ (called calls at w n a u next way s made turn) =
      let moved : IsSoFar (tree u) config x (Some at) calls = so_far_moved (tree w) (tree u) config x made.1.before n made.1.below pre at calls s (last_so_far calls (Some at) w way) in
      on_called (tree u) config x made.1.after at calls moved n s a next turn
