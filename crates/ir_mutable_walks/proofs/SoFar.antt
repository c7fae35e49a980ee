-- What was called so far, and the turns of another tree.
use Rattle.std.proofs.Common.{◌≡◌, ℕ, List, [], ◌∷◌, ◌++◌, length, slice_get, Option, Some, None, refl, sym, ap, ◌∙◌, subst}
use Rattle.std.proofs.lemmas.List.{append-nil}
use Rattle.ir_program.specs.Preorder.{nodes_in, nodes_inside}
use Rattle.ir_program.specs.Program.{Program}
use Rattle.ir_program.specs.declared.handles.IRNode.{IRNode}
use Rattle.ir_program.specs.declared.handles.IRNode.TheVariants.{Operation as OperationNode, Region as RegionNode, BasicBlock as BlockNode}
use Rattle.ir_walks.specs.declared.config.Order.{Order}
use Rattle.ir_walks.specs.declared.config.WalkConfig.{WalkConfig}
use Rattle.ir_walks.specs.declared.results.WalkContinue.{WalkContinue}
use Rattle.ir_walks.specs.declared.results.WalkContinue.TheVariants.{Advance}
use Rattle.ir_walks.specs.declared.turns.Cursor.{Cursor}
use Rattle.ir_walks.specs.declared.turns.Cursor.TheVariants.{Arriving, Leaving}
use Rattle.ir_walks.specs.Levels.{level_of, directed, members}
use Rattle.ir_walks.specs.Places.{IsWalkOf}
use Rattle.ir_walks.specs.Turns.{called_at, node_of, to_first, to_end, all_done, to_next, to_holder, IsTurn, enters, passes, exits, IsKnown}
use Rattle.ir_walks.specs.Walks.{Call}
use Rattle.ir_walks.proofs.Ordered.{walk_of}
use Rattle.ir_walks.proofs.Progress.{made, sized_of, begun_within, IsSoFar, Up, up, goes_on, could_go_on}
use Rattle.ir_walks.proofs.Trees.{Within, IsTree, tree_of, stands_in, one_split}
use Rattle.ir_mutable_walks.specs.Ends.{HasOrder, Begins}

-- a node has the order that every level has
pub has_order : (config : WalkConfig) (order : Order) → HasOrder config order → (e : IRNode) → (level_of config e).order ≡ order
has_order config order h (OperationNode p) = h.operation
has_order config order h (RegionNode r) = h.region
has_order config order h (BlockNode b) = h.block

module _ {O B : Type 0} (c : Program O B) (config : WalkConfig) (x : IRNode) where
  module _ (known : IsKnown c x) where
    tree : IsTree c
    tree = tree_of c x known

    pub whole_walk : (calls : List Call) → IsSoFar c config x None calls → IsWalkOf c config x calls
    whole_walk calls w = walk_of c config tree x calls w

    pub begun_walk : (calls : List Call) (at : Cursor) (n : IRNode) → called_at config at ≡ Some n → IsSoFar c config x (Some at) calls → Begins config x calls n c
    begun_walk calls at n h s =
        let r = could_go_on c config x (length (nodes_inside c x)) (sized_of c config (x ∷ []) (nodes_inside c x) known.order) at calls s n h in
        (r.0, r.1, walk_of c config tree x (calls ++ (n, r.0) ∷ r.1) r.2)

    -- one turn, that calls nothing, and one after a call
    pub on_silently : (at : Cursor) (calls : List Call) → IsSoFar c config x (Some at) calls → called_at config at ≡ None → (next : Option Cursor) → IsTurn c config x at Advance next → IsSoFar c config x next calls
    on_silently at calls so_far s next turn =
        subst (λ zs. IsSoFar c config x next zs) (ap (λ o. calls ++ made o Advance) s ∙ append-nil calls) (goes_on c config x tree at calls so_far Advance next turn (λ z. refl))

    pub on_called : (at : Cursor) (calls : List Call) → IsSoFar c config x (Some at) calls → (n : IRNode) → called_at config at ≡ Some n → (a : WalkContinue) (next : Option Cursor) → IsTurn c config x at a next → IsSoFar c config x next (calls ++ (n, a) ∷ [])
    on_called at calls so_far n s a next turn =
        subst (λ zs. IsSoFar c config x next zs) (ap (λ o. calls ++ made o a) s) (goes_on c config x tree at calls so_far a next turn (λ z. let no : Some n ≡ None = sym s ∙ z in cc))

  pub at_within : (at : Cursor) (calls : List Call) → IsSoFar c config x (Some at) calls → Within c x (node_of at)
  at_within (Arriving e) calls s = begun_within c config x e s.depth calls s.begun
  at_within (Leaving e) calls s = begun_within c config x e s.depth s.outer s.begun

-- the same stands in a node in both trees, also in the direction of its level
pub members_same : {O B : Type 0} (old new : Program O B) (config : WalkConfig) (e : IRNode) → nodes_in new e ≡ nodes_in old e → members new config e ≡ members old config e
members_same old new config e h = ap (directed (level_of config e).direction) h

-- a turn in a later tree is one in the first, where both have the same in the node into which the walk goes, and in what it stands in
module _ {O B : Type 0} (c0 c : Program O B) (config : WalkConfig) (x : IRNode) (tree0 : IsTree c0) (tree : IsTree c) where
  -- what holds a node has the same in it in both
  abbrev pub HolderAlike : IRNode → Type 0
  HolderAlike e = (d : IRNode) (k : ℕ) → Within c0 x d → slice_get (nodes_in c0 d) k ≡ Some e → nodes_in c d ≡ nodes_in c0 d

  held_in : (e : IRNode) → HolderAlike e → (outer : List Call) → Up c0 config x e outer → (d : IRNode) (before after : List IRNode) → members c config d ≡ before ++ e ∷ after → members c0 config d ≡ before ++ e ∷ after
  held_in e held outer u d before after h =
      let s = stands_in c0 config u.holder e u.before u.after u.here in
      let same : nodes_in c u.holder ≡ nodes_in c0 u.holder = held u.holder s.0 (begun_within c0 config x u.holder u.depth u.outer u.begun) s.1 in
      let o = one_split c config tree u.holder d e u.before before u.after after (members_same c0 c config u.holder same ∙ u.here) h in
      ap (members c0 config) (sym o.0) ∙ u.here ∙ (λ i. o.1 i ++ e ∷ o.2 i)

  pub turn_back : (at : Cursor) (calls : List Call) → IsSoFar c0 config x (Some at) calls → HolderAlike (node_of at) → ((e : IRNode) → at ≡ Arriving e → nodes_in c e ≡ nodes_in c0 e) → (a : WalkContinue) (next : Option Cursor) → IsTurn c config x at a next → IsTurn c0 config x at a next
  turn_back _ calls s held own _ _ (enters e _ (to_first k ks h)) = enters e (Arriving k) (to_first k ks (sym (members_same c0 c config e (own e refl)) ∙ h))
  turn_back _ calls s held own _ _ (enters e _ (to_end h)) = enters e (Leaving e) (to_end (sym (members_same c0 c config e (own e refl)) ∙ h))
  turn_back _ calls s held own _ _ (passes e) = passes e
  turn_back _ calls s held own _ _ (exits e a _ (all_done same)) = exits e a None (all_done same)
  turn_back _ calls s held own _ _ (exits e a _ (to_next d k before after ne h)) =
      exits e a (Some (Arriving k)) (to_next d k before after ne (held_in e held s.outer (up c0 config x e s.depth s.outer s.begun ne) d before (k ∷ after) h))
  turn_back _ calls s held own _ _ (exits e a _ (to_holder d before ne h)) =
      exits e a (Some (Leaving d)) (to_holder d before ne (held_in e held s.outer (up c0 config x e s.depth s.outer s.begun ne) d before [] h))
