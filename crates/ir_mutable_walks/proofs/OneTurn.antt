-- One turn in a tree.
use Rattle.std.proofs.Common.{◌≡◌, ℕ, suc, ◌+◌, ◌<◌, List, [], ◌∷◌, ◌++◌, length, Option, Some, None, refl, sym, ap, ◌∙◌, subst, append_assoc}
use Rattle.std.specs.Prelude.{IfSome}
use Rattle.ir_program.specs.Lists.{StandsInside}
use Rattle.ir_program.specs.Preorder.{nodes_inside}
use Rattle.ir_program.specs.Program.{Program}
use Rattle.ir_program.specs.declared.handles.IRNode.{IRNode}
use Rattle.ir_walks.specs.declared.config.Order.{Order}
use Rattle.ir_walks.specs.declared.config.Order.TheVariants.{PreOrder, PostOrder}
use Rattle.ir_walks.specs.declared.config.WalkConfig.{WalkConfig}
use Rattle.ir_walks.specs.declared.results.WalkContinue.{WalkContinue}
use Rattle.ir_walks.specs.declared.turns.Cursor.{Cursor}
use Rattle.ir_walks.specs.declared.turns.Cursor.TheVariants.{Arriving, Leaving}
use Rattle.ir_walks.specs.Levels.{level_of, members}
use Rattle.ir_walks.specs.Turns.{on_arriving, on_leaving, called_at, node_of, to_first, to_end, all_done, to_next, to_holder, IsTurn, enters, passes, exits, IsKnown}
use Rattle.ir_walks.specs.Walks.{Call}
use Rattle.ir_walks.proofs.Holders.{spot}
use Rattle.ir_walks.proofs.Measure.{turns_left, lowers}
use Rattle.ir_walks.proofs.Progress.{Sized, none, more, sized_of, Begun, root, down, Deep, deep, entered, IsSoFar, some_opening, some_walk}
use Rattle.ir_walks.proofs.Trees.{Within, it, deeper, IsTree, tree_of, inside, stands_in, member_within}

-- the node that is called at a place is the one that the walk is at
pub called_is_node : (config : WalkConfig) (at : Cursor) (n : IRNode) → called_at config at ≡ Some n → n ≡ node_of at
called_is_node config (Arriving e) n h = pick (level_of config e).order h where
  pick : (o : Order) → on_arriving o e ≡ Some n → n ≡ e
  pick PreOrder q = cc
  pick PostOrder q = let no : None ≡ Some n = q in cc
called_is_node config (Leaving e) n h = pick (level_of config e).order h where
  pick : (o : Order) → on_leaving o e ≡ Some n → n ≡ e
  pick PreOrder q = let no : None ≡ Some n = q in cc
  pick PostOrder q = cc

pub called_here : (config : WalkConfig) (at : Cursor) (o : Option IRNode) (n : IRNode) → o ≡ called_at config at → o ≡ Some n → called_at config at ≡ Some (node_of at)
called_here config at o n says is = let h : called_at config at ≡ Some n = sym says ∙ is in h ∙ ap Some (called_is_node config at n h)

module _ {O B : Type 0} (c : Program O B) (config : WalkConfig) where
  -- the first of two lists has as many nodes
  sized_before : (before rest es : List IRNode) (n : ℕ) → Sized c config es n → es ≡ before ++ rest → (m : ℕ) × Sized c config before m
  sized_before [] rest es n s h = (0, none)
  sized_before (b ∷ bs) rest _ _ none h = cc
  sized_before (b ∷ bs) rest _ _ (more f fs p q u v) h =
      let same : f ≡ b = cc in
      let later : fs ≡ bs ++ rest = cc in
      let r = sized_before bs rest fs q v later in
      (suc (p + r.0), subst (λ z. Sized c config (z ∷ bs) (suc (p + r.0))) same (more f bs p r.0 u r.1))

  module _ (x : IRNode) (known : IsKnown c x) where
    tree : IsTree c
    tree = tree_of c x known

    sized : Sized c config (x ∷ []) (length (nodes_inside c x))
    sized = sized_of c config (x ∷ []) (nodes_inside c x) known.order

    -- some calls before a walk of x comes to a node
    record SomeBegun (e : IRNode) : Type 0 where
      pub depth : ℕ
      pub so_far : List Call
      pub begun : Begun c config x e depth so_far

    size_in : (e : IRNode) (b : SomeBegun e) → Deep c config x (length (nodes_inside c x)) sized e b.depth
    size_in e b = deep c config x (length (nodes_inside c x)) sized e b.depth b.so_far b.begun

    some_begun : (e : IRNode) → Within c x e → SomeBegun e
    some_begun _ it = record { depth = 0; so_far = []; begun = root }
    some_begun _ (deeper d e k h w) =
        let up : SomeBegun d = some_begun d w in
        let low : Deep c config x (length (nodes_inside c x)) sized d up.depth = size_in d up in
        let s = spot c config d e k h in
        let m = sized_before s.0 (e ∷ s.1) (members c config d) low.size low.sized s.2 in
        let walked = some_walk c config x s.0 m.0 m.1 in
        let os = some_opening c config x d in
        record {
          depth = suc up.depth;
          so_far = up.so_far ++ (os.0 ++ walked.0);
          begun = down d e up.depth s.0 s.1 up.so_far os.0 walked.0 s.2 os.1 walked.1 up.begun;
        }

    some_so_far : (at : Cursor) → Within c x (node_of at) → (cs : List Call) × IsSoFar c config x (Some at) cs
    some_so_far (Arriving e) w = let b : SomeBegun e = some_begun e w in (b.so_far, record { depth = b.depth; begun = b.begun })
    some_so_far (Leaving e) w =
        let b : SomeBegun e = some_begun e w in
        let low : Deep c config x (length (nodes_inside c x)) sized e b.depth = size_in e b in
        let inner = some_walk c config x (members c config e) low.size low.sized in
        let os = some_opening c config x e in (
          b.so_far ++ (os.0 ++ inner.0),
          record {
            depth = b.depth;
            outer = b.so_far;
            mid = os.0 ++ inner.0;
            begun = b.begun;
            within = entered os.0 inner.0 os.1 inner.1;
            parts = refl;
          },
        )

    pub turn_lowers : (at : Cursor) → StandsInside c x (node_of at) → (a : WalkContinue) (next : Option Cursor) → IsTurn c config x at a next → turns_left c config x next < turns_left c config x (Some at)
    turn_lowers at i a next turn =
        let s = some_so_far at (inside c x (node_of at) i) in
        lowers c config tree x (λ e h. known.inside.all e (tree.outside x e h)) (λ k e h. inside c x e (known.inside.inside k e h)) sized at s.0 s.1 a next turn

    holder_within : (d e : IRNode) (before after : List IRNode) → members c config d ≡ before ++ e ∷ after → (e ≡ x → ⊥) → (f : IRNode) → Within c x f → f ≡ e → Within c x d
    holder_within d e before after h ne _ it same = absurd (ne (sym same))
    holder_within d e before after h ne _ (deeper b f j i t) same =
        let s = stands_in c config d e before after h in
        let o : (b ≡ d) × (j ≡ s.0) = tree.once b d j s.0 f i (s.1 ∙ (λ k. Some (sym same k))) in
        subst (Within c x) o.0 t

    pub turn_inside : (at : Cursor) → StandsInside c x (node_of at) → (a : WalkContinue) (next : Option Cursor) → IsTurn c config x at a next → IfSome next (λ to. StandsInside c x (node_of to))
    turn_inside _ i _ _ (enters e _ (to_first k ks h)) = tree.outside x k (member_within c config x e k [] ks h (inside c x e i))
    turn_inside _ i _ _ (enters e _ (to_end h)) = i
    turn_inside _ i _ _ (passes e) = i
    turn_inside _ i _ _ (exits e a _ (all_done same)) = tt
    turn_inside _ i _ _ (exits e a _ (to_next d k before after ne h)) =
        let here : members c config d ≡ (before ++ e ∷ []) ++ k ∷ after = h ∙ sym (append_assoc before (e ∷ []) (k ∷ after)) in
        tree.outside x k (member_within c config x d k (before ++ e ∷ []) after here (holder_within d e before (k ∷ after) h ne e (inside c x e i) refl))
    turn_inside _ i _ _ (exits e a _ (to_holder d before ne h)) = tree.outside x d (holder_within d e before [] h ne e (inside c x e i) refl)
