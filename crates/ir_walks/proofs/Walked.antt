-- The turns of a walk together.
use Rattle.std.proofs.Common.{◌≡◌, List, [], ◌∷◌, ◌++◌, length, Option, Some, None, refl, sym, subst, ◌<◌}
use Rattle.std.specs.declared.ops.ControlFlow.{ControlFlow}
use Rattle.std.specs.declared.ops.ControlFlow.TheVariants.{Continue, Break}
use Rattle.std.proofs.lemmas.List.{append-nil}
use Rattle.ir_program.specs.Lists.{StandsInside, IsLiveNode}
use Rattle.ir_program.specs.Preorder.{nodes_inside}
use Rattle.ir_program.specs.Program.{Program}
use Rattle.ir_program.specs.declared.handles.IRNode.{IRNode}
use Rattle.ir_walks.specs.declared.config.WalkConfig.{WalkConfig}
use Rattle.ir_walks.specs.declared.results.WalkContinue.{WalkContinue}
use Rattle.ir_walks.specs.declared.results.WalkContinue.TheVariants.{Advance}
use Rattle.ir_walks.specs.declared.turns.Cursor.{Cursor}
use Rattle.ir_walks.specs.declared.turns.Cursor.TheVariants.{Arriving, Leaving}
use Rattle.ir_walks.specs.Calls.{Steps, none, one_more, Callback, IsAsked, Answers, BreaksOff, EndsWalk, Visits, IsVisited}
use Rattle.ir_walks.specs.Turns.{called_at, node_of, IsTurn, IsKnown}
use Rattle.ir_walks.specs.Walks.{Call}
use Rattle.ir_walks.proofs.Measure.{turns_left, lowers}
use Rattle.ir_walks.proofs.Ordered.{walk_of}
use Rattle.ir_walks.proofs.Trees.{Within, IsTree, tree_of, inside}
use Rattle.ir_walks.proofs.Progress.{made, Sized, sized_of, IsSoFar, begins, begun_within, goes_on, could_go_on}

-- the one that was called answered so, or none was called
abbrev pub Made : {V : Type 0} → (V → Call → V → Type 0) → Option IRNode → WalkContinue → V → V → Type 0
Made R None a v w = (a ≡ Advance) × (v ≡ w)
Made R (Some node) a v w = R v (node, a) w

steps_made : {V : Type 0} (R : V → Call → V → Type 0) (v : V) (cs : List Call) (w : V) → Steps R v cs w → (o : Option IRNode) (a : WalkContinue) (u : V) → Made R o a w u → Steps R v (cs ++ made o a) u
steps_made R v cs w s None a u m = subst (λ z. Steps R v z u) (sym (append-nil cs)) (subst (Steps R v cs) m.1 s)
steps_made R v cs w s (Some node) a u m = one_more cs w (node, a) u s m

silent_of : {V : Type 0} (R : V → Call → V → Type 0) (o : Option IRNode) (a : WalkContinue) (w u : V) → Made R o a w u → o ≡ None → a ≡ Advance
silent_of R None a w u m h = m.0
silent_of R (Some node) a w u m h = cc

module _ {O B : Type 0} (c : Program O B) (config : WalkConfig) (x : IRNode) where
  -- what was called so far, and where the walk is
  pub record Walking {V : Type 0} (R : V → Call → V → Type 0) (v : V) (at : Option Cursor) (w : V) : Type 0 where
    pub so_far : List Call
    pub ran : Steps R v so_far w
    pub stands : IsSoFar c config x at so_far

  pub starts : {V : Type 0} (R : V → Call → V → Type 0) (v : V) → Walking R v (Some (Arriving x)) v
  starts R v = record { so_far = []; ran = none; stands = begins c config x }

  module _ (known : IsKnown c x) where
    tree : IsTree c
    tree = tree_of c x known

    sized : Sized c config (x ∷ []) (length (nodes_inside c x))
    sized = sized_of c config (x ∷ []) (nodes_inside c x) known.order

    module _ {V : Type 0} (R : V → Call → V → Type 0) (v : V) (o : Option Cursor) (at : Cursor) (is : o ≡ Some at) (w : V) (walking : Walking R v o w) where
      so_far_at : IsSoFar c config x (Some at) walking.so_far
      so_far_at = subst (λ z. IsSoFar c config x z walking.so_far) is walking.stands

      within : (at : Cursor) (cs : List Call) → IsSoFar c config x (Some at) cs → Within c x (node_of at)
      within (Arriving e) cs s = begun_within c config x e s.depth cs s.begun
      within (Leaving e) cs s = begun_within c config x e s.depth s.outer s.begun

      pub stands_inside : StandsInside c x (node_of at)
      stands_inside = tree.outside x (node_of at) (within at walking.so_far so_far_at)

      pub is_live : IsLiveNode c (node_of at)
      is_live = let k = known.inside.all (node_of at) stands_inside in known.inside.live k.0 (node_of at) k.1

      module _ (a : WalkContinue) (u : V) (m : Made R (called_at config at) a w u) (next : Option Cursor) (turn : IsTurn c config x at a next) where
        pub turns : Walking R v next u
        turns = record {
          so_far = walking.so_far ++ made (called_at config at) a;
          ran = steps_made R v walking.so_far w walking.ran (called_at config at) a u m;
          stands = goes_on c config x tree at walking.so_far so_far_at a next turn (silent_of R (called_at config at) a w u m);
        }

        pub turn_lowers : turns_left c config x next < turns_left c config x o
        turn_lowers = subst (λ z. turns_left c config x next < turns_left c config x z) (sym is)
            (lowers c config tree x (λ e h. known.inside.all e (tree.outside x e h)) (λ k e h. inside c x e (known.inside.inside k e h)) sized at walking.so_far so_far_at a next turn)

    module _ {F C S K : Type 0} (g : Callback F C S (ControlFlow K WalkContinue)) (ctx : C) (f : F) (s : S) where
      pub answer_made : (o : Option IRNode) (a : WalkContinue) (f' : F) (s' : S) (f'' : F) (s'' : S) → IsAsked g ctx o (Continue Advance) f' s' (Continue a) f'' s'' → Made (Answers g ctx) o a (f', s') (f'', s'')
      answer_made None a f' s' f'' s'' h = (cc, (λ i. (sym h.1 i, sym h.2 i)))
      answer_made (Some node) a f' s' f'' s'' h = h

      pub ends : (o : Option Cursor) (f' : F) (s' : S) → o ≡ None → Walking (Answers g ctx) (f, s) o (f', s') → EndsWalk c config x g ctx f s (Continue Advance) s'
      ends o f' s' is w = (refl, w.so_far, f', w.ran, walk_of c config tree x w.so_far (subst (λ z. IsSoFar c config x z w.so_far) is w.stands))

      pub breaks : (o : Option Cursor) (at : Cursor) → o ≡ Some at → (f' : F) (s' : S) → Walking (Answers g ctx) (f, s) o (f', s') → (k : K) (f'' : F) (s'' : S) → IsAsked g ctx (called_at config at) (Continue Advance) f' s' (Break k) f'' s'' → BreaksOff c config x g ctx f s k s''
      breaks o at is f' s' w k f'' s'' h = from (called_at config at) refl h where
        from : (n : Option IRNode) → called_at config at ≡ n → IsAsked g ctx n (Continue Advance) f' s' (Break k) f'' s'' → BreaksOff c config x g ctx f s k s''
        from None q h = let no : Break k ≡ Continue Advance = h.0 in cc
        from (Some e) q h =
            let r = could_go_on c config x (length (nodes_inside c x)) sized at w.so_far (subst (λ z. IsSoFar c config x z w.so_far) is w.stands) e q in record {
              calls = w.so_far;
              between = (f', s');
              went_on = w.ran;
              last = e;
              after = f'';
              broke = h;
              answer = r.0;
              rest = r.1;
              begins = walk_of c config tree x (w.so_far ++ (e, r.0) ∷ r.1) r.2;
            }

    module _ {F C S : Type 0} (g : Callback F C S (Unit {0})) (ctx : C) (f : F) (s : S) where
      pub visit_made : (o : Option IRNode) (f' : F) (s' : S) (f'' : F) (s'' : S) → IsAsked g ctx o tt f' s' tt f'' s'' → Made (Visits g ctx) o Advance (f', s') (f'', s'')
      visit_made None f' s' f'' s'' h = (refl, (λ i. (sym h.1 i, sym h.2 i)))
      visit_made (Some node) f' s' f'' s'' h = (refl, h)

      pub visit_ends : (o : Option Cursor) (f' : F) (s' : S) → o ≡ None → Walking (Visits g ctx) (f, s) o (f', s') → IsVisited c config x g ctx f s s'
      visit_ends o f' s' is w = (w.so_far, f', w.ran, walk_of c config tree x w.so_far (subst (λ z. IsSoFar c config x z w.so_far) is w.stands))
