-- Where each node is called after what stands in it, the calls are those of a walk of the first tree: what is still to be called, and what
-- holds that, is as it was.
use Rattle.std.proofs.Common.{◌≡◌, ◌⊎◌, inl, inr, ⊎_elim, ℕ, zero, suc, ◌<◌, List, [], ◌∷◌, ◌++◌, length, slice_get, Option, Some, None, refl, sym, ap, ◌∙◌, subst, arith}
use Rattle.std.proofs.lemmas.Option.{slice_get_within}
use Rattle.ir_program.specs.Preorder.{nodes_in}
use Rattle.ir_program.specs.Program.{Program}
use Rattle.ir_program.specs.declared.handles.IRNode.{IRNode}
use Rattle.ir_walks.specs.declared.config.Order.TheVariants.{PreOrder, PostOrder}
use Rattle.ir_walks.specs.declared.config.WalkConfig.{WalkConfig}
use Rattle.ir_walks.specs.declared.results.WalkContinue.{WalkContinue}
use Rattle.ir_walks.specs.declared.results.WalkContinue.TheVariants.{Advance}
use Rattle.ir_walks.specs.declared.turns.Cursor.{Cursor}
use Rattle.ir_walks.specs.declared.turns.Cursor.TheVariants.{Arriving, Leaving}
use Rattle.ir_walks.specs.Levels.{IsCalledFirst, level_of, members}
use Rattle.ir_walks.specs.Turns.{on_arriving, called_at, node_of, IsTurn, IsKnown}
use Rattle.ir_walks.specs.Walks.{Call, IsWalk, nothing, skipped, first, last}
use Rattle.ir_walks.proofs.Measure.{same_node}
use Rattle.ir_walks.proofs.Ordered.{WithinOne, each_within}
use Rattle.ir_walks.proofs.Progress.{Opens, called_before, not_before, Begun, root, down, Mid, passed, entered, IsSoFar, IsLeaving, begins}
use Rattle.ir_walks.proofs.Sequences.{OfEach, at_seam, directed_at}
use Rattle.ir_walks.proofs.Trees.{Within, it, deeper, IsTree, tree_of, through, member_within, disjoint, below_apart}
use Rattle.ir_mutable_walks.specs.Ends.{HasOrder}
use Rattle.ir_mutable_walks.specs.Passes.{Leaves}
use Rattle.ir_mutable_walks.specs.Ways.{Way, start, silent, called}
use Rattle.ir_mutable_walks.proofs.Along.{Keeping, known_along}
use Rattle.ir_mutable_walks.proofs.Moved.{get_left}
use Rattle.ir_mutable_walks.proofs.OneTurn.{called_is_node}
use Rattle.ir_mutable_walks.proofs.SoFar.{has_order, on_silently, on_called, at_within, turn_back}
use Rattle.ir_mutable_walks.proofs.Stays.{same_if_inside, same_outside}

-- the node was called
abbrev Among : List Call → IRNode → Type 0
Among [] e = ⊥
Among (call ∷ calls) e = (call.0 ≡ e) ⊎ Among calls e

among_append : (xs ys : List Call) (e : IRNode) → Among (xs ++ ys) e → Among xs e ⊎ Among ys e
among_append [] ys e m = inr m
among_append (x ∷ xs) ys e m = ⊎_elim (λ s. inl (inl s)) (λ n. ⊎_elim (λ l. inl (inr l)) (λ r. inr r) (among_append xs ys e n)) m

among_left : (xs ys : List Call) (e : IRNode) → Among xs e → Among (xs ++ ys) e
among_left [] ys e m = absurd m
among_left (x ∷ xs) ys e m = ⊎_elim (λ s. inl s) (λ n. inr (among_left xs ys e n)) m

among_right : (xs ys : List Call) (e : IRNode) → Among ys e → Among (xs ++ ys) e
among_right [] ys e m = m
among_right (x ∷ xs) ys e m = inr (among_right xs ys e m)

of_called : (P : IRNode → Type 0) (calls : List Call) → OfEach (λ (d : Call). P d.0) calls → (e : IRNode) → Among calls e → P e
of_called P [] each e m = absurd m
of_called P (call ∷ calls) each e m = ⊎_elim (λ s. subst P s each.0) (λ n. of_called P calls each.1 e n) m

-- a node stands in an earlier one than another, among those in one that holds both
record Earlier {O B : Type 0} (c : Program O B) (config : WalkConfig) (b e : IRNode) : Type 0 where
  pub holder : IRNode
  pub one : IRNode
  pub two : IRNode
  pub place : ℕ
  pub later : ℕ
  pub at_one : slice_get (members c config holder) place ≡ Some one
  pub at_two : slice_get (members c config holder) later ≡ Some two
  pub differ : place ≡ later → ⊥
  pub has_b : Within c one b
  pub has_e : Within c two e

module _ {O B : Type 0} (c : Program O B) (config : WalkConfig) (post : HasOrder config PostOrder) where
  never_first : (e : IRNode) → IsCalledFirst config e → ⊥
  never_first e p = let no : PreOrder ≡ PostOrder = sym p ∙ has_order config PostOrder post e in cc

  -- in a walk of these nodes each of them is called
  all_called : (es : List IRNode) (cs : List Call) → IsWalk c config es cs → (k : ℕ) (e : IRNode) → slice_get es k ≡ Some e → Among cs e
  all_called _ _ nothing k e h = let no : None ≡ Some e = h in cc
  all_called _ _ (skipped f fs rest p w) k e h = absurd (never_first f p)
  all_called _ _ (first f fs inner rest p i w) k e h = absurd (never_first f p)
  all_called _ _ (last f fs inner rest a p i w) zero e h = let s : f ≡ e = cc in among_right inner ((f, a) ∷ rest) e (inl s)
  all_called _ _ (last f fs inner rest a p i w) (suc k) e h = among_right inner ((f, a) ∷ rest) e (inr (all_called fs rest w k e h))

  -- with a node also what stands in it is called
  called_down : (es : List IRNode) (cs : List Call) → IsWalk c config es cs → (d : IRNode) → Among cs d → (k : ℕ) (e : IRNode) → slice_get (members c config d) k ≡ Some e → Among cs e
  called_down _ _ nothing d m k e h = absurd m
  called_down _ _ (skipped f fs rest p w) d m k e h = absurd (never_first f p)
  called_down _ _ (first f fs inner rest p i w) d m k e h = absurd (never_first f p)
  called_down _ _ (last f fs inner rest a p i w) d m k e h = ⊎_elim
      (λ l. among_left inner ((f, a) ∷ rest) e (called_down (members c config f) inner i d l k e h))
      (λ r. ⊎_elim
      (λ s. among_left inner ((f, a) ∷ rest) e (all_called (members c config f) inner i k e (subst (λ z. slice_get (members c config z) k ≡ Some e) (sym s) h)))
      (λ t. among_right inner ((f, a) ∷ rest) e (inr (called_down fs rest w d t k e h))) r)
      (among_append inner ((f, a) ∷ rest) d m)

  opens_nothing : (e : IRNode) (cs : List Call) → Opens c config e cs → (d : IRNode) → Among cs d → ⊥
  opens_nothing e _ (called_before p) d m = never_first e p
  opens_nothing e _ (not_before p) d m = m

  further : (b g f : IRNode) (before after : List IRNode) → members c config g ≡ before ++ f ∷ after → Earlier c config b g → Earlier c config b f
  further b g f before after s r = record {
    holder = r.holder;
    one = r.one;
    two = r.two;
    place = r.place;
    later = r.later;
    at_one = r.at_one;
    at_two = r.at_two;
    differ = r.differ;
    has_b = r.has_b;
    has_e = member_within c config r.two g f before after s r.has_e;
  }

  nearest : (b g f : IRNode) (before after : List IRNode) → members c config g ≡ before ++ f ∷ after → WithinOne c before b → Earlier c config b f
  nearest b g f before after s m =
      let lower : m.place < length before = slice_get_within before m.place m.one m.here in
      record {
        holder = g;
        one = m.one;
        two = f;
        place = m.place;
        later = length before;
        at_one = ap (λ es. slice_get es m.place) s ∙ get_left before (f ∷ after) m.place m.one m.here;
        at_two = ap (λ es. slice_get es (length before)) s ∙ at_seam before f after;
        differ = λ q. (let t : m.place ≡ length before = q in absurd (omega (arith, lower, t)));
        has_b = m.within;
        has_e = it;
      }

  module _ (x : IRNode) where
    -- also before a walk of x comes to a node
    begun_down : (f : IRNode) (depth : ℕ) (cs : List Call) → Begun c config x f depth cs → (d : IRNode) → Among cs d → (k : ℕ) (e : IRNode) → slice_get (members c config d) k ≡ Some e → Among cs e
    begun_down _ _ _ root d m k e h = absurd m
    begun_down _ _ _ (down g f depth before after outer opening walked s o w b) d m k e h = ⊎_elim
        (λ l. among_left outer (opening ++ walked) e (begun_down g depth outer b d l k e h))
        (λ r. among_right outer (opening ++ walked) e (⊎_elim
        (λ n. absurd (opens_nothing g opening o d n))
        (λ t. among_right opening walked e (called_down before walked w d t k e h))
        (among_append opening walked d r)))
        (among_append outer (opening ++ walked) d m)

    begun_earlier : (f : IRNode) (depth : ℕ) (cs : List Call) → Begun c config x f depth cs → (b : IRNode) → Among cs b → Earlier c config b f
    begun_earlier _ _ _ root b m = absurd m
    begun_earlier _ _ _ (down g f depth before after outer opening walked s o w begun) b m = ⊎_elim
        (λ l. further b g f before after s (begun_earlier g depth outer begun b l))
        (λ r. ⊎_elim (λ n. absurd (opens_nothing g opening o b n)) (λ t. nearest b g f before after s (of_called (λ z. WithinOne c before z) walked (each_within c config before walked w) b t)) (among_append opening walked b r))
        (among_append outer (opening ++ walked) b m)

    -- what is called of a node before it is left: all that stands in it
    record Inner (e : IRNode) (mid : List Call) : Type 0 where
      pub walk : IsWalk c config (members c config e) mid

    inner_of : (e : IRNode) (mid : List Call) → Mid c config e mid → Inner e mid
    inner_of e _ (passed p) = absurd (never_first e p)
    inner_of e _ (entered os inner o w) = from os o where
      from : (zs : List Call) → Opens c config e zs → Inner e (zs ++ inner)
      from _ (called_before p) = absurd (never_first e p)
      from _ (not_before p) = record { walk = w }

    module _ (tree : IsTree c) where
      earlier_apart : (b e : IRNode) → Earlier c config b e → Within c b e → ⊥
      earlier_apart b e r w = disjoint c config tree r.holder r.one r.two e r.place r.later r.at_one r.at_two r.differ (through c r.one b e r.has_b w) r.has_e

      -- neither the node that the walk is at was called, nor one that holds it
      not_above : (at : Cursor) (cs : List Call) → IsSoFar c config x (Some at) cs → (b : IRNode) → Within c b (node_of at) → Among cs b → ⊥
      not_above (Arriving e) cs s b w m = earlier_apart b e (begun_earlier e s.depth cs s.begun b m) w
      not_above (Leaving e) cs s b w m =
          let i : Inner e s.mid = inner_of e s.mid s.within in
          ⊎_elim
          (λ l. earlier_apart b e (begun_earlier e s.depth s.outer s.begun b l) w)
          (λ r. in_itself (of_called (λ z. WithinOne c (members c config e) z) s.mid (each_within c config (members c config e) s.mid i.walk) b r))
          (among_append s.outer s.mid b (subst (λ zs. Among zs b) s.parts m))
        where
          in_itself : WithinOne c (members c config e) b → ⊥
          in_itself o = below_apart c config tree e o.one b o.place o.here o.within w

      -- while a walk leaves a node: with a node also what stands in it was called, and so was what stands in the node that is left
      left_down : (f : IRNode) (cs : List Call) → IsLeaving c config x f cs → (d : IRNode) → Among cs d → (k : ℕ) (e : IRNode) → slice_get (nodes_in c d) k ≡ Some e → Among cs e
      left_down f cs s d m k e h =
          let i : Inner f s.mid = inner_of f s.mid s.within in
          let j = directed_at (level_of config d).direction (nodes_in c d) k e h in
          subst (λ zs. Among zs e) (sym s.parts) (⊎_elim
          (λ l. among_left s.outer s.mid e (begun_down f s.depth s.outer s.begun d l j.0 e j.1))
          (λ r. among_right s.outer s.mid e (called_down (members c config f) s.mid i.walk d r j.0 e j.1))
          (among_append s.outer s.mid d (subst (λ zs. Among zs d) s.parts m)))

      left_own : (f : IRNode) (cs : List Call) → IsLeaving c config x f cs → (k : ℕ) (e : IRNode) → slice_get (nodes_in c f) k ≡ Some e → Among cs e
      left_own f cs s k e h =
          let i : Inner f s.mid = inner_of f s.mid s.within in
          let j = directed_at (level_of config f).direction (nodes_in c f) k e h in
          subst (λ zs. Among zs e) (sym s.parts) (among_right s.outer s.mid e (all_called (members c config f) s.mid i.walk j.0 e j.1))

-- a call at n, which the walk leaves, in a later tree than the first: c0 is the first, c the tree of the call, and what wasn't called so
-- far has the same in it in both
module _ {O B : Type 0} (c0 c new : Program O B) (config : WalkConfig) (post : HasOrder config PostOrder) (x n : IRNode) (tree0 : IsTree c0) (leaves : Leaves x c new n) (cs : List Call) (s : IsLeaving c0 config x n cs)
    (alike : (e : IRNode) → Within c0 x e → (Among cs e → ⊥) → nodes_in c e ≡ nodes_in c0 e) where
  tree : IsTree c
  tree = tree_of c x leaves.before

  holder_fresh : (d e : IRNode) (k : ℕ) → slice_get (nodes_in c0 d) k ≡ Some e → (Among cs e → ⊥) → Among cs d → ⊥
  holder_fresh d e k h fresh m = fresh (left_down c0 config post x tree0 n cs s d m k e h)

  still_in : (e : IRNode) → Within c0 x e → (Among cs e → ⊥) → Within c x e
  still_in _ it fresh = it
  still_in _ (deeper d e k h w) fresh =
      let up : Among cs d → ⊥ = holder_fresh d e k h fresh in
      deeper d e k (ap (λ es. slice_get es k) (alike d w up) ∙ h) (still_in d w up)

  n_fresh : (b : IRNode) → Within c0 b n → Among cs b → ⊥
  n_fresh b w m = not_above c0 config post x tree0 (Leaving n) cs s b w m

  not_below : (e : IRNode) → Within c0 x e → (Among cs e → ⊥) → (n ≡ e → ⊥) → Within c n e → ⊥
  not_below _ it fresh ne w = ne (same_if_inside c tree n x w (still_in n (at_within c0 config x (Leaving n) cs s) (n_fresh n it)))
  not_below _ (deeper d e k h i) fresh ne w = from (λ up q v. not_below d i up q v) e w refl where
    from : ((Among cs d → ⊥) → (n ≡ d → ⊥) → Within c n d → ⊥) → (f : IRNode) → Within c n f → f ≡ e → ⊥
    from higher _ it q = ne q
    from higher _ (deeper b f j t v) q =
        let up : Among cs d → ⊥ = holder_fresh d e k h fresh in
        let at_d : slice_get (nodes_in c d) k ≡ Some e = ap (λ es. slice_get es k) (alike d i up) ∙ h in
        let o : (b ≡ d) × (j ≡ k) = tree.once b d j k e (t ∙ ap Some q) at_d in
        ⊎_elim
        (λ r. fresh (left_own c0 config post x tree0 n cs s k e (subst (λ z. slice_get (nodes_in c0 z) k ≡ Some e) (sym r) h)))
        (λ r. higher up r (subst (Within c n) o.0 v))
        (same_node n d)

  -- so what isn't called either now, has the same in it afterwards
  pub alike_after : (a : WalkContinue) (e : IRNode) → Within c0 x e → (Among (cs ++ (n, a) ∷ []) e → ⊥) → nodes_in new e ≡ nodes_in c0 e
  alike_after a e w fresh =
      let before : Among cs e → ⊥ = λ m. fresh (among_left cs ((n, a) ∷ []) e m) in
      let other : n ≡ e → ⊥ = λ q. fresh (among_right cs ((n, a) ∷ []) e (inl q)) in
      same_outside x c new leaves.before n leaves.below e (still_in e w before) (not_below e w before other) ∙ alike e w before

  pub holder_alike : (a : WalkContinue) (d : IRNode) (k : ℕ) → Within c0 x d → slice_get (nodes_in c0 d) k ≡ Some n → nodes_in new d ≡ nodes_in c0 d
  holder_alike a d k w h = alike_after a d w (λ m. ⊎_elim
      (λ l. n_fresh d (deeper d n k h it) l)
      (λ r. ⊎_elim (λ q. tree0.apart d n k h (subst (Within c0 n) q it)) (λ no. no) r)
      (among_append cs ((n, a) ∷ []) d m))

module _ {O B V : Type 0} (tree : V → Program O B) (Made : V → Call → V → Type 0) (config : WalkConfig) (x : IRNode) (v : V) (known : IsKnown (tree v) x) (post : HasOrder config PostOrder) where
  tree0 : IsTree (tree v)
  tree0 = tree_of (tree v) x known

  -- what was called so far, and that all else is as in the first tree
  pub record Untouched (calls : List Call) (at : Option Cursor) (w : V) : Type 0 where
    pub so_far : IsSoFar (tree v) config x at calls
    pub alike : (e : IRNode) → Within (tree v) x e → (Among calls e → ⊥) → nodes_in (tree w) e ≡ nodes_in (tree v) e

  after : (calls : List Call) (at : Cursor) (w : V) → Untouched calls (Some at) w → (n : IRNode) → called_at config at ≡ Some n → (a : WalkContinue) (u : V) → Leaves x (tree w) (tree u) n → (next : Option Cursor) → IsTurn (tree u) config x at a next → Untouched (calls ++ (n, a) ∷ []) next u
  after calls (Arriving e) w r n s a u leaves next turn = let no : None ≡ Some n = subst (λ o. on_arriving o e ≡ Some n) (has_order config PostOrder post e) s in cc
  after calls (Leaving e) w r n s a u leaves next turn =
      let is : n ≡ e = called_is_node config (Leaving e) n s in
      let here : IsLeaving (tree v) config x n calls = subst (λ z. IsLeaving (tree v) config x z calls) (sym is) r.so_far in
      let back = turn_back (tree v) (tree u) config x tree0 (tree_of (tree u) x leaves.after) (Leaving e) calls r.so_far
      (λ d k i h. holder_alike (tree v) (tree w) (tree u) config post x n tree0 leaves calls here r.alike a d k i (h ∙ ap Some (sym is)))
      (λ f q. cc) a next turn in
      record {
        so_far = on_called (tree v) config x known (Leaving e) calls r.so_far n s a next back;
        alike = alike_after (tree v) (tree w) (tree u) config post x n tree0 leaves calls here r.alike a;
      }

  pub untouched : (calls : List Call) (at : Option Cursor) (w : V) → Way tree (Keeping tree Made x) config x v calls at w → Untouched calls at w
  untouched _ _ _ start = record { so_far = begins (tree v) config x; alike = λ e i fresh. refl }
  untouched _ _ _ (silent calls at w next way s turn) =
      let r : Untouched calls (Some at) w = untouched calls (Some at) w way in
      let now : IsTree (tree w) = tree_of (tree w) x (known_along tree Made config x v known calls (Some at) w way) in
      let fresh : (b : IRNode) → Within (tree v) b (node_of at) → Among calls b → ⊥ = λ b i m. not_above (tree v) config post x tree0 at calls r.so_far b i m in
      let back = turn_back (tree v) (tree w) config x tree0 now at calls r.so_far
      (λ d k i h. r.alike d i (λ m. fresh d (deeper d (node_of at) k h it) m))
      (λ e q. let own : node_of at ≡ e = ap node_of q in r.alike e (subst (Within (tree v) x) own (at_within (tree v) config x at calls r.so_far)) (λ m. fresh e (subst (Within (tree v) e) (sym own) it) m))
      Advance next turn in
      record { so_far = on_silently (tree v) config x known at calls r.so_far s next back; alike = r.alike }
  untouched _ _ _ (called calls at w n a u next way s made turn) = after calls at w (untouched calls (Some at) w way) n s a u made.1 next turn
