-- What is forwarded to arguments of a chain's later blocks, in the tree of a function and in its flat view.
use Rattle.std.proofs.Common.{◌≡◌, ⊎_elim, inl, inr, ℕ, zero, suc, ◌+◌, ◌-◌, ◌<◌, ◌≤◌, Bool, true, false, List, [], ◌∷◌}
use Rattle.std.proofs.Common.{length, Option, Some, None, refl, sym, ap, ◌∙◌, subst, arith}
use Rattle.std.specs.Prelude.{slice_get, if◌then◌else◌, ◌&&◌}
use Rattle.ir_trees.specs.Names.{Names, Contents}
use Rattle.ir_trees.specs.Renames.{names_of}
use Rattle.ir_trees.specs.Trees.{Head, Blocks, Tree}
use Rattle.opt_trees.specs.Dialect.{Dialect}
use Rattle.opt_trees.specs.Facts.{forwarded}
use Rattle.opt_trees.specs.Occurrences.{Has, picks}
use Rattle.opt_trees.specs.Simplify as trees
use Rattle.opt_trees.specs.Simplify.{all_of, stops, goes_on}
use Rattle.kit_behaviour.specs.Facts.{all_forwarded}
use Rattle.kit_behaviour.specs.Machine.{Plain, Nonzero, Cases, Op, Const, Calc, Emit, Call, Branch, Return, Block, Fun}
use Rattle.kit_behaviour.specs.Machine.{ops_left, left_in, arguments_in}
use Rattle.kit_behaviour.specs.SimplifiedNames.{DefinitionsAreApart}
use Rattle.kit_behaviour.specs.Rules.{EndsWell}
use Rattle.kit_behaviour.specs.Scopes.{In, is_in, defs, all_defs}
use Rattle.kit_behaviour.specs.SimplifiedBlocks.{Reached, last_edge, count_to, edges_in, IsJoinedSet, forwarded_to, IsGivenInChain}
use Rattle.kit_behaviour.specs.SimplifiedBlocks.{StandsForInChain, itself, passed_on, IsLaterArgument}
use Rattle.kit_behaviour.proofs.ControlFlow.ChainLemmas.{gives_unique, last_in, edge_in}
use Rattle.kit_behaviour.proofs.Propagation.ScopeLemmas.{in_split}
use Rattle.kit_views.specs.Reading.{Reading}
use Rattle.kit_views.specs.FlatView.{IsSameness, IsOp, names_in}
use Rattle.kit_views.proofs.Dets.{picks_range}
use Rattle.kit_views.proofs.Forwarded.{forwarded_at, get_right}
use Rattle.kit_views.proofs.Lists.{in_has, has_in, has_get, at_has}
use Rattle.kit_views.proofs.Read.{Reads}
use Rattle.kit_views.proofs.Standing.{whole, Given, block_pair, back, arguments_are, one_block, not_both, held}
use Rattle.kit_views.proofs.Uses.{and_both, and_left, and_right}
use Rattle.kit_views.proofs.JoinableBoth.{JoinableThere, FlatEnd, flat_end, end_edges, lone_forwarding, to_flat_join}
use Rattle.kit_views.proofs.JoinableBoth.{to_tree_join}
use Rattle.kit_views.proofs.ChainedTree.{name_at, last_range, range}

in_to_has : {V : Type 0} (v : V) (xs : List V) → In v xs → Has v xs
in_to_has v [] h = h
in_to_has v (x ∷ xs) h = ⊎_elim (λ e. inl e) (λ k. inr (in_to_has v xs k)) h

has_to_in : {V : Type 0} (v : V) (xs : List V) → Has v xs → In v xs
has_to_in v [] h = h
has_to_in v (x ∷ xs) h = ⊎_elim (λ e. inl e) (λ k. inr (has_to_in v xs k)) h

-- 1. what is forwarded

module _ {N : Names} {S : Contents} {A : Type 0} (d : Dialect S A) (r : Reading S) (law : Reads d r) (h : Head N S)
    (bs : Tree N S Blocks) (f : Fun N.value) (given : Given r h bs f) (ssa : d.is_ssa h.content 0 ≡ true)
    (good_ends : (b : ℕ) → b < length f → EndsWell (left_in (Some f) b 0))
    (all_reached : (b : ℕ) → b < length f → Reached (Some f) b) (j : ℕ → Bool) (is_taken : IsJoinedSet (Some f) j) where
  abbrev There : N.block → N.block → Type 0
  There = JoinableThere d r law h bs f given ssa good_ends all_reached

  abbrev End_of : (n m : N.block) → There n m → Type 0
  End_of n m x = FlatEnd d r law h bs f given ssa good_ends all_reached x.last n m

  abbrev GivenThere : N.value → N.value → Type 0
  GivenThere v u = trees.IsGiven d (all_of (whole r h bs f)) (whole r h bs f) v u

  -- the last operation of a block forwards what its edge does
  head_forwards : (n m : N.block) (x : There n m) (q : End_of n m x) → forwarded d x.last.head 0 ≡ q.e.forwards
  head_forwards n m x q =
      let w = lone_forwarding d r law h bs f given ssa good_ends all_reached x.last.head q.op q.e q.is q.alone in
      ap (picks x.last.head.operands) (w.1.forwards 0 q.e refl)
      ∙ picks_range x.last.head.operands q.e.forwards (length w.0) (λ p i u is e.
      ap (λ z. slice_get z i) w.1.operands
      ∙ get_right w.0 (all_forwarded (q.e ∷ [])) i (i - length w.0) u (omega (arith, e))
      (forwarded_at (q.e ∷ []) (length w.0) 0 p (i - length w.0) q.e u refl is (omega (arith, e))))

  -- it is the one edge to the block
  edge_forwards : (n m : N.block) (x : There n m) (q : End_of n m x) (t : ℕ) → slice_get (names_in bs) t ≡ Some m →
      forwarded_to t (edges_in (Some f)) ≡ q.e.forwards
  edge_forwards n m x q t e =
      let y = to_flat_join d r law h bs f given ssa good_ends all_reached n m x q.place t q.name e in
      let l = end_edges d r law h bs f given ssa good_ends all_reached n m x.last q in
      let le : count_to t (edges_in (Some f)) ≤ 1 = omega (arith, y.single) in
      let last : last_edge (left_in (Some f) q.place 0) ≡ Some q.e = ap (λ o. last_edge (ops_left o 0)) q.at ∙ l.0 in
      gives_unique t q.e (edges_in (Some f)) le (edge_in (Some f) q.e q.place
      (last_in (left_in (Some f) q.place 0) q.e last)) (given.blocks q.e.target t m q.target e)

  to_flat_given : (v u : N.value) → GivenThere v u → IsGivenInChain j (Some f) v u
  to_flat_given v u g =
      let q = flat_end d r law h bs f given ssa good_ends all_reached g.from g.to g.joins in
      let y = block_pair r h bs f given g.joins.target g.joins.target_stands in
      let name : slice_get (names_in bs) y.place ≡ Some g.to = y.same.name ∙ ap Some g.joins.target_name in
      record {
        block = y.place;
        later = is_taken.back q.place y.place (to_flat_join d r law h bs f given ssa good_ends all_reached g.from g.to
            g.joins q.place y.place q.name name);
        place = g.place;
        takes = ap (λ z. slice_get z g.place) (sym (arguments_are r h bs f given g.joins.target g.joins.target_stands
            y.place y.same.name)) ∙ g.takes;
        gives = ap (λ z. slice_get z g.place) (edge_forwards g.from g.to g.joins q y.place name
            ∙ sym (head_forwards g.from g.to g.joins q)) ∙ g.gives;
      }

  to_tree_given : (v u : N.value) → IsGivenInChain j (Some f) v u → GivenThere v u
  to_tree_given v u g =
      let x = is_taken.there g.block g.later in
      let n = name_at r (names_in bs) bs f given.are x.0 (last_range f x.0 x.1.edge x.1.last) in
      let m = name_at r (names_in bs) bs f given.are g.block
      (range d r law h bs f given ssa good_ends all_reached j is_taken x.0 g.block x.1) in
      let y = to_tree_join d r law h bs f given ssa good_ends all_reached x.0 g.block x.1 n.0 m.0 n.1 m.1 in
      let q = flat_end d r law h bs f given ssa good_ends all_reached n.0 m.0 y in
      record {
        from = n.0;
        to = m.0;
        joins = y;
        place = g.place;
        takes = ap (λ z. slice_get z g.place) (arguments_are r h bs f given y.target y.target_stands g.block
            (m.1 ∙ ap Some (sym y.target_name))) ∙ g.takes;
        gives = ap (λ z. slice_get z g.place) (head_forwards n.0 m.0 y q ∙ sym (edge_forwards n.0 m.0 y q g.block m.1))
            ∙ g.gives;
      }

  pub stands_for : (v u : N.value) → trees.Follows d (all_of (whole r h bs f)) (whole r h bs f) v u →
      StandsForInChain j (Some f) v u
  stands_for _ _ (stops v none) = itself v v (λ w g. none w (to_tree_given v w g)) refl
  stands_for _ _ (goes_on v u x g m) = passed_on v u x (to_flat_given v u g) (stands_for u x m)

-- 2. arguments of later blocks, and that no value is defined twice

module _ {V : Type 0} (same : V → V → Bool) (law : IsSameness same) (j : ℕ → Bool) (v : V) where
  gone_in : ℕ → List (Block V) → Bool
  gone_in i [] = false
  gone_in i (k ∷ ks) = if j i && is_in same v k.arguments then true else gone_in (suc i) ks

  gone_there : (i : ℕ) (ks : List (Block V)) → gone_in i ks ≡ true →
      (m : ℕ) × (j (i + m) ≡ true) × Has v (arguments_in (Some ks) m)
  unfolding gone_in
  gone_there i [] e = absurd (cc e)
  gone_there i (k ∷ ks) e = by_test (j i && is_in same v k.arguments) refl e (gone_there (suc i) ks)
    where
      by_test : (b : Bool) → j i && is_in same v k.arguments ≡ b → (if b then true else gone_in (suc i) ks) ≡ true →
          (gone_in (suc i) ks ≡ true → (m : ℕ) × (j (suc i + m) ≡ true) × Has v (arguments_in (Some ks) m)) →
          (m : ℕ) × (j (i + m) ≡ true) × Has v (arguments_in (Some (k ∷ ks)) m)
      by_test true q w ih = let z : i + 0 ≡ i = omega arith in (
        0,
        ap j z ∙ and_left (j i) (is_in same v k.arguments) q,
        in_has same law v k.arguments (and_right (j i) (is_in same v k.arguments) q),
      )
      by_test false q w ih = let m = ih w in let z : i + suc m.0 ≡ suc i + m.0 =
          omega arith in (suc m.0, ap j z ∙ m.1, m.2)

  gone_back : (i : ℕ) (ks : List (Block V)) (m : ℕ) → j (i + m) ≡ true → Has v (arguments_in (Some ks) m) →
      gone_in i ks ≡ true
  unfolding gone_in
  gone_back i [] m e w = absurd w
  gone_back i (k ∷ ks) zero e w =
      let z : i ≡ i + 0 = omega arith in
      ap (λ b. if b then true else gone_in (suc i) ks) (and_both (j i) (is_in same v k.arguments) (ap j z ∙ e)
      (has_in same law v k.arguments w))
  gone_back i (k ∷ ks) (suc m) e w =
      let z : suc i + m ≡ i + suc m = omega arith in
      step (j i && is_in same v k.arguments) (gone_back (suc i) ks m (ap j z ∙ e) w)
    where
      step : (b : Bool) → gone_in (suc i) ks ≡ true → (if b then true else gone_in (suc i) ks) ≡ true
      step true q = refl
      step false q = q

module _ {V : Type 0} (same : V → V → Bool) (law : IsSameness same) (j : ℕ → Bool) (f : List (Block V)) where
  pub gone : V → Bool
  gone v = gone_in same law j v 0 f

  pub later_there : (v : V) → gone v ≡ true → IsLaterArgument j (Some f) v
  unfolding gone
  later_there v e =
      let m = gone_there same law j v 0 f e in
      let z : 0 + m.0 ≡ m.0 = omega arith in
      (m.0, ap j (sym z) ∙ m.1, has_to_in v (arguments_in (Some f) m.0) m.2)

  pub later_back : (v : V) → IsLaterArgument j (Some f) v → gone v ≡ true
  unfolding gone
  later_back v w = let z : 0 + w.0 ≡ w.0 = omega arith in gone_back same law j v 0 f w.0 (ap j z ∙ w.1)
      (in_to_has v (arguments_in (Some f) w.0) w.2)

results_are : {N : Names} {S : Contents} (r : Reading S) (names : List N.block) (o : Head N S) (p : Op N.value) →
    IsOp r names o p → names_of o.results ≡ defs p
results_are r names o (Const v n) is = is.0.results
results_are r names o (Calc a w v x y) is = is.0.results
results_are r names o (Emit x) is = is.results
results_are r names o (Call rs c xs) is = is.0.results
results_are r names o (Branch Plain xs e es) is = is.0.results
results_are r names o (Branch Nonzero xs e es) is = is.0.results
results_are r names o (Branch (Cases ns) xs e es) is = absurd is
results_are r names o (Return xs) is = is.results

module _ {N : Names} {S : Contents} (r : Reading S) (h : Head N S) (bs : Tree N S Blocks) (f : Fun N.value)
    (given : Given r h bs f) where
  record Result (v : N.value) (ps : List (Op N.value)) : Type 0 where
    op : Op N.value
    stands : Has op ps
    has : In v (defs op)

  a_result : (v : N.value) (ps : List (Op N.value)) → In v (all_defs ps) → Result v ps
  a_result v [] i = absurd i
  a_result v (p ∷ ps) i =
      ⊎_elim (λ k. record { op = p; stands = inl refl; has = k })
      (λ k. let q = a_result v ps k in record { op = q.op; stands = inr q.stands; has = q.has })
      (in_split v (defs p) (all_defs ps) i)

  pub are_apart : DefinitionsAreApart (Some f)
  are_apart = record {
    arguments = λ b c v i k.
        let x = at_has (arguments_in (Some f) b) v (in_to_has v (arguments_in (Some f) b) i) in
        let y = at_has (arguments_in (Some f) c) v (in_to_has v (arguments_in (Some f) c) k) in
        let p = held r h bs f given b x.place v x.is in
        let q = held r h bs f given c y.place v y.is in
        let e = one_block r h bs f given p.it q.it v p.stands q.stands
        (subst (Has v) (sym p.arguments) (has_get (arguments_in (Some f) b) x.place v x.is))
        (subst (Has v) (sym q.arguments) (has_get (arguments_in (Some f) c) y.place v y.is)) in
        given.blocks b c q.it.label.name (p.name ∙ ap (λ z. Some z) (ap (λ z. z.label.name) e)) q.name;
    results = λ b c v i k. by_block b c v i (slice_get f c) refl k;
  }
    where
      by_block : (b c : ℕ) (v : N.value) → In v (arguments_in (Some f) b) → (o : Option (Block N.value)) →
          slice_get f c ≡ o → In v (all_defs (ops_left o 0)) → ⊥
      by_block b c v i None e k = k
      by_block b c v i (Some z) e k =
          let x = at_has (arguments_in (Some f) b) v (in_to_has v (arguments_in (Some f) b) i) in
          let p = held r h bs f given b x.place v x.is in
          let y = a_result v z.ops k in
          let q = back r h bs f given c z y.op e y.stands in
          not_both r h bs f given q.it p.it v q.stands p.stands
          (subst (Has v) (sym (results_are r (names_in bs) q.it.head y.op q.is)) (in_to_has v (defs y.op) y.has))
          (subst (Has v) (sym p.arguments) (has_get (arguments_in (Some f) b) x.place v x.is))
