-- The most precise facts leave no operand undetermined in a block that they know to run: else fewer blocks would do.
use Rattle.std.proofs.Common.{◌≡◌, ⊎_elim, ℕ, zero, suc, Bool, true, false, List, [], ◌∷◌, ◌++◌, Option, Some, None, refl, ap, ◌∙◌}
use Rattle.std.specs.Prelude.{◌&&◌}
use Rattle.kit_behaviour.specs.Machine.{AllEdges, edge_at, chosen, Select, Arith, Edge, Op, Const, Calc, Emit, Call, Branch, Return, Fun, left_in, arguments_in, calc}
use Rattle.kit_behaviour.specs.Facts.{Knows, Lacks, Numbers, Open, branch_knows, Fact, Undetermined, Known, Unknown, FactAtOrBelow, fold_known, folds_to, FunctionFacts, AllUnknown, AllFactsAtOrBelow, EdgeClosedIn, BranchClosedIn, OpClosed, OpsClosed, AreClosedFacts, AreMostPreciseFacts}
use Rattle.kit_behaviour.specs.Scopes.{In, AllIn, defs, all_defs, entry_values, at_start, SameLength, EdgeScoped, OpScoped, OpsWith, BlocksWith}
use Rattle.kit_behaviour.specs.Rules.{Rules}
use Rattle.kit_behaviour.specs.Places.{Place}
use Rattle.kit_behaviour.proofs.Numbering.RuleLemmas.{rules_scoped}
use Rattle.kit_behaviour.proofs.Propagation.FactsAfterwards.{and_true, and_first, and_second}
use Rattle.kit_behaviour.proofs.Propagation.ScopeLemmas.{in_split}
use Rattle.kit_behaviour.proofs.Behaviour.EdgeLemmas.{edges_two}

abbrev pub determined : Fact → Bool
determined Undetermined = false
determined (Known n) = true
determined Unknown = true

det_below : (x y : Fact) → FactAtOrBelow x y → determined y ≡ true → determined x ≡ true
det_below Unknown y h d = refl
det_below (Known n) y h d = refl
det_below Undetermined Undetermined h d = d
det_below Undetermined (Known n) h d = absurd h
det_below Undetermined Unknown h d = absurd h

det_fold : (o : Option ℕ) → determined (fold_known o) ≡ true
det_fold None = refl
det_fold (Some n) = refl

det_folds : (a : Arith) (w : ℕ) (x y : Fact) → determined x ≡ true → determined y ≡ true → determined (folds_to a w x y) ≡ true
det_folds a w Undetermined y d e = absurd (cc d)
det_folds a w (Known n) Undetermined d e = absurd (cc e)
det_folds a w Unknown Undetermined d e = absurd (cc e)
det_folds a w (Known n) (Known m) d e = det_fold (calc a w n m)
det_folds a w (Known n) Unknown d e = refl
det_folds a w Unknown (Known m) d e = refl
det_folds a w Unknown Unknown d e = refl

module _ {V : Type 0} (f : Option (Fun V)) (k : FunctionFacts V) (scoped : BlocksWith f (OpScoped f)) where
  abbrev pub AllDet : List V → Type 0
  AllDet a = (x : V) → In x a → determined (k.of x) ≡ true

  all_det : List V → Bool
  all_det [] = true
  all_det (v ∷ vs) = determined (k.of v) && all_det vs

  fewer : FunctionFacts V
  fewer = record { runs = λ b. k.runs b && all_det (arguments_in f b); of = k.of }

  det_all : (vs : List V) → all_det vs ≡ true → AllDet vs
  unfolding all_det
  det_all [] h x i = absurd i
  det_all (v ∷ vs) h x i =
      ⊎_elim (λ q. ap (λ y. determined (k.of y)) q ∙ and_first (determined (k.of v)) (all_det vs) h) (λ j. det_all vs (and_second (determined (k.of v)) (all_det vs) h) x j) i

  det_edge : (ts gs a : List V) → AllDet a → AllIn gs a → SameLength ts gs → AllFactsAtOrBelow k ts gs → all_det ts ≡ true
  unfolding all_det
  det_edge [] gs a d i l h = refl
  det_edge (t ∷ ts) [] a d i l h = absurd l
  det_edge (t ∷ ts) (g ∷ gs) a d i l h = and_true _ _ (det_below (k.of t) (k.of g) h.0 (d g i.0)) (det_edge ts gs a d i.1 l h.1)

  below_same : (ts gs : List V) → AllFactsAtOrBelow k ts gs → AllFactsAtOrBelow fewer ts gs
  unfolding fewer
  below_same [] gs h = tt
  below_same (t ∷ ts) [] h = tt
  below_same (t ∷ ts) (g ∷ gs) h = (h.0, below_same ts gs h.1)

  unknown_same : (vs : List V) → AllUnknown k vs → AllUnknown fewer vs
  unfolding fewer
  unknown_same [] h = tt
  unknown_same (v ∷ vs) h = (h.0, unknown_same vs h.1)

  edge_fewer : (a : List V) (e : Edge V) → AllDet a → EdgeScoped f a e → EdgeClosedIn f k e → EdgeClosedIn f fewer e
  unfolding fewer
  edge_fewer a e d s c = (and_true _ _ c.0 (det_edge (arguments_in f e.target) e.forwards a d s.0 s.2 c.1), below_same (arguments_in f e.target) e.forwards c.1)

  fork_fewer : (a : List V) (s : Select) (t : Knows) (e : Edge V) (es : List (Edge V)) → AllDet a → AllEdges (EdgeScoped f a) (e ∷ es) → BranchClosedIn f k s t e es → BranchClosedIn f fewer s t e es
  fork_fewer a s Lacks e es d w c = tt
  fork_fewer a s (Numbers ns) e es d w c =
      edges_two (EdgeScoped f a) (λ x. x.target ≡ (edge_at e es (chosen s ns)).target → EdgeClosedIn f k x) (λ x. x.target ≡ (edge_at e es (chosen s ns)).target → EdgeClosedIn f fewer x) (λ x g h q. edge_fewer a x d g (h q)) (e ∷ es) w c
  fork_fewer a s Open e es d w c = edges_two (EdgeScoped f a) (EdgeClosedIn f k) (EdgeClosedIn f fewer) (λ x g h. edge_fewer a x d g h) (e ∷ es) w c

  op_fewer : (a : List V) (op : Op V) → AllDet a → OpScoped f a op → OpClosed f k op → OpClosed f fewer op
  unfolding fewer
  op_fewer a (Const r n) d s c = c
  op_fewer a (Calc o w r x y) d s c = c
  op_fewer a (Emit x) d s c = tt
  op_fewer a (Call rs n xs) d s c = unknown_same rs c
  op_fewer a (Branch t xs e es) d s c = fork_fewer a t (branch_knows k xs (e ∷ es)) e es d s.1 c
  op_fewer a (Return xs) d s c = tt

  det_unknown : (vs : List V) → AllUnknown k vs → AllDet vs
  det_unknown [] h x i = absurd i
  det_unknown (v ∷ vs) h x i = ⊎_elim (λ q. ap (λ y. determined (k.of y)) q ∙ ap determined h.0) (λ j. det_unknown vs h.1 x j) i

  -- what an operation makes is determined
  det_defs : (a : List V) (op : Op V) → AllDet a → OpScoped f a op → OpClosed f k op → AllDet (defs op)
  det_defs a (Const r n) d s c x i = ⊎_elim (λ q. ap (λ y. determined (k.of y)) q ∙ det_below (k.of r) (Known n) c refl) (λ j. absurd j) i
  det_defs a (Calc o w r p q) d s c x i =
      ⊎_elim (λ e. ap (λ y. determined (k.of y)) e ∙ det_below (k.of r) (folds_to o w (k.of p) (k.of q)) c (det_folds o w (k.of p) (k.of q) (d p s.0) (d q s.1))) (λ j. absurd j) i
  det_defs a (Emit p) d s c x i = absurd i
  det_defs a (Call rs n xs) d s c x i = det_unknown rs c x i
  det_defs a (Branch t xs e es) d s c x i = absurd i
  det_defs a (Return xs) d s c x i = absurd i

  det_more : (xs a : List V) → AllDet xs → AllDet a → AllDet (xs ++ a)
  det_more xs a d e x i = ⊎_elim (λ l. d x l) (λ r. e x r) (in_split x xs a i)

  ops_det : (a : List V) (ops : List (Op V)) → AllDet a → OpsWith (OpScoped f) a ops → OpsClosed f k ops → OpsWith (λ b op. AllDet b × OpClosed f fewer op) a ops × AllDet (all_defs ops)
  ops_det a [] d s c = (tt, λ x i. absurd i)
  ops_det a (op ∷ ops) d s c =
      let own = det_defs a op d s.0 c.0 in
      let rest = ops_det (defs op ++ a) ops (det_more (defs op) a own d) s.1 c.1 in
      (((d, op_fewer a op d s.0 c.0), rest.0), det_more (defs op) (all_defs ops) own rest.1)

  only_closed : (a : List V) (ops : List (Op V)) → OpsWith (λ b op. AllDet b × OpClosed f fewer op) a ops → OpsClosed f fewer ops
  only_closed a [] h = tt
  only_closed a (op ∷ ops) h = (h.0.1, only_closed (defs op ++ a) ops h.1)

  module _ (closed : AreClosedFacts f k) where
    entry_det : AllDet (arguments_in f 0)
    entry_det = det_unknown (arguments_in f 0) closed.entry_unknown

    values_det : AllDet (entry_values f)
    values_det = det_more (arguments_in f 0) (all_defs (left_in f 0 0)) entry_det (ops_det (arguments_in f 0) (left_in f 0 0) entry_det (scoped 0) (closed.ops 0 closed.entry_runs)).1

    start_det : (b : ℕ) → AllDet (arguments_in f b) → AllDet (at_start f b)
    start_det zero d x i = d x i
    start_det (suc b) d x i = det_more (arguments_in f (suc b)) (entry_values f) d values_det x i

    entry_all : (vs : List V) → AllUnknown k vs → all_det vs ≡ true
    unfolding all_det
    entry_all [] h = refl
    entry_all (v ∷ vs) h = and_true _ _ (ap determined h.0) (entry_all vs h.1)

    fewer_closed : AreClosedFacts f fewer
    unfolding fewer
    fewer_closed =
        record {
          entry_runs = and_true _ _ closed.entry_runs (entry_all (arguments_in f 0) closed.entry_unknown);
          entry_unknown = unknown_same (arguments_in f 0) closed.entry_unknown;
          ops = λ b r.
              only_closed (at_start f b) (left_in f b 0)
              (ops_det (at_start f b) (left_in f b 0) (start_det b (det_all (arguments_in f b) (and_second (k.runs b) (all_det (arguments_in f b)) r))) (scoped b) (closed.ops b (and_first (k.runs b) (all_det (arguments_in f b)) r))).0;
        }

  drop_closed : (a : List V) (ops : List (Op V)) → OpsWith (λ b op. AllDet b × OpClosed f fewer op) a ops → OpsWith (λ b op. AllDet b) a ops
  drop_closed a [] h = tt
  drop_closed a (op ∷ ops) h = (h.0.0, drop_closed (defs op ++ a) ops h.1)

  -- in a block known to run everything in scope is determined
  pub scope_determined : AreMostPreciseFacts f k → (b : ℕ) → k.runs b ≡ true → OpsWith (λ a op. AllDet a) (at_start f b) (left_in f b 0)
  unfolding fewer
  scope_determined best b r =
      let all = and_second (k.runs b) (all_det (arguments_in f b)) ((best.best fewer (fewer_closed best.closed)).fewer b r) in
      drop_closed (at_start f b) (left_in f b 0) (ops_det (at_start f b) (left_in f b 0) (start_det best.closed b (det_all (arguments_in f b) all)) (scoped b) (best.closed.ops b r)).0

not_undetermined : (x : Fact) → determined x ≡ true → x ≡ Undetermined → ⊥
not_undetermined Undetermined d e = cc d
not_undetermined (Known n) d e = cc e
not_undetermined Unknown d e = cc e

none_undetermined : (k : FunctionFacts Place) (f : Option (Fun Place)) (scoped : BlocksWith f (OpScoped f)) (a : List Place) (ops : List (Op Place)) → OpsWith (λ a op. AllDet f k scoped a) a ops → OpsWith (λ a op. (x : Place) → In x a → k.of x ≡ Undetermined → ⊥) a ops
none_undetermined k f scoped a [] h = tt
none_undetermined k f scoped a (op ∷ ops) h = (λ x i e. not_undetermined (k.of x) (h.0 x i) e, none_undetermined k f scoped (defs op ++ a) ops h.1)

-- where the rules are kept
pub rules_determined : (f : Option (Fun Place)) (k : FunctionFacts Place) → Rules f → AreMostPreciseFacts f k → (b : ℕ) → k.runs b ≡ true → OpsWith (λ a op. (x : Place) → In x a → k.of x ≡ Undetermined → ⊥) (at_start f b) (left_in f b 0)
rules_determined f k rules best b r =
    let scoped = rules_scoped f rules in
    none_undetermined k f scoped (at_start f b) (left_in f b 0) (scope_determined f k scoped best b r)
