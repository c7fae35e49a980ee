-- Each function that keeps the rules has most precise facts: from the top, one demand after another is met.
use Rattle.std.proofs.Common.{◌≡◌, ◌⊎◌, ⊎_elim, inl, inr, ℕ, zero, suc, ◌+◌, ◌<◌, ◌≤◌, Bool, true, false, List, [], ◌∷◌, ◌++◌, length, Option, Some, None, refl, sym, ap, ◌∙◌, subst, arith}
use Rattle.std.specs.Prelude.{map, slice_get, if◌then◌else◌, nat_eq}
use Rattle.std.proofs.lemmas.Bool.{eqb-true, eq-eqb}
use Rattle.kit_behaviour.specs.Machine.{Select, edge_at, chosen, AllEdges, Edge, Op, Const, Calc, Emit, Call, Branch, Return, Block, Fun, FunctionsByPath, ops_left, left_in, arguments_of, arguments_in, size}
use Rattle.kit_behaviour.specs.Facts.{Knows, Lacks, Numbers, Open, knows, branch_knows, all_forwarded, Fact, Undetermined, Known, Unknown, FactAtOrBelow, folds_to, FunctionFacts, AllUnknown, AllFactsAtOrBelow, EdgeClosedIn, BranchClosedIn, OpClosed, OpsClosed, AreClosedFacts, FactsMorePrecise, AreMostPreciseFacts}
use Rattle.kit_behaviour.specs.Scopes.{In, defs, all_defs}
use Rattle.kit_behaviour.specs.Rules.{EdgeFits, EdgesOfOpFit, AllEdgesFit, Rules}
use Rattle.kit_behaviour.specs.ConstantPropagation.{Wants, sccp, IsSccpOfFunctions}
use Rattle.kit_behaviour.specs.Places.{Place, same_place}
use Rattle.kit_behaviour.proofs.Behaviour.FiniteLists.{below_other, upto, in_upto}
use Rattle.kit_behaviour.proofs.Numbering.PlaceEquality.{place_law}
use Rattle.kit_behaviour.proofs.Lattice.FactLemmas.{at_trans, fold_mono, meet, meet_below}
use Rattle.kit_behaviour.proofs.Lattice.RenamedFacts.{at_top}
use Rattle.kit_behaviour.proofs.Propagation.ScopeLemmas.{in_append}
use Rattle.kit_behaviour.proofs.Propagation.FactsAfterwards.{KnowsBelow, more_below, unless_below, fork_raise}

-- facts have heights

abbrev rank : Fact → ℕ
rank Undetermined = 0
rank (Known n) = 1
rank Unknown = 2

rank_most : (x : Fact) → rank x ≤ 2
rank_most Undetermined = omega arith
rank_most (Known n) = omega arith
rank_most Unknown = omega arith

rank_meet : (x y : Fact) → rank x ≤ rank (meet x y)
rank_meet Undetermined y = omega arith
rank_meet (Known n) Undetermined = omega arith
rank_meet (Known n) (Known m) = by_test (nat_eq n m)
  where
    by_test : (b : Bool) → 1 ≤ rank (if b then Known n else Unknown)
    by_test true = omega arith
    by_test false = omega arith
rank_meet (Known n) Unknown = omega arith
rank_meet Unknown y = omega arith

rank_lower : (x y : Fact) → (FactAtOrBelow x y → ⊥) → suc (rank x) ≤ rank (meet x y)
rank_lower Undetermined Undetermined h = absurd (h tt)
rank_lower Undetermined (Known m) h = omega arith
rank_lower Undetermined Unknown h = omega arith
rank_lower (Known n) Undetermined h = absurd (h tt)
rank_lower (Known n) (Known m) h = by_test (nat_eq n m) refl
  where
    by_test : (b : Bool) → nat_eq n m ≡ b → 2 ≤ rank (if nat_eq n m then Known n else Unknown)
    by_test true e = absurd (h (eqb-true n m e))
    by_test false e = let q : rank (if nat_eq n m then Known n else Unknown) ≡ 2 = ap (λ b. rank (if b then Known n else Unknown)) e in omega (arith, q)
rank_lower (Known n) Unknown h = omega arith
rank_lower Unknown y h = absurd (h tt)

at_or : (x y : Fact) → FactAtOrBelow x y ⊎ (FactAtOrBelow x y → ⊥)
at_or Unknown y = inl tt
at_or Undetermined Undetermined = inl tt
at_or Undetermined (Known m) = inr (λ h. h)
at_or Undetermined Unknown = inr (λ h. h)
at_or (Known n) Undetermined = inl tt
at_or (Known n) (Known m) = by_test (nat_eq n m) refl
  where
    by_test : (b : Bool) → nat_eq n m ≡ b → (n ≡ m) ⊎ (n ≡ m → ⊥)
    by_test true e = inl (eqb-true n m e)
    by_test false e = inr (λ q. let bad : true ≡ false = sym (eq-eqb n m q) ∙ e in cc bad)
at_or (Known n) Unknown = inr (λ h. h)

unknown_or : (x : Fact) → (x ≡ Unknown) ⊎ (FactAtOrBelow x Unknown → ⊥)
unknown_or Undetermined = inr (λ h. h)
unknown_or (Known n) = inr (λ h. h)
unknown_or Unknown = inl refl

-- sums over a list

module _ {X : Type 0} where
  abbrev total : (X → ℕ) → List X → ℕ
  total w [] = 0
  total w (x ∷ xs) = w x + total w xs

  total_most : (w : X → ℕ) (m : ℕ) → ((x : X) → w x ≤ 2) → (xs : List X) → total w xs ≤ length xs + length xs
  total_most w m h [] = omega arith
  total_most w m h (x ∷ xs) = let a = total_most w m h xs in let b = h x in omega (arith, a, b)

  total_more : (w v : X → ℕ) → ((x : X) → w x ≤ v x) → (xs : List X) → total w xs ≤ total v xs
  total_more w v h [] = omega arith
  total_more w v h (x ∷ xs) = let a = total_more w v h xs in let b = h x in omega (arith, a, b)

  total_grows : (w v : X → ℕ) → ((x : X) → w x ≤ v x) → (x : X) (xs : List X) → In x xs → suc (w x) ≤ v x → suc (total w xs) ≤ total v xs
  total_grows w v h x [] i l = absurd i
  total_grows w v h x (y ∷ ys) i l =
      ⊎_elim
      (λ e.
      let a : w x ≡ w y = ap w e in
      let b : v x ≡ v y = ap v e in
      let c = total_more w v h ys in
      omega (arith, l, a, b, c))
      (λ k. let c = total_grows w v h x ys k l in let d = h y in omega (arith, c, d))
      i

less_or : (x y : ℕ) → (x < y) ⊎ (y ≤ x)
less_or zero zero = inr (omega arith)
less_or zero (suc y) = inl (omega arith)
less_or (suc x) zero = inr (omega arith)
less_or (suc x) (suc y) = ⊎_elim (λ l. inl (omega (arith, l))) (λ l. inr (omega (arith, l))) (less_or x y)

-- the values of a function

blocks_values : List (Block Place) → List Place
blocks_values [] = []
blocks_values (k ∷ ks) = k.arguments ++ (all_defs k.ops ++ blocks_values ks)

values : Option (Fun Place) → List Place
values None = []
values (Some f) = blocks_values f

in_blocks : (v : Place) (ks : List (Block Place)) (b : ℕ) → In v (arguments_of (slice_get ks b)) ⊎ In v (all_defs (ops_left (slice_get ks b) 0)) → In v (blocks_values ks)
unfolding blocks_values
in_blocks v [] b h = ⊎_elim (λ x. absurd x) (λ x. absurd x) h
in_blocks v (k ∷ ks) zero h =
    ⊎_elim (λ l. in_append v k.arguments (all_defs k.ops ++ blocks_values ks) (inl l)) (λ r. in_append v k.arguments (all_defs k.ops ++ blocks_values ks) (inr (in_append v (all_defs k.ops) (blocks_values ks) (inl r)))) h
in_blocks v (k ∷ ks) (suc b) h =
    in_append v k.arguments (all_defs k.ops ++ blocks_values ks) (inr (in_append v (all_defs k.ops) (blocks_values ks) (inr (in_blocks v ks b h))))

in_values : (f : Option (Fun Place)) (v : Place) (b : ℕ) → In v (arguments_in f b) ⊎ In v (all_defs (left_in f b 0)) → In v (values f)
unfolding values
in_values None v b h = ⊎_elim (λ x. absurd x) (λ x. absurd x) h
in_values (Some f) v b h = in_blocks v f b h

blocks_end : (ks : List (Block Place)) (b : ℕ) → length ks ≤ b → ops_left (slice_get ks b) 0 ≡ []
blocks_end [] b l = refl
blocks_end (k ∷ ks) zero l = absurd (omega (arith, l))
blocks_end (k ∷ ks) (suc b) l = blocks_end ks b (omega (arith, l))

left_end : (f : Option (Fun Place)) (b : ℕ) → size f ≤ b → left_in f b 0 ≡ []
left_end None b l = refl
left_end (Some f) b l = blocks_end f b l

module _ (f : Option (Fun Place)) (rules : Rules f) where
  -- facts that say nothing that closed facts don't say
  abbrev IsBelow : FunctionFacts Place → Type 0
  IsBelow k = (l : FunctionFacts Place) → AreClosedFacts f l → FactsMorePrecise k l

  abbrev Asks : FunctionFacts Place → (FunctionFacts Place → Type 0) → Type 0
  Asks k P = (l : FunctionFacts Place) → AreClosedFacts f l → FactsMorePrecise k l → P l

  -- a demand that isn't met: a block has to run, or a value to be lower
  data Fix (k : FunctionFacts Place) : Type 0 where
    fix_block : (b : ℕ) → b < suc (size f) → k.runs b ≡ false → Asks k (λ l. l.runs b ≡ true) → Fix k
    fix_value : (v : Place) (t : Fact) → In v (values f) → (FactAtOrBelow (k.of v) t → ⊥) → Asks k (λ l. FactAtOrBelow (l.of v) t) → Fix k

  module _ (k : FunctionFacts Place) where
    unknown_check : (vs : List Place) → ((v : Place) → In v vs → In v (values f)) → Asks k (λ l. AllUnknown l vs) → AllUnknown k vs ⊎ Fix k
    unknown_check [] sub asks = inl tt
    unknown_check (v ∷ vs) sub asks =
        ⊎_elim
        (λ e. ⊎_elim (λ h. inl (e, h)) (λ x. inr x) (unknown_check vs (λ w i. sub w (inr i)) (λ l c m. (asks l c m).1)))
        (λ n. inr (fix_value v Unknown (sub v (inl refl)) n (λ l c m. subst (λ t. FactAtOrBelow t Unknown) (sym (asks l c m).0) tt)))
        (unknown_or (k.of v))

    below_check : (ts gs : List Place) → ((v : Place) → In v ts → In v (values f)) → Asks k (λ l. AllFactsAtOrBelow l ts gs) → AllFactsAtOrBelow k ts gs ⊎ Fix k
    below_check [] gs sub asks = inl tt
    below_check (t ∷ ts) [] sub asks = inl tt
    below_check (t ∷ ts) (g ∷ gs) sub asks =
        ⊎_elim
        (λ e. ⊎_elim (λ h. inl (e, h)) (λ x. inr x) (below_check ts gs (λ w i. sub w (inr i)) (λ l c m. (asks l c m).1)))
        (λ n. inr (fix_value t (k.of g) (sub t (inl refl)) n (λ l c m. at_trans (l.of t) (l.of g) (k.of g) (asks l c m).0 (m.above g))))
        (at_or (k.of t) (k.of g))

    edge_check : (e : Edge Place) → EdgeFits f e → Asks k (λ l. EdgeClosedIn f l e) → EdgeClosedIn f k e ⊎ Fix k
    edge_check e fits asks = by_test (k.runs e.target) refl
      where
        by_test : (b : Bool) → k.runs e.target ≡ b → EdgeClosedIn f k e ⊎ Fix k
        by_test true r =
            ⊎_elim (λ h. inl (r, h)) (λ x. inr x) (below_check (arguments_in f e.target) e.forwards (λ v i. in_values f v e.target (inl i)) (λ l c m. (asks l c m).1))
        by_test false r = let w = fits.leads in inr (fix_block e.target (omega (arith, w)) r (λ l c m. (asks l c m).0))

    edges_check : (es : List (Edge Place)) → AllEdges (EdgeFits f) es → Asks k (λ l. AllEdges (EdgeClosedIn f l) es) → AllEdges (EdgeClosedIn f k) es ⊎ Fix k
    edges_check [] fits asks = inl tt
    edges_check (e ∷ es) fits asks =
        ⊎_elim
        (λ h. ⊎_elim (λ g. inl (h, g)) (λ x. inr x) (edges_check es fits.1 (λ l c m. (asks l c m).1)))
        (λ x. inr x)
        (edge_check e fits.0 (λ l c m. (asks l c m).0))

    to_check : (t : ℕ) (es : List (Edge Place)) → AllEdges (EdgeFits f) es → Asks k (λ l. AllEdges (λ x. x.target ≡ t → EdgeClosedIn f l x) es) → AllEdges (λ x. x.target ≡ t → EdgeClosedIn f k x) es ⊎ Fix k
    to_check t [] fits asks = inl tt
    to_check t (e ∷ es) fits asks = by_test (nat_eq e.target t) refl (to_check t es fits.1 (λ l c m. (asks l c m).1))
      where
        by_test : (b : Bool) → nat_eq e.target t ≡ b → AllEdges (λ x. x.target ≡ t → EdgeClosedIn f k x) es ⊎ Fix k → AllEdges (λ x. x.target ≡ t → EdgeClosedIn f k x) (e ∷ es) ⊎ Fix k
        by_test true q rest =
            ⊎_elim
            (λ h. ⊎_elim (λ g. inl ((λ z. h), g)) (λ x. inr x) rest)
            (λ x. inr x)
            (edge_check e fits.0 (λ l c m. (asks l c m).0 (eqb-true e.target t q)))
        by_test false q rest = ⊎_elim (λ g. inl ((λ z. let bad : true ≡ false = sym (eq-eqb e.target t z) ∙ q in absurd (cc bad)), g)) (λ x. inr x) rest

    knows_less : (l : FunctionFacts Place) → FactsMorePrecise k l → (xs : List Place) → KnowsBelow (knows (map l.of xs)) (knows (map k.of xs))
    knows_less l m [] = refl
    knows_less l m (x ∷ xs) = more_below (l.of x) (k.of x) (knows (map l.of xs)) (knows (map k.of xs)) (m.above x) (knows_less l m xs)

    branch_check : (s : Select) (t : Knows) (e : Edge Place) (es : List (Edge Place)) → AllEdges (EdgeFits f) (e ∷ es) → Asks k (λ l. BranchClosedIn f l s t e es) → BranchClosedIn f k s t e es ⊎ Fix k
    branch_check s Lacks e es fits asks = inl tt
    branch_check s (Numbers ns) e es fits asks = to_check (edge_at e es (chosen s ns)).target (e ∷ es) fits asks
    branch_check s Open e es fits asks = edges_check (e ∷ es) fits asks

    op_check : (op : Op Place) → EdgesOfOpFit f op → ((v : Place) → In v (defs op) → In v (values f)) → Asks k (λ l. OpClosed f l op) → OpClosed f k op ⊎ Fix k
    op_check (Const r n) fits sub asks = ⊎_elim (λ h. inl h) (λ n2. inr (fix_value r (Known n) (sub r (inl refl)) n2 asks)) (at_or (k.of r) (Known n))
    op_check (Calc a w r x y) fits sub asks =
        ⊎_elim (λ h. inl h)
        (λ n. inr (fix_value r (folds_to a w (k.of x) (k.of y)) (sub r (inl refl)) n
        (λ l c m. at_trans (l.of r) (folds_to a w (l.of x) (l.of y)) (folds_to a w (k.of x) (k.of y)) (asks l c m) (fold_mono a w (l.of x) (k.of x) (l.of y) (k.of y) (m.above x) (m.above y)))))
        (at_or (k.of r) (folds_to a w (k.of x) (k.of y)))
    op_check (Emit x) fits sub asks = inl tt
    op_check (Call rs c xs) fits sub asks = unknown_check rs sub asks
    op_check (Branch s xs e es) fits sub asks =
        branch_check s (branch_knows k xs (e ∷ es)) e es fits
        (λ l c m. fork_raise f l s (branch_knows l xs (e ∷ es)) (branch_knows k xs (e ∷ es)) e es
        (unless_below (knows (map l.of (all_forwarded (e ∷ es)))) (knows (map k.of (all_forwarded (e ∷ es)))) (knows (map l.of xs)) (knows (map k.of xs)) (knows_less l m (all_forwarded (e ∷ es))) (knows_less l m xs))
        (asks l c m))
    op_check (Return xs) fits sub asks = inl tt

    ops_check : (ops : List (Op Place)) → AllEdgesFit f ops → ((v : Place) → In v (all_defs ops) → In v (values f)) → Asks k (λ l. OpsClosed f l ops) → OpsClosed f k ops ⊎ Fix k
    ops_check [] fits sub asks = inl tt
    ops_check (op ∷ ops) fits sub asks =
        ⊎_elim
        (λ h. ⊎_elim (λ g. inl (h, g)) (λ x. inr x) (ops_check ops fits.1 (λ v i. sub v (in_append v (defs op) (all_defs ops) (inr i))) (λ l c m. (asks l c m).1)))
        (λ x. inr x)
        (op_check op fits.0 (λ v i. sub v (in_append v (defs op) (all_defs ops) (inl i))) (λ l c m. (asks l c m).0))

    abbrev BlockClosed : ℕ → Type 0
    BlockClosed b = k.runs b ≡ true → OpsClosed f k (left_in f b 0)

    block_check : (b : ℕ) → BlockClosed b ⊎ Fix k
    block_check b = by_test (k.runs b) refl
      where
        by_test : (q : Bool) → k.runs b ≡ q → BlockClosed b ⊎ Fix k
        by_test false e = inl (λ r. let bad : true ≡ false = sym r ∙ e in absurd (cc bad))
        by_test true e =
            ⊎_elim (λ h. inl (λ r. h)) (λ x. inr x)
            (ops_check (left_in f b 0) (rules.fits b) (λ v i. in_values f v b (inr i)) (λ l c m. c.ops b (m.fewer b e)))

    blocks_check : (n : ℕ) → ((b : ℕ) → b < n → BlockClosed b) ⊎ Fix k
    blocks_check zero = inl (λ b l. absurd (omega (arith, l)))
    blocks_check (suc n) = ⊎_elim (λ h. ⊎_elim (λ g. inl (λ b l. both b l h g)) (λ x. inr x) (blocks_check n)) (λ x. inr x) (block_check n)
      where
        both : (b : ℕ) → b < suc n → BlockClosed n → ((b : ℕ) → b < n → BlockClosed b) → BlockClosed b
        both b l h g = by_test (nat_eq b n) refl
          where
            by_test : (q : Bool) → nat_eq b n ≡ q → BlockClosed b
            by_test true e = subst BlockClosed (sym (eqb-true b n e)) h
            by_test false e = g b (below_other b n l (λ z. let bad : true ≡ false = sym (eq-eqb b n z) ∙ e in cc bad))

    check : AreClosedFacts f k ⊎ Fix k
    check = by_test (k.runs 0) refl
      where
        closed : k.runs 0 ≡ true → AllUnknown k (arguments_in f 0) → ((b : ℕ) → b < size f → BlockClosed b) → AreClosedFacts f k
        closed r u h = record { entry_runs = r; entry_unknown = u; ops = λ b q. ops_of b q h }
          where
            ops_of : (b : ℕ) → k.runs b ≡ true → ((b : ℕ) → b < size f → BlockClosed b) → OpsClosed f k (left_in f b 0)
            ops_of b q h = ⊎_elim (λ l. h b l q) (λ l. subst (OpsClosed f k) (sym (left_end f b l)) tt) (less_or b (size f))

        by_test : (q : Bool) → k.runs 0 ≡ q → AreClosedFacts f k ⊎ Fix k
        by_test false e = inr (fix_block 0 (omega arith) e (λ l c m. c.entry_runs))
        by_test true e =
            ⊎_elim
            (λ u. ⊎_elim (λ h. inl (closed e u h)) (λ x. inr x) (blocks_check (size f)))
            (λ x. inr x)
            (unknown_check (arguments_in f 0) (λ v i. in_values f v 0 (inl i)) (λ l c m. c.entry_unknown))

  -- how far the facts are from the top

  abbrev run_rank : Bool → ℕ
  run_rank true = 1
  run_rank false = 0

  run_most : (b : Bool) → run_rank b ≤ 2
  run_most true = omega arith
  run_most false = omega arith

  abbrev measure : FunctionFacts Place → ℕ
  measure k = total (λ b. run_rank (k.runs b)) (upto (suc (size f))) + total (λ v. rank (k.of v)) (values f)

  abbrev bound : ℕ
  bound = length (upto (suc (size f))) + length (upto (suc (size f))) + (length (values f) + length (values f))

  measure_most : (k : FunctionFacts Place) → measure k ≤ bound
  measure_most k =
      let a = total_most (λ b. run_rank (k.runs b)) 0 (λ b. run_most (k.runs b)) (upto (suc (size f))) in
      let b = total_most (λ v. rank (k.of v)) 0 (λ v. rank_most (k.of v)) (values f) in
      omega (arith, a, b)

  abbrev with_block : FunctionFacts Place → ℕ → FunctionFacts Place
  with_block k b = record { runs = λ c. if nat_eq b c then true else k.runs c; of = k.of }

  abbrev lowered : FunctionFacts Place → Place → Fact → FunctionFacts Place
  lowered k v t = record { runs = k.runs; of = λ w. if same_place v w then meet (k.of w) t else k.of w }

  abbrev Better : FunctionFacts Place → Type 0
  Better k = (k' : FunctionFacts Place) × IsBelow k' × (suc (measure k) ≤ measure k')

  mend : (k : FunctionFacts Place) → IsBelow k → Fix k → Better k
  mend k below (fix_block b l n asks) = (
    with_block k b,
    λ m c. record { fewer = λ d e. fewer m c d e; above = (below m c).above },
    let g = total_grows (λ d. run_rank (k.runs d)) (λ d. run_rank ((with_block k b).runs d)) more b (upto (suc (size f))) (in_upto (suc (size f)) b l) strict in omega (arith, g),
  )
    where
      fewer : (m : FunctionFacts Place) → AreClosedFacts f m → (d : ℕ) → (if nat_eq b d then true else k.runs d) ≡ true → m.runs d ≡ true
      fewer m c d e = by_test (nat_eq b d) refl
        where
          by_test : (q : Bool) → nat_eq b d ≡ q → m.runs d ≡ true
          by_test true g = ap m.runs (sym (eqb-true b d g)) ∙ asks m c (below m c)
          by_test false g = (below m c).fewer d (sym (ap (λ t. if t then true else k.runs d) g) ∙ e)

      more : (d : ℕ) → run_rank (k.runs d) ≤ run_rank (if nat_eq b d then true else k.runs d)
      more d = by_test (nat_eq b d) (k.runs d)
        where
          by_test : (q r : Bool) → run_rank r ≤ run_rank (if q then true else r)
          by_test true true = omega arith
          by_test true false = omega arith
          by_test false r = omega arith

      strict : suc (run_rank (k.runs b)) ≤ run_rank (if nat_eq b b then true else k.runs b)
      strict =
          let p : run_rank (k.runs b) ≡ 0 = ap run_rank n in
          let q : run_rank (if nat_eq b b then true else k.runs b) ≡ 1 = ap (λ t. run_rank (if t then true else k.runs b)) (eq-eqb b b refl) in
          omega (arith, p, q)
  mend k below (fix_value v t i n asks) = (
    lowered k v t,
    λ m c. record { fewer = (below m c).fewer; above = λ w. above m c w },
    let g = total_grows (λ w. rank (k.of w)) (λ w. rank ((lowered k v t).of w)) more v (values f) i strict in omega (arith, g),
  )
    where
      above : (m : FunctionFacts Place) → AreClosedFacts f m → (w : Place) → FactAtOrBelow (m.of w) (if same_place v w then meet (k.of w) t else k.of w)
      above m c w = by_test (same_place v w) refl
        where
          by_test : (q : Bool) → same_place v w ≡ q → FactAtOrBelow (m.of w) (if same_place v w then meet (k.of w) t else k.of w)
          by_test true e =
              subst (λ b. FactAtOrBelow (m.of w) (if b then meet (k.of w) t else k.of w)) (sym e)
              (meet_below (k.of w) t (m.of w) ((below m c).above w) (subst (λ u. FactAtOrBelow (m.of u) t) (place_law.true_same v w e) (asks m c (below m c))))
          by_test false e = subst (λ b. FactAtOrBelow (m.of w) (if b then meet (k.of w) t else k.of w)) (sym e) ((below m c).above w)

      more : (w : Place) → rank (k.of w) ≤ rank (if same_place v w then meet (k.of w) t else k.of w)
      more w = by_test (same_place v w)
        where
          by_test : (q : Bool) → rank (k.of w) ≤ rank (if q then meet (k.of w) t else k.of w)
          by_test true = rank_meet (k.of w) t
          by_test false = omega arith

      strict : suc (rank (k.of v)) ≤ rank (if same_place v v then meet (k.of v) t else k.of v)
      strict =
          let q : rank (if same_place v v then meet (k.of v) t else k.of v) ≡ rank (meet (k.of v) t) = ap (λ b. rank (if b then meet (k.of v) t else k.of v)) (place_law.same_true v) in
          let r = rank_lower (k.of v) t n in
          omega (arith, q, r)

  solve : (m : ℕ) (k : FunctionFacts Place) → IsBelow k → bound < m + measure k → (k' : FunctionFacts Place) × AreMostPreciseFacts f k'
  solve zero k below l = absurd (omega (arith, l, measure_most k))
  solve (suc m) k below l =
      ⊎_elim
      (λ c. (k, record { closed = c; best = below }))
      (λ x. let b = mend k below x in let g = b.2 in solve m b.0 b.1 (omega (arith, l, g)))
      (check k)

  abbrev top_facts : FunctionFacts Place
  top_facts = record { runs = λ b. false; of = λ v. Undetermined }

  top_below : IsBelow top_facts
  top_below l c = record { fewer = λ b e. absurd (cc e); above = λ v. at_top (l.of v) }

  pub best_exists : (k : FunctionFacts Place) × AreMostPreciseFacts f k
  best_exists = solve (suc bound) top_facts top_below (omega arith)

pub sccp_exists : (want : Wants) (p : FunctionsByPath Place) → ((path : List ℕ) → Rules (p path)) → (q : FunctionsByPath Place) × IsSccpOfFunctions want p q
sccp_exists want p rules =
    let k = λ (path : List ℕ). best_exists (p path) (rules path) in
    (sccp want (λ path. (k path).0) p, record { facts = λ path. (k path).0; best = λ path. (k path).1; is = λ path. refl })
