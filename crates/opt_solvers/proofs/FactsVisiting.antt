-- What looking at operations keeps.
use Rattle.std.proofs.Common.{◌≡◌, ⊎_elim, ℕ, ◌+◌, ◌<◌, List, [], ◌∷◌, ◌++◌, Option, Some, None, Bool, true, length, get_or, map, refl, sym, ap, ◌∙◌, subst, arith}
use Rattle.std.specs.Prelude.{Contains, slice_get}
use Rattle.std.specs.declared.vec.Vec.{Vec}
use Rattle.std.specs.declared.alloc.Global.{Global}
use Rattle.std.proofs.lemmas.Option.{slice_get_read, slice_get_within, same_Some}
use Rattle.std.proofs.lemmas.List.Elements.{Contains-push_cases}
use Rattle.opt_rows.specs.declared.known.Known.{Known}
use Rattle.opt_rows.specs.declared.facts_problem.Role.{Role}
use Rattle.opt_rows.specs.declared.facts_problem.Role.TheVariants.{Folds, Branches, Other}
use Rattle.opt_rows.specs.OperationRows.{BranchEdge, Row}
use Rattle.opt_rows.specs.declared.facts_problem.FactsProblem.{FactsProblem}
use Rattle.opt_rows.specs.declared.facts_found.Found.{Found}
use Rattle.opt_solvers.specs.declared.facts_solver.Solver.{Solver}
use Rattle.opt_rows.specs.Known.{AtOrBelow, AllBelow, MorePrecise, asked, answer}
use Rattle.opt_rows.specs.Facts.{Answers, NumberedFacts, RunsWithAny, IsFeasibleTarget, RowEdgeClosed, EdgesClosed, ResultsClosed, RoleClosed, IsClosedSolution}
use Rattle.opt_rows.specs.FactsFound.{facts_of, Falls, Meets}
use Rattle.opt_rows.specs.Rows.{row_at}
use Rattle.opt_solvers.specs.FactsSolving.{seen_of, AnyResults, Started, EdgesTaken, Refreshed, RowDone, IsSolving, SolverSteps, Refreshes, VisitsOperations}
use Rattle.opt_steps.specs.FactsEdges.{IsTaken, Marks, EdgeLies, MarkedClosed, TakesMarkedEdges}
use Rattle.opt_rows.proofs.Lists.{decide}
use Rattle.opt_rows.proofs.FactsFalling.{at_trans, falls_none, falls_then, falls_as, meets_then, meets_as, meets_none}
use Rattle.opt_rows.proofs.FactsEntering.{all_any_stays, enters_stays}
use Rattle.opt_steps.proofs.FactsEdging.{edge_stays}
use Rattle.opt_solvers.proofs.FactsAsking.{AreLawful, BelowUpto, AskedBelow, pairs, asked_below, answers_below, all_below_stays, all_below_at, all_below_from, asked_length}

-- what is asked of an operation that stands at a row
pub record AsksRow {A : Type 0} (p : FactsProblem) (s : Solver A) (i : ℕ) (r : Row) (q : List (Option A)) : Type 0 where
  pub at : slice_get p.rows i ≡ Some r
  pub asked_is : asked (seen_of s.seen i) ≡ Some q
  pub len : length q ≡ length r.operands

pub asks_row : {A : Type 0} (ask : Answers A) (p : FactsProblem) (s : Solver A) (i : ℕ) (r : Row) (q : List (Option A)) → IsSolving ask p s [] → i < length p.rows → r ≡ get_or p.rows i r → asked (seen_of s.seen i) ≡ Some q → AsksRow p s i r q
asks_row ask p s i r q d h e g =
    let at = slice_get_read p.rows (length p.rows) i r refl h e in
    record { at = at; asked_is = g; len = asked_length (seen_of s.seen i) q g ∙ d.operands_len i r at }

module _ {A : Type 0} where
  -- one result more is lowered
  pub below_more : (vs : List ℕ) (ys : List (Known A)) (n v : ℕ) (y : Known A) (a b c : Found A) → slice_get vs n ≡ Some v → slice_get ys n ≡ Some y → Meets (λ k. BelowUpto n k.of vs ys) a b → Meets (λ k. AtOrBelow (k.of v) y) b c → Meets (λ k. BelowUpto (n + 1) k.of vs ys) a c
  below_more vs ys n v y a b c e f = meets_then (λ k. BelowUpto n k.of vs ys) (λ k. AtOrBelow (k.of v) y) (λ k. BelowUpto (n + 1) k.of vs ys)
      (λ k g j u z l. g j u z (omega (arith, l)))
      (λ k g. g n v y (omega arith) e f)
      (λ k d g j u z l s t. ⊎_elim
      (λ q. subst (λ w. AtOrBelow (k.of w) z) (same_Some v u (sym e ∙ (ap (slice_get vs) (sym q) ∙ s))) (subst (AtOrBelow (k.of v)) (same_Some y z (sym f ∙ (ap (slice_get ys) (sym q) ∙ t))) g))
      (λ q. d j u z (omega (arith, l, q)) s t)
      (decide j n))
      (λ k l m d j u z h s t. at_trans (l.of u) (k.of u) z (m.above u) (d j u z h s t)) a b c

  pub below_none : (vs : List ℕ) (ys : List (Known A)) (a : Found A) → Meets (λ k. BelowUpto 0 k.of vs ys) a a
  below_none vs ys a = meets_none (λ k. BelowUpto 0 k.of vs ys) a (λ j u z l s t. absurd (omega (arith, l)))

  pub below_end : (vs : List ℕ) (ys : List (Known A)) (n : ℕ) (a b : Found A) → ((j : ℕ) → j < length vs → j < length ys → j < n) → Meets (λ k. BelowUpto n k.of vs ys) a b → Meets (λ k. AllBelow k.of vs ys) a b
  below_end vs ys n a b h = meets_as (λ k. BelowUpto n k.of vs ys) (λ k. AllBelow k.of vs ys) (λ k d. all_below_at k.of vs ys n d) (λ k d. all_below_from k.of vs ys (λ j v y s t. d j v y (h j (slice_get_within vs j v s) (slice_get_within ys j y t)) s t)) a b

  any_results_stays : (vs : List ℕ) (role : Role) (k l : NumberedFacts A) → MorePrecise k l → AnyResults vs role k → AnyResults vs role l
  any_results_stays vs Folds k l m d = tt
  any_results_stays vs Branches k l m d = all_any_stays vs k l m d
  any_results_stays vs Other k l m d = all_any_stays vs k l m d

  pub started_stays : (p : FactsProblem) (r : Row) (k l : NumberedFacts A) → MorePrecise k l → Started p r k → Started p r l
  started_stays p r k l m d = record { results = any_results_stays r.results r.role k l m d.results; entries = λ b c. enters_stays p b k l m (d.entries b c) }

  pub row_started : (p : FactsProblem) (r : Row) (blocks : List ℕ) (a b c : Found A) → blocks ≡ r.entries → Meets (AnyResults r.results r.role) a b → Meets (λ l. (n : ℕ) → Contains blocks n → RunsWithAny p l n) b c → Meets (Started p r) a c
  row_started p r blocks a b c e = meets_then (AnyResults r.results r.role) (λ l. (n : ℕ) → Contains blocks n → RunsWithAny p l n) (Started p r)
      (λ l d. d.results)
      (λ l d n t. d.entries n (subst (λ xs. Contains xs n) e t))
      (λ l d g. record { results = d; entries = λ n t. g n (subst (λ xs. Contains xs n) (sym e) t) })
      (any_results_stays r.results r.role) a b c

  pub refreshed_stays : (ask : Answers A) (k l : NumberedFacts A) (i : ℕ) (r : Row) (role : Role) (seen : List (Known A)) (taken after : List Bool) → MorePrecise k l → ((n : ℕ) → slice_get taken n ≡ Some true → slice_get after n ≡ Some true) → Refreshed ask k i r role seen taken → Refreshed ask l i r role seen after
  refreshed_stays ask k l i r Folds seen taken after m t d = go (asked seen) d
    where
      go : (q : Option (List (Option A))) → ResultsClosed ask k i r q → ResultsClosed ask l i r q
      go None d = tt
      go (Some xs) d = all_below_stays r.results (map answer (ask.fold i xs)) k l m d
  refreshed_stays ask k l i r Branches seen taken after m t d = go (asked seen) d
    where
      go : (q : Option (List (Option A))) → EdgesTaken ask i r taken q → EdgesTaken ask i r after q
      go None d = tt
      go (Some xs) d = λ n e s f. t n (d n e s f)
  refreshed_stays ask k l i r Other seen taken after m t d = tt

  refreshed_none : (ask : Answers A) (k : NumberedFacts A) (i : ℕ) (r : Row) (role : Role) (seen : List (Known A)) (taken : List Bool) → asked seen ≡ None → Refreshed ask k i r role seen taken
  refreshed_none ask k i r Folds seen taken e = subst (ResultsClosed ask k i r) (sym e) tt
  refreshed_none ask k i r Branches seen taken e = subst (EdgesTaken ask i r taken) (sym e) tt
  refreshed_none ask k i r Other seen taken e = tt

  any_from_role : (ask : Answers A) (p : FactsProblem) (l : NumberedFacts A) (i : ℕ) (r : Row) (role : Role) → RoleClosed ask p l i r role → AnyResults r.results role l
  any_from_role ask p l i r Folds d = tt
  any_from_role ask p l i r Branches d = d.0
  any_from_role ask p l i r Other d = d

  module _ (ask : Answers A) (p : FactsProblem) where
    pub steps_none : (s : Solver A) → SolverSteps ask p s s
    steps_none s = record { found = falls_none (IsClosedSolution ask p) s.found; seen = refl; taken = λ i n t. t }

    pub steps_then : (a b c : Solver A) → SolverSteps ask p a b → SolverSteps ask p b c → SolverSteps ask p a c
    steps_then a b c f g = record { found = falls_then (IsClosedSolution ask p) a.found b.found c.found f.found g.found; seen = g.seen ∙ f.seen; taken = λ i n t. g.taken i n (f.taken i n t) }

    pub done_stays : (a b : Solver A) (i : ℕ) (r : Row) → SolverSteps ask p a b → RowDone ask p a i r → RowDone ask p b i r
    done_stays a b i r f d = record {
      started = started_stays p r (facts_of a.found) (facts_of b.found) f.found.falls d.started;
      refreshed = subst (λ x. Refreshed ask (facts_of b.found) i r r.role (seen_of x i) (row_at b.taken i)) (sym f.seen)
          (refreshed_stays ask (facts_of a.found) (facts_of b.found) i r r.role (seen_of a.seen i) (row_at a.taken i) (row_at b.taken i) f.found.falls (f.taken i) d.refreshed);
    }

    -- facts that fall, and nothing else
    pub solving_falls : (s : Solver A) (f : Found A) (popped : List ℕ) → Falls (IsClosedSolution ask p) s.found f → IsSolving ask p s popped → IsSolving ask p (record { found = f; seen = s.seen; taken = s.taken; marks = s.marks }) popped
    solving_falls s f popped g d = record {
      blocks_len = g.blocks_len ∙ d.blocks_len;
      values_len = g.values_len ∙ d.values_len;
      marks_len = d.marks_len;
      seen_len = d.seen_len;
      taken_len = d.taken_len;
      operands_len = d.operands_len;
      edges_len = d.edges_len;
      best = λ l c. g.best l c (d.best l c);
      marks_best = d.marks_best;
      taken_best = d.taken_best;
      above = λ i j v r x a b e. at_trans ((facts_of f).of v) ((facts_of s.found).of v) x (g.falls.above v) (d.above i j v r x a b e);
      edges = λ i n r e a b t. edge_stays (IsClosedSolution ask p) p popped r e s.found f g (d.edges i n r e a b t);
    }

    module _ (laws : AreLawful ask) (s : Solver A) (popped : List ℕ) (d : IsSolving ask p s popped) (i : ℕ) (r : Row) (at : slice_get p.rows i ≡ Some r) (running : (facts_of s.found).runs r.block ≡ true) where
      pub started_best : (l : NumberedFacts A) → IsClosedSolution ask p l → Started p r l
      started_best l c = let w = c.rows i r at ((d.best l c).fewer r.block running) in record { results = any_from_role ask p l i r r.role w.role; entries = w.entries }

      -- facts that are closed ask more
      asks_below : (l : NumberedFacts A) → IsClosedSolution ask p l → (q : List (Option A)) → asked (seen_of s.seen i) ≡ Some q → AskedBelow (map l.of r.operands) q
      asks_below l c q e = asked_below (map l.of r.operands) (seen_of s.seen i) q
          (pairs l.of r.operands (seen_of s.seen i) (d.operands_len i r at) (λ j v x a b. at_trans (l.of v) ((facts_of s.found).of v) x ((d.best l c).above v) (d.above i j v r x at a b))) e

      pub folds_best : r.role ≡ Folds → (q : List (Option A)) → asked (seen_of s.seen i) ≡ Some q → (l : NumberedFacts A) → IsClosedSolution ask p l → AllBelow l.of r.results (map answer (ask.fold i q))
      folds_best role q e l c =
          let w : RoleClosed ask p l i r Folds = subst (RoleClosed ask p l i r) role (c.rows i r at ((d.best l c).fewer r.block running)).role in
          let b = asks_below l c q e in
          answers_below l.of r.results (ask.fold i b.asks) (ask.fold i q) (laws.folds_more i b.asks q b.less) (subst (ResultsClosed ask l i r) b.asked_is w)

      pub branches_best : r.role ≡ Branches → (q : List (Option A)) → asked (seen_of s.seen i) ≡ Some q → (l : NumberedFacts A) → IsClosedSolution ask p l → (n : ℕ) (e : BranchEdge) → slice_get r.edges n ≡ Some e → IsFeasibleTarget ask i r q e.target → RowEdgeClosed p l r e
      branches_best role q e l c n edge t f =
          let w : RoleClosed ask p l i r Branches = subst (RoleClosed ask p l i r) role (c.rows i r at ((d.best l c).fewer r.block running)).role in
          let b = asks_below l c q e in
          let z : EdgesClosed ask p l i r (Some b.asks) = subst (EdgesClosed ask p l i r) b.asked_is w.1 in
          z n edge t (record { index = f.index; edge = f.edge; stands = f.stands; leads = f.leads; feasible = laws.feasible_less i b.asks q f.index b.less f.feasible })

    -- nothing is asked of an operation
    pub row_unknown : (s : Solver A) (i : ℕ) → IsSolving ask p s [] → asked (seen_of s.seen i) ≡ None → Refreshes ask p s s i
    row_unknown s i d e = record { solving = d; steps = steps_none s; done = λ r a. refreshed_none ask (facts_of s.found) i r r.role (seen_of s.seen i) (row_at s.taken i) e }

    pub row_other : (s : Solver A) (i : ℕ) → IsSolving ask p s [] → ((r : Row) → slice_get p.rows i ≡ Some r → r.role ≡ Other) → Refreshes ask p s s i
    row_other s i d e = record { solving = d; steps = steps_none s; done = λ r a. subst (λ role. Refreshed ask (facts_of s.found) i r role (seen_of s.seen i) (row_at s.taken i)) (sym (e r a)) tt }

    -- the results of an operation are lowered
    pub row_folded : AreLawful ask → (s : Solver A) (i : ℕ) (r : Row) (q : List (Option A)) (f : Found A) → IsSolving ask p s [] → slice_get p.rows i ≡ Some r → (facts_of s.found).runs r.block ≡ true → r.role ≡ Folds → asked (seen_of s.seen i) ≡ Some q → Meets (λ l. AllBelow l.of r.results (map answer (ask.fold i q))) s.found f → Refreshes ask p s (record { found = f; seen = s.seen; taken = s.taken; marks = s.marks }) i
    row_folded laws s i r q f d at running role e m = record {
      solving = solving_falls s f [] g d;
      steps = record { found = g; seen = refl; taken = λ j n t. t };
      done = λ u a. subst (λ (w : Row). Refreshed ask (facts_of f) i w w.role (seen_of s.seen i) (row_at s.taken i)) (same_Some r u (sym at ∙ a))
          (subst (λ x. Refreshed ask (facts_of f) i r x (seen_of s.seen i) (row_at s.taken i)) (sym role) (subst (ResultsClosed ask (facts_of f) i r) (sym e) m.holds));
    }
      where
        g : Falls (IsClosedSolution ask p) s.found f
        g = falls_as (λ l. AllBelow l.of r.results (map answer (ask.fold i q))) (IsClosedSolution ask p) (folds_best laws s [] d i r at running role q e) s.found f m.steps

    -- the edges of a branch are tested
    pub row_tested : AreLawful ask → (s : Solver A) (i : ℕ) (r : Row) (q : List (Option A)) (f : Found A) (taken : List (List Bool)) (marks : Vec (Option ℕ) Global) → IsSolving ask p s [] → slice_get p.rows i ≡ Some r → (facts_of s.found).runs r.block ≡ true → r.role ≡ Branches → asked (seen_of s.seen i) ≡ Some q
        → Marks ask i r q (length r.edges) s.marks.items marks.items → TakesMarkedEdges p i r marks.items (length r.edges) s.taken taken s.found f → Refreshes ask p s (record { found = f; seen = s.seen; taken = taken; marks = marks }) i
    row_tested laws s i r q f taken marks d at running role e m t = record {
      solving = record {
        blocks_len = t.steps.blocks_len ∙ d.blocks_len;
        values_len = t.steps.values_len ∙ d.values_len;
        marks_len = m.len ∙ d.marks_len;
        seen_len = d.seen_len;
        taken_len = t.len ∙ d.taken_len;
        operands_len = d.operands_len;
        edges_len = λ j u a. ⊎_elim
            (λ z. ap length (ap (row_at taken) z) ∙ (t.edges_len ∙ (ap (λ x. length (row_at s.taken x)) (sym z) ∙ d.edges_len j u a)))
            (λ z. ap length (t.others j z) ∙ d.edges_len j u a)
            (decide j i);
        best = λ l c. g.best l c (d.best l c);
        marks_best = marked;
        taken_best = λ l c j n u y a b w. ⊎_elim
            (λ z. let v : r ≡ u = same_row j u z a in
            ⊎_elim
            (λ o. d.taken_best l c j n u y a b (subst (λ x. IsTaken s.taken x n) (sym z) o))
            (λ o. marked l c j u a n y b (subst (λ x. slice_get marks.items y.target ≡ Some (Some x)) (sym z) o.0))
            (t.only n y (subst (λ (x : Row). slice_get x.edges n ≡ Some y) (sym v) b) (subst (λ x. IsTaken taken x n) z w)))
            (λ z. d.taken_best l c j n u y a b (sym (ap (λ xs. slice_get xs n) (t.others j z)) ∙ w))
            (decide j i);
        above = λ j n v u x a b y. at_trans ((facts_of f).of v) ((facts_of s.found).of v) x (t.steps.falls.above v) (d.above j n v u x a b y);
        edges = λ j n u y a b w. ⊎_elim
            (λ z. let v : r ≡ u = same_row j u z a in
            ⊎_elim
            (λ o. edge_stays (IsClosedSolution ask p) p [] u y s.found f g (d.edges j n u y a b (subst (λ x. IsTaken s.taken x n) (sym z) o)))
            (λ o. subst (λ (x : Row). EdgeLies p f [] x y) v o.1)
            (t.only n y (subst (λ (x : Row). slice_get x.edges n ≡ Some y) (sym v) b) (subst (λ x. IsTaken taken x n) z w)))
            (λ z. edge_stays (IsClosedSolution ask p) p [] u y s.found f g (d.edges j n u y a b (sym (ap (λ xs. slice_get xs n) (t.others j z)) ∙ w)))
            (decide j i);
      };
      steps = record {
        found = g;
        seen = refl;
        taken = λ j n w. ⊎_elim
            (λ z. subst (λ x. IsTaken taken x n) (sym z) (t.keeps n (subst (λ x. IsTaken s.taken x n) z w)))
            (λ z. ap (λ xs. slice_get xs n) (t.others j z) ∙ w)
            (decide j i);
      };
      done = λ u a. subst (λ (w : Row). Refreshed ask (facts_of f) i w w.role (seen_of s.seen i) (row_at taken i)) (same_Some r u (sym at ∙ a))
          (subst (λ x. Refreshed ask (facts_of f) i r x (seen_of s.seen i) (row_at taken i)) (sym role) (subst (EdgesTaken ask i r (row_at taken i)) (sym e) all_taken));
    }
      where
        same_row : (j : ℕ) (u : Row) → j ≡ i → slice_get p.rows j ≡ Some u → r ≡ u
        same_row j u z a = same_Some r u (sym at ∙ (ap (slice_get p.rows) (sym z) ∙ a))

        marked : (l : NumberedFacts A) → IsClosedSolution ask p l → (j : ℕ) (u : Row) → slice_get p.rows j ≡ Some u → MarkedClosed p j u marks.items l
        marked l c j u a n y b w = ⊎_elim
            (λ o. d.marks_best l c j u a n y b o)
            (λ o. let v : r ≡ u = same_row j u o.0 a in
            subst (λ (x : Row). RowEdgeClosed p l x y) v (branches_best laws s [] d i r at running role q e l c n y (subst (λ (x : Row). slice_get x.edges n ≡ Some y) (sym v) b) o.1))
            (m.only y.target j w)

        g : Falls (IsClosedSolution ask p) s.found f
        g = falls_as (MarkedClosed p i r marks.items) (IsClosedSolution ask p) (λ l c. marked l c i r at) s.found f t.steps

        all_taken : (n : ℕ) (y : BranchEdge) → slice_get r.edges n ≡ Some y → IsFeasibleTarget ask i r q y.target → slice_get (row_at taken i) n ≡ Some true
        all_taken n y b o = t.has n y (slice_get_within r.edges n y b) b
            (subst (λ x. slice_get marks.items x ≡ Some (Some i)) o.leads (m.has o.index o.edge (slice_get_within r.edges o.index o.edge o.stands) o.stands o.feasible))

    -- an operation of a block that runs is started
    pub started_solving : AreLawful ask → (s : Solver A) (i : ℕ) (r : Row) (f : Found A) → IsSolving ask p s [] → slice_get p.rows i ≡ Some r → (facts_of s.found).runs r.block ≡ true → Meets (Started p r) s.found f → Falls (IsClosedSolution ask p) s.found f
    started_solving laws s i r f d at running m = falls_as (Started p r) (IsClosedSolution ask p) (started_best laws s [] d i r at running) s.found f m.steps

    pub row_visited : AreLawful ask → (s t : Solver A) (i : ℕ) (r : Row) (f : Found A) → IsSolving ask p s [] → slice_get p.rows i ≡ Some r → (facts_of s.found).runs r.block ≡ true → Meets (Started p r) s.found f → Refreshes ask p (record { found = f; seen = s.seen; taken = s.taken; marks = s.marks }) t i → VisitsOperations ask p s t (λ j u. j ≡ i)
    row_visited laws s t i r f d at running m h = record {
      solving = h.solving;
      steps = steps_then s (record { found = f; seen = s.seen; taken = s.taken; marks = s.marks }) t (record { found = started_solving laws s i r f d at running m; seen = refl; taken = λ j n w. w }) h.steps;
      done = λ j u z a. subst (λ x. RowDone ask p t x u) (sym z)
          (let b : slice_get p.rows i ≡ Some u = ap (slice_get p.rows) (sym z) ∙ a in
          record { started = started_stays p u (facts_of f) (facts_of t.found) h.steps.found.falls (subst (λ (x : Row). Started p x (facts_of f)) (same_Some r u (sym at ∙ b)) m.holds); refreshed = h.done u b });
    }

    -- one operation more of a list
    pub visited_more : (a b c : Solver A) (xs : List ℕ) (x : ℕ) → VisitsOperations ask p a b (λ i r. Contains xs i) → VisitsOperations ask p b c (λ i r. i ≡ x) → VisitsOperations ask p a c (λ i r. Contains (xs ++ x ∷ []) i)
    visited_more a b c xs x f g = record {
      solving = g.solving;
      steps = steps_then a b c f.steps g.steps;
      done = λ i r t s. ⊎_elim
          (λ o. done_stays b c i r g.steps (f.done i r o s))
          (λ o. g.done i r (sym o) s)
          (Contains-push_cases xs x i t);
    }

    pub visited_none : (s : Solver A) → IsSolving ask p s [] → VisitsOperations ask p s s (λ i r. Contains [] i)
    visited_none s d = record { solving = d; steps = steps_none s; done = λ i r t a. absurd (omega (arith, t.1)) }

    pub visited_as : (a b : Solver A) (P Q : ℕ → Row → Type 0) → ((i : ℕ) (r : Row) → slice_get p.rows i ≡ Some r → Q i r → P i r) → VisitsOperations ask p a b P → VisitsOperations ask p a b Q
    visited_as a b P Q f v = record { solving = v.solving; steps = v.steps; done = λ i r t s. v.done i r (f i r s t) s }
