-- What a solver begins with, and that there is one solution.
use Rattle.std.proofs.Common.{zero, ◌≡◌, inl, inr, ⊎_elim, ℕ, suc, List, [], ◌∷◌, Some, None, Bool, true, false, length, map, refl, sym, ap, ◌∙◌, subst, arith}
use Rattle.std.specs.Prelude.{Contains, slice_get, option_map}
use Rattle.std.proofs.lemmas.Option.{none-some, same_Some, slice_get-map}
use Rattle.std.proofs.lemmas.List.{length-map, length-replicate}
use Rattle.opt_rows.specs.declared.known.Known.{Known}
use Rattle.opt_rows.specs.declared.known.Known.TheVariants.{Undetermined, One, Any}
use Rattle.opt_rows.specs.OperationRows.{Row}
use Rattle.opt_rows.specs.declared.facts_problem.FactsProblem.{FactsProblem}
use Rattle.opt_rows.specs.Rows.{listed, row_at}
use Rattle.opt_solvers.specs.FactsSeen.{unseen}
use Rattle.opt_rows.specs.FactsTaken.{untaken}
use Rattle.opt_rows.specs.declared.facts_found.Found.{Found}
use Rattle.opt_solvers.specs.declared.facts_solver.Solver.{Solver}
use Rattle.opt_rows.specs.Known.{AtOrBelow, AllAny}
use Rattle.opt_rows.specs.Facts.{Answers, NumberedFacts, RunsWithAny, IsMostPreciseSolution}
use Rattle.opt_rows.specs.FactsFound.{facts_of, Meets, IsNothing}
use Rattle.opt_solvers.specs.FactsSolving.{seen_of, IsSolving, IsWaiting, IsFirstFound, IsInitialSolver}
use Rattle.opt_steps.specs.FactsEdges.{IsTaken}
use Rattle.opt_rows.proofs.Lists.{get_replicate, contains_get}
use Rattle.opt_rows.proofs.FactsFalling.{at_top}
use Rattle.opt_rows.proofs.FactsEntering.{enters_stays}

true_both : (a b : Bool) → (a ≡ true → b ≡ true) → (b ≡ true → a ≡ true) → a ≡ b
true_both true b f g = sym (f refl)
true_both false true f g = g refl
true_both false false f g = refl

unseen_at : {A : Type 0} (rows : List Row) (i : ℕ) (r : Row) → slice_get rows i ≡ Some r → seen_of {A = A} (map unseen rows) i ≡ unseen r
unseen_at rows i r e = ap listed (slice_get-map unseen rows i ∙ ap (option_map unseen) e)

untaken_at : (rows : List Row) (i : ℕ) (r : Row) → slice_get rows i ≡ Some r → row_at (map untaken rows) i ≡ untaken r
untaken_at rows i r e = ap listed (slice_get-map untaken rows i ∙ ap (option_map untaken) e)

module _ {A : Type 0} where
  all_any_from : (f : ℕ → Known A) (vs : List ℕ) → ((v : ℕ) → Contains vs v → f v ≡ Any) → AllAny f vs
  all_any_from f [] h = tt
  all_any_from f (v ∷ vs) h = (h v (0, omega arith, refl), all_any_from f vs (λ u c. h u (suc c.0, omega (arith, c.1), c.2)))

  all_any_at : (f : ℕ → Known A) (vs : List ℕ) (v : ℕ) → AllAny f vs → (i : ℕ) → slice_get vs i ≡ Some v → f v ≡ Any
  all_any_at f [] v h i e = absurd (none-some v e)
  all_any_at f (u ∷ vs) v h zero e = subst (λ w. f w ≡ Any) (same_Some u v e) h.0
  all_any_at f (u ∷ vs) v h (suc i) e = all_any_at f vs v h.1 i e

  -- the entries were entered, and the values from outside given up
  pub begun : (p : FactsProblem) (a b c : Found A) (blocks values : List ℕ) → blocks ≡ p.entries.items → values ≡ p.outside.items → IsNothing a (length p.arguments.items) p.values → Meets (λ l. (n : ℕ) → Contains blocks n → RunsWithAny p l n) a b → Meets (λ l. AllAny l.of values) b c → IsFirstFound p c
  begun p a b c blocks values x y n f g = record {
    blocks_len = g.steps.blocks_len ∙ (f.steps.blocks_len ∙ n.blocks_len);
    values_len = g.steps.values_len ∙ (f.steps.values_len ∙ n.values_len);
    entered = record {
      entries = λ e k. enters_stays p e (facts_of b) (facts_of c) g.steps.falls (f.holds e (subst (λ xs. Contains xs e) (sym x) k));
      outside = subst (AllAny (facts_of c).of) y g.holds;
    };
    best = λ l h. g.steps.best l (subst (AllAny l.of) (sym y) h.outside) (f.steps.best l (λ e k. h.entries e (subst (λ xs. Contains xs e) x k))
        (record { fewer = λ e k. absurd (n.none e k); above = λ v. subst (AtOrBelow (l.of v)) (sym (n.undetermined v)) (at_top (l.of v)) }));
    blocks_wait = λ e k. ⊎_elim
        (λ o. ⊎_elim (λ z. absurd (n.none e z)) (λ z. g.steps.keeps_blocks e z) (f.steps.block_waits e o))
        (λ o. o)
        (g.steps.block_waits e k);
    values_wait = λ v. ⊎_elim
        (λ o. ⊎_elim (λ z. inl (o ∙ (z ∙ n.undetermined v))) (λ z. inr (g.steps.keeps_values v z)) (f.steps.value_waits v))
        (λ o. inr o)
        (g.steps.value_waits v);
  }

  module _ (ask : Answers A) (p : FactsProblem) (s : Solver A) (b : IsInitialSolver p s) where
    edges_at : (i : ℕ) (r : Row) → slice_get p.rows i ≡ Some r → row_at s.taken i ≡ untaken r
    edges_at i r a = ap (λ ts. row_at ts i) b.taken ∙ untaken_at p.rows i r a

    nothing_taken : (i n : ℕ) (r : Row) → slice_get p.rows i ≡ Some r → IsTaken s.taken i n → ⊥
    nothing_taken i n r a t = let e : true ≡ false = get_replicate (length r.edges) n false true (sym (ap (λ xs. slice_get xs n) (edges_at i r a)) ∙ t) in cc

    seen_at : (i : ℕ) (r : Row) → slice_get p.rows i ≡ Some r → seen_of s.seen i ≡ unseen r
    seen_at i r a = ap (λ ss. seen_of ss i) b.seen ∙ unseen_at p.rows i r a

    nothing_seen : (i j : ℕ) (r : Row) (x : Known A) → slice_get p.rows i ≡ Some r → slice_get (seen_of s.seen i) j ≡ Some x → x ≡ Undetermined
    nothing_seen i j r x a e = get_replicate (length r.operands) j Undetermined x (sym (ap (λ xs. slice_get xs j) (seen_at i r a)) ∙ e)

    pub begins_solving : IsSolving ask p s []
    begins_solving = record {
      blocks_len = b.found.blocks_len;
      values_len = b.found.values_len;
      marks_len = ap length b.marks ∙ length-replicate (length p.arguments.items) None;
      seen_len = ap length b.seen ∙ length-map p.rows unseen;
      taken_len = ap length b.taken ∙ length-map p.rows untaken;
      operands_len = λ i r a. ap length (seen_at i r a) ∙ length-replicate (length r.operands) Undetermined;
      edges_len = λ i r a. ap length (edges_at i r a) ∙ length-replicate (length r.edges) false;
      best = λ l c. b.found.best l (record { entries = c.entries; outside = all_any_from l.of p.outside.items c.outside });
      marks_best = λ l c i r a n e q k. absurd (none-some i (sym (get_replicate (length p.arguments.items) e.target None (Some i) (sym (ap (λ ms. slice_get ms e.target) b.marks) ∙ k))));
      taken_best = λ l c i n r e a q t. absurd (nothing_taken i n r a t);
      above = λ i j v r x a q e. subst (AtOrBelow ((facts_of s.found).of v)) (sym (nothing_seen i j r x a e)) (at_top ((facts_of s.found).of v));
      edges = λ i n r e a q t. absurd (nothing_taken i n r a t);
    }

    pub begins_waiting : IsWaiting ask p s [] []
    begins_waiting = record {
      entries = b.found.entered.entries;
      outside = λ v c. all_any_at (facts_of s.found).of p.outside.items v b.found.entered.outside (contains_get p.outside.items v c).0 (contains_get p.outside.items v c).1;
      rows = λ i r a e. inr (inl (b.found.blocks_wait r.block e));
      seen = λ i j v r x a q e. ⊎_elim (λ o. inl (o ∙ sym (nothing_seen i j r x a e))) (λ o. inr (inl o)) (b.found.values_wait v);
    }

  at_both : (x y : Known A) → AtOrBelow x y → AtOrBelow y x → x ≡ y
  at_both Undetermined Undetermined a b = refl
  at_both Undetermined (One d) a b = absurd a
  at_both Undetermined Any a b = absurd a
  at_both (One c) Undetermined a b = absurd b
  at_both (One c) (One d) a b = ap (λ z. One z) a
  at_both (One c) Any a b = absurd a
  at_both Any Undetermined a b = absurd b
  at_both Any (One d) a b = absurd b
  at_both Any Any a b = refl

  -- most precise facts are the same
  pub one_facts : (ask : Answers A) (p : FactsProblem) (k l : NumberedFacts A) → IsMostPreciseSolution ask p k → IsMostPreciseSolution ask p l → k ≡ l
  one_facts ask p k l f g = λ i. record { runs = λ b. same_runs b i; of = λ v. at_both (k.of v) (l.of v) ((g.best k f.closed).above v) ((f.best l g.closed).above v) i }
    where
      same_runs : (b : ℕ) → k.runs b ≡ l.runs b
      same_runs b = true_both (k.runs b) (l.runs b) ((f.best l g.closed).fewer b) ((g.best k f.closed).fewer b)
