-- What one step of a solver keeps, and what holds when there is none.
use Rattle.std.proofs.Common.{◌≡◌, ◌⊎◌, inl, inr, ⊎_elim, ℕ, zero, suc, ◌<◌, Bool, List, [], ◌∷◌, Option, Some, None, true, false, length, map, refl, sym, ap, ◌∙◌, subst, arith}
use Rattle.std.specs.Prelude.{Contains, slice_get, unwrap_or, not, count_by}
use Rattle.std.proofs.lemmas.Option.{same_Some}
use Rattle.std.proofs.lemmas.List.Elements.{Contains-push, Contains-push_cases}
use Rattle.opt_rows.specs.declared.known.Known.TheVariants.{Any}
use Rattle.opt_rows.specs.declared.facts_problem.Role.{Role}
use Rattle.opt_rows.specs.declared.facts_problem.Role.TheVariants.{Folds, Branches, Other}
use Rattle.opt_rows.specs.OperationRows.{BranchEdge, Row}
use Rattle.opt_rows.specs.declared.facts_problem.FactsProblem.{FactsProblem}
use Rattle.opt_rows.specs.declared.facts_found.Found.{Found}
use Rattle.opt_solvers.specs.declared.facts_tables.Place.{Place}
use Rattle.opt_solvers.specs.declared.facts_tables.Tables.{Tables}
use Rattle.opt_solvers.specs.declared.facts_solver.Solver.{Solver}
use Rattle.opt_rows.specs.Known.{AtOrBelow, MorePrecise, asked}
use Rattle.opt_rows.specs.KnownFalls.{heights}
use Rattle.opt_rows.specs.Facts.{Answers, NumberedFacts, as_facts, arguments_of, RunsWithAny, RowEdgeClosed, EdgesClosed, ResultsClosed, RoleClosed, IsMostPreciseSolution}
use Rattle.opt_rows.specs.FactsFound.{facts_of, TakesBlock, TakesValue, HasNoBlock, HasNoValue}
use Rattle.opt_rows.specs.Rows.{row_at}
use Rattle.opt_solvers.specs.FactsTables.{AreTables}
use Rattle.opt_solvers.specs.FactsSolving.{seen_of, AnyResults, Started, EdgesTaken, Refreshed, IsSolving, IsWaiting, VisitsOperations, HasToTell, IsStep}
use Rattle.opt_steps.specs.FactsEdges.{IsTaken}
use Rattle.opt_steps.proofs.FactsEdging.{forwards_to}
use Rattle.opt_solvers.proofs.FactsAsking.{same_lists}
use Rattle.opt_solvers.proofs.FactsTelling.{waiting_steps}

none_contained : {X : Type 0} (xs : List X) (x : X) → xs ≡ [] → Contains xs x → ⊥
none_contained xs x e c = let n = ap length e in omega (arith, c.1, n)

-- a block that runs is one of the blocks
running_inside : {A : Type 0} (s : Found A) (b : ℕ) → (facts_of s).runs b ≡ true → b < length s.runs.items
running_inside s b e = inside s.runs.items b e
  where
    inside : (xs : List Bool) (i : ℕ) → unwrap_or (slice_get xs i) false ≡ true → i < length xs
    inside [] i q = absurd (cc q)
    inside (x ∷ xs) zero q = omega arith
    inside (x ∷ xs) (suc i) q = let h = inside xs i q in omega (arith, h)

module _ {A : Type 0} (ask : Answers A) (p : FactsProblem) where
  module _ (s : Solver A) (f : Found A) (runs : f.runs ≡ s.found.runs) (known : f.known ≡ s.found.known) where
    same_facts : facts_of s.found ≡ facts_of f
    same_facts = sym (λ i. as_facts (runs i).items (known i).items)

    -- something is taken from the lists
    pub solving_popped : (popped after : List ℕ) → ((u : ℕ) → Contains s.found.values.items u ⊎ Contains popped u → Contains f.values.items u ⊎ Contains after u) → IsSolving ask p s popped → IsSolving ask p (record { found = f; seen = s.seen; taken = s.taken; marks = s.marks }) after
    solving_popped popped after h d = record {
      blocks_len = ap (λ x. length x.items) runs ∙ d.blocks_len;
      values_len = ap (λ x. length x.items) known ∙ d.values_len;
      marks_len = d.marks_len;
      seen_len = d.seen_len;
      taken_len = d.taken_len;
      operands_len = d.operands_len;
      edges_len = d.edges_len;
      best = λ l c. subst (λ k. MorePrecise k l) same_facts (d.best l c);
      marks_best = d.marks_best;
      taken_best = d.taken_best;
      above = λ i j v r x a b e. subst (λ (k : NumberedFacts A). AtOrBelow (k.of v) x) same_facts (d.above i j v r x a b e);
      edges = λ i n r e a b t. record {
        target = subst (λ (k : NumberedFacts A). k.runs e.target ≡ true) same_facts (d.edges i n r e a b t).target;
        arguments = λ v w z. ⊎_elim (λ o. inl (subst (λ (k : NumberedFacts A). AtOrBelow (k.of w) (k.of v)) same_facts o)) (λ o. inr (h v o)) ((d.edges i n r e a b t).arguments v w z);
      };
    }

    pub waiting_popped : (rest places : List Place) (rows after : List ℕ)
        → ((i : ℕ) (r : Row) → slice_get p.rows i ≡ Some r → Contains s.found.blocks.items r.block ⊎ Contains rows i → Contains f.blocks.items r.block ⊎ Contains after i)
        → ((i j v : ℕ) (r : Row) → slice_get p.rows i ≡ Some r → slice_get r.operands j ≡ Some v → Contains s.found.values.items v ⊎ Contains rest (record { row = i; operand = j }) → Contains f.values.items v ⊎ Contains places (record { row = i; operand = j }))
        → IsWaiting ask p s rows rest → IsWaiting ask p (record { found = f; seen = s.seen; taken = s.taken; marks = s.marks }) after places
    waiting_popped rest places rows after g h d = record {
      entries = λ b c. subst (λ k. RunsWithAny p k b) same_facts (d.entries b c);
      outside = λ v c. subst (λ (k : NumberedFacts A). k.of v ≡ Any) same_facts (d.outside v c);
      rows = λ i r a e. ⊎_elim
          (λ o. inl (record { started = subst (Started p r) same_facts o.started; refreshed = subst (λ k. Refreshed ask k i r r.role (seen_of s.seen i) (row_at s.taken i)) same_facts o.refreshed }))
          (λ o. inr (g i r a o))
          (d.rows i r a (subst (λ (k : NumberedFacts A). k.runs r.block ≡ true) (sym same_facts) e));
      seen = λ i j v r x a b e. ⊎_elim
          (λ o. inl (subst (λ (k : NumberedFacts A). k.of v ≡ x) same_facts o))
          (λ o. inr (h i j v r a b o))
          (d.seen i j v r x a b e);
    }

  module _ (tables : Tables) (ok : AreTables p tables) (s : Solver A) (d : IsSolving ask p s []) (w : IsWaiting ask p s [] []) where
    -- a block is taken, and its operations are visited
    module _ (f : Found A) (b : ℕ) (k : TakesBlock s.found f b) where
      pub block_inside : b < length p.arguments.items
      block_inside = let h = running_inside s.found b k.running in let l = d.blocks_len in omega (arith, h, l)

      pub block_runs : (facts_of f).runs b ≡ true
      block_runs = subst (λ x. unwrap_or (slice_get x.items b) false ≡ true) (sym k.runs) k.running

      pub block_solving : IsSolving ask p (record { found = f; seen = s.seen; taken = s.taken; marks = s.marks }) []
      block_solving = solving_popped s f k.runs k.known [] [] (λ u o. subst (λ x. Contains x.items u ⊎ Contains [] u) (sym k.values) o) d

      block_waiting : IsWaiting ask p (record { found = f; seen = s.seen; taken = s.taken; marks = s.marks }) (row_at tables.rows b) []
      block_waiting = waiting_popped s f k.runs k.known [] [] [] (row_at tables.rows b)
          (λ i r a o. ⊎_elim
          (λ c. ⊎_elim (λ z. inl z) (λ z. inr (ok.rows.has b i (record { row = r; there = a; block = sym z }))) (Contains-push_cases f.blocks.items b r.block (subst (λ xs. Contains xs r.block) k.rest c)))
          (λ c. absurd (none_contained [] i refl c)) o)
          (λ i j v r a e o. subst (λ x. Contains x.items v ⊎ Contains {X = Place} [] (record { row = i; operand = j })) (sym k.values) o) w

      pub block_stepped : (t : Solver A) → VisitsOperations ask p (record { found = f; seen = s.seen; taken = s.taken; marks = s.marks }) t (λ i r. r.block ≡ b) → IsStep ask p s t true
      block_stepped t v = record {
        solving = v.solving;
        waiting = record {
          entries = g.entries;
          outside = g.outside;
          rows = λ i r a e. ⊎_elim
              (λ o. inl o)
              (λ o. ⊎_elim
              (λ z. inr (inl z))
              (λ z. let y = ok.rows.only b i z in inl (v.done i r (ap (λ (x : Row). x.block) (same_Some r y.row (sym a ∙ y.there)) ∙ y.block) a)) o)
              (g.rows i r a e);
          seen = g.seen;
        };
        less = λ e. omega (arith, v.steps.found.work, k.work);
        no_blocks = λ e. absurd (cc e);
        no_values = λ e. absurd (cc e);
      }
        where
          g : IsWaiting ask p t (row_at tables.rows b) []
          g = waiting_steps ask p (record { found = f; seen = s.seen; taken = s.taken; marks = s.marks }) t (row_at tables.rows b) [] v.steps block_waiting

    -- a value is taken, and told
    module _ (f h : Found A) (n : HasNoBlock s.found f) where
      module _ (v : ℕ) (k : TakesValue f h v) where
        popped_value : (u : ℕ) → Contains s.found.values.items u → Contains h.values.items u ⊎ (v ≡ u)
        popped_value u c = Contains-push_cases h.values.items v u (subst (λ xs. Contains xs u) k.rest (subst (λ x. Contains x.items u) (sym n.values) c))

        pub value_inside : v < p.values
        value_inside = let h = k.in_range in let m = ap (λ x. length x.items) n.known in let l = d.values_len in omega (arith, h, m, l)

        pub value_solving : IsSolving ask p (record { found = h; seen = s.seen; taken = s.taken; marks = s.marks }) (v ∷ [])
        value_solving = solving_popped s h (k.runs ∙ n.runs) (k.known ∙ n.known) [] (v ∷ [])
            (λ u o. ⊎_elim (λ c. ⊎_elim (λ z. inl z) (λ z. inr (subst (Contains (v ∷ [])) z (Contains-push [] v))) (popped_value u c)) (λ c. absurd (none_contained [] u refl c)) o) d

        pub value_waiting : IsWaiting ask p (record { found = h; seen = s.seen; taken = s.taken; marks = s.marks }) [] (row_at tables.readers v)
        value_waiting = waiting_popped s h (k.runs ∙ n.runs) (k.known ∙ n.known) [] (row_at tables.readers v) [] []
            (λ i r a o. ⊎_elim (λ c. absurd (none_contained s.found.blocks.items r.block n.was c)) (λ c. inr c) o)
            (λ i j u r a e o. ⊎_elim
            (λ c. ⊎_elim (λ z. inl z) (λ z. inr (ok.readers.has v (record { row = i; operand = j }) (record { row = r; there = a; operand = e ∙ ap (λ y. Some y) (sym z) }))) (popped_value u c))
            (λ c. absurd (none_contained {X = Place} [] (record { row = i; operand = j }) refl c)) o) w

        pub value_stepped : (t : Solver A) → HasToTell ask p h t [] → IsStep ask p s t true
        value_stepped t g = record {
          solving = g.solving;
          waiting = g.waiting;
          less = λ e.
              let a = ap (λ x. count_by not x.items) n.runs in
              let b = ap (λ x. heights x.items) n.known in
              let c = ap (λ x. length x.items) n.values in
              let y = ap length n.was in
              let z = ap length n.is in omega (arith, g.work, k.work, a, b, c, y, z);
          no_blocks = λ e. absurd (cc e);
          no_values = λ e. absurd (cc e);
        }

      -- nothing waits
      pub idle : HasNoValue f h → IsStep ask p s (record { found = h; seen = s.seen; taken = s.taken; marks = s.marks }) false
      idle k = record {
        solving = solving_popped s h (k.runs ∙ n.runs) (k.known ∙ n.known) [] [] (λ u o. ⊎_elim (λ c. absurd (none_contained f.values.items u k.was (subst (λ x. Contains x.items u) (sym n.values) c))) (λ c. inr c) o) d;
        waiting = waiting_popped s h (k.runs ∙ n.runs) (k.known ∙ n.known) [] [] [] []
            (λ i r a o. ⊎_elim (λ c. absurd (none_contained s.found.blocks.items r.block n.was c)) (λ c. inr c) o)
            (λ i j u r a e o. ⊎_elim (λ c. absurd (none_contained f.values.items u k.was (subst (λ x. Contains x.items u) (sym n.values) c))) (λ c. inr c) o) w;
        less = λ e. absurd (cc e);
        no_blocks = λ e. ap (λ x. x.items) k.blocks ∙ n.is;
        no_values = λ e. k.is;
      }

  -- where nothing waits, the facts are closed
  module _ (s : Solver A) (d : IsSolving ask p s []) (w : IsWaiting ask p s [] []) (no_blocks : s.found.blocks.items ≡ []) (no_values : s.found.values.items ≡ []) where
    all_seen : (i : ℕ) (r : Row) → slice_get p.rows i ≡ Some r → seen_of s.seen i ≡ map (facts_of s.found).of r.operands
    all_seen i r a = same_lists (facts_of s.found).of r.operands (seen_of s.seen i) (d.operands_len i r a)
        (λ j v x b e. ⊎_elim (λ o. o) (λ o. absurd (⊎_elim (λ c. none_contained s.found.values.items v no_values c) (λ c. none_contained {X = Place} [] (record { row = i; operand = j }) refl c) o)) (w.seen i j v r x a b e))

    edge_closed : (i n : ℕ) (r : Row) (e : BranchEdge) → slice_get p.rows i ≡ Some r → slice_get r.edges n ≡ Some e → IsTaken s.taken i n → RowEdgeClosed p (facts_of s.found) r e
    edge_closed i n r e a b t = record {
      target = (d.edges i n r e a b t).target;
      arguments = forwards_to (facts_of s.found) (arguments_of p e.target) e.forwards r.operands
          (λ v u z. ⊎_elim (λ o. o) (λ o. absurd (⊎_elim (λ c. none_contained s.found.values.items v no_values c) (λ c. none_contained [] v refl c) o)) ((d.edges i n r e a b t).arguments v u z));
    }

    edges_closed : (i : ℕ) (r : Row) (q : Option (List (Option A))) → slice_get p.rows i ≡ Some r → EdgesTaken ask i r (row_at s.taken i) q → EdgesClosed ask p (facts_of s.found) i r q
    edges_closed i r None a h = tt
    edges_closed i r (Some xs) a h = λ n e b f. edge_closed i n r e a b (h n e b f)

    role_closed : (i : ℕ) (r : Row) (role : Role) → slice_get p.rows i ≡ Some r → AnyResults r.results role (facts_of s.found) → Refreshed ask (facts_of s.found) i r role (seen_of s.seen i) (row_at s.taken i) → RoleClosed ask p (facts_of s.found) i r role
    role_closed i r Folds a g h = subst (λ xs. ResultsClosed ask (facts_of s.found) i r (asked xs)) (all_seen i r a) h
    role_closed i r Branches a g h = (g, subst (λ xs. EdgesClosed ask p (facts_of s.found) i r (asked xs)) (all_seen i r a) (edges_closed i r (asked (seen_of s.seen i)) a h))
    role_closed i r Other a g h = g

    pub solved : IsMostPreciseSolution ask p (facts_of s.found)
    solved = record {
      closed = record {
        entries = w.entries;
        outside = w.outside;
        rows = λ i r a e. ⊎_elim
            (λ o. record { role = role_closed i r r.role a o.started.results o.refreshed; entries = o.started.entries })
            (λ o. absurd (⊎_elim (λ c. none_contained s.found.blocks.items r.block no_blocks c) (λ c. none_contained [] i refl c) o))
            (w.rows i r a e);
      };
      best = d.best;
    }
