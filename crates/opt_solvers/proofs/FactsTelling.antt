-- What telling a value's fact keeps.
use Rattle.std.proofs.Common.{◌≡◌, ◌⊎◌, inl, inr, ⊎_elim, ℕ, ◌<◌, List, [], ◌∷◌, ◌++◌, Some, Bool, true, length, get_or, refl, sym, ap, ◌∙◌, subst, arith}
use Rattle.std.specs.Prelude.{Contains, slice_get}
use Rattle.std.proofs.Math.ListN.{set}
use Rattle.std.proofs.lemmas.Option.{slice_get_within, same_Some}
use Rattle.std.proofs.lemmas.List.{length-set}
use Rattle.std.proofs.lemmas.List.Elements.{Contains-push, Contains-push_cases, Contains-append_left, Contains-append_cases}
use Rattle.opt_rows.specs.declared.known.Known.{Known}
use Rattle.opt_rows.specs.declared.known.Known.TheVariants.{Undetermined}
use Rattle.opt_rows.specs.OperationRows.{Row}
use Rattle.opt_rows.specs.declared.facts_problem.FactsProblem.{FactsProblem}
use Rattle.opt_rows.specs.Rows.{row_at}
use Rattle.opt_rows.specs.declared.facts_found.Found.{Found}
use Rattle.opt_solvers.specs.declared.facts_tables.Place.{Place}
use Rattle.opt_solvers.specs.declared.facts_tables.Slot.{Slot}
use Rattle.opt_solvers.specs.declared.facts_tables.Tables.{Tables}
use Rattle.opt_solvers.specs.declared.facts_solver.Solver.{Solver}
use Rattle.opt_rows.specs.Known.{AtOrBelow, MorePrecise}
use Rattle.opt_rows.specs.Facts.{Answers, NumberedFacts, arguments_of, IsClosedSolution, IsProblem}
use Rattle.opt_rows.specs.FactsFound.{facts_of, Falls, Meets}
use Rattle.opt_solvers.specs.FactsTables.{ReadsValue, AreTables}
use Rattle.opt_steps.specs.FactsEdges.{ForwardsToArgument, IsTaken}
use Rattle.opt_solvers.specs.FactsSolving.{seen_of, SlotBelow, SlotsBelow, Refreshed, IsSolving, IsWaiting, SolverSteps, Refreshes, Sees, HasToTell}
use Rattle.opt_rows.proofs.Lists.{decide, get-set_same, get-set_other, get_contains, table-set_same, table-set_other, contains_first, contains_behind}
use Rattle.opt_rows.proofs.FactsFalling.{at_same, at_trans, falls_none, falls_as, meets_then, meets_as, meets_none, any_below, or_read}
use Rattle.opt_rows.proofs.FactsEntering.{enters_stays}
use Rattle.opt_steps.proofs.FactsEdging.{forwards_from, lie_stays}
use Rattle.opt_solvers.proofs.FactsVisiting.{done_stays, started_stays, refreshed_stays}

pub one_contained : (v u : ℕ) → Contains (v ∷ []) u → u ≡ v
one_contained v u c = ⊎_elim (λ a. absurd (omega (arith, a.1))) (λ e. sym e) (Contains-push_cases [] v u c)

one_place : (x y : Place) → Contains (x ∷ []) y → y ≡ x
one_place x y c = ⊎_elim (λ a. absurd (omega (arith, a.1))) (λ e. sym e) (Contains-push_cases [] x y c)

module _ {A : Type 0} where
  slots_stay : (taken : List (List Bool)) (slots : List Slot) (fact : Known A) (k l : NumberedFacts A) → MorePrecise k l → SlotsBelow taken slots fact k → SlotsBelow taken slots fact l
  slots_stay taken slots fact k l m d x c t = at_trans (l.of x.argument) (k.of x.argument) fact (m.above x.argument) (d x c t)

  pub slots_none : (taken : List (List Bool)) (fact : Known A) (a : Found A) → Meets (SlotsBelow taken [] fact) a a
  slots_none taken fact a = meets_none (SlotsBelow taken [] fact) a (λ x c t. absurd (omega (arith, c.1)))

  -- the next slot
  pub slot_more : (taken : List (List Bool)) (slots : List Slot) (fact : Known A) (x : Slot) (a b c : Found A) → Meets (SlotsBelow taken slots fact) a b → Meets (SlotBelow taken x fact) b c → Meets (SlotsBelow taken (slots ++ x ∷ []) fact) a c
  slot_more taken slots fact x a b c p q =
      meets_then (SlotsBelow taken slots fact) (SlotBelow taken x fact) (SlotsBelow taken (slots ++ x ∷ []) fact)
      (λ l g y d. g y (Contains-append_left slots (x ∷ []) y d))
      (λ l g. g x (Contains-push slots x))
      (λ l d g y w. ⊎_elim (λ o. d y o) (λ o. subst (λ (z : Slot). SlotBelow taken z fact l) o g) (Contains-push_cases slots x y w))
      (slots_stay taken slots fact) a b c p q

  -- its edge is taken, or not
  pub slot_lowered : (taken : List (List Bool)) (x : Slot) (fact : Known A) (a b : Found A) → IsTaken taken x.row x.edge → Meets (λ l. AtOrBelow (l.of x.argument) fact) a b → Meets (SlotBelow taken x fact) a b
  slot_lowered taken x fact a b t m = meets_as (λ l. AtOrBelow (l.of x.argument) fact) (SlotBelow taken x fact) (λ l g. g t) (λ l d k. d) a b m

  pub slot_untaken : (taken : List (List Bool)) (x : Slot) (fact : Known A) (a : Found A) → (IsTaken taken x.row x.edge → ⊥) → Meets (SlotBelow taken x fact) a a
  slot_untaken taken x fact a t = meets_none (SlotBelow taken x fact) a (λ k. absurd (t k))

  module _ (ask : Answers A) (p : FactsProblem) where
    -- what is left to do after steps
    pub waiting_steps : (s t : Solver A) (rest : List ℕ) (places : List Place) → SolverSteps ask p s t → IsWaiting ask p s rest places → IsWaiting ask p t rest places
    waiting_steps s t rest places f d = record {
      entries = λ b c. enters_stays p b (facts_of s.found) (facts_of t.found) f.found.falls (d.entries b c);
      outside = λ v c. any_below ((facts_of t.found).of v) ((facts_of s.found).of v) (f.found.falls.above v) (d.outside v c);
      rows = λ i r a e. ⊎_elim
          (λ o. ⊎_elim
          (λ w. inl (done_stays ask p s t i r f w))
          (λ w. inr (⊎_elim (λ z. inl (f.found.keeps_blocks r.block z)) (λ z. inr z) w))
          (d.rows i r a o))
          (λ o. inr (inl o))
          (f.found.block_waits r.block e);
      seen = λ i j v r x a b e. ⊎_elim
          (λ o. ⊎_elim (λ z. inl (z ∙ o)) (λ z. inr (inl z)) (f.found.value_waits v))
          (λ o. inr (⊎_elim (λ z. inl (f.found.keeps_values v z)) (λ z. inr z) o))
          (d.seen i j v r x a b (subst (λ ss. slice_get (seen_of ss i) j ≡ Some x) f.seen e));
    }

    -- the arguments that a value is forwarded to are lowered
    module _ (tables : Tables) (ok : AreTables p tables) (s : Solver A) (v : ℕ) (fact : Known A) (f : Found A) (d : IsSolving ask p s (v ∷ [])) (is : (facts_of s.found).of v ≡ fact) (m : Meets (SlotsBelow s.taken (row_at tables.slots v) fact) s.found f) where
      pub slots_best : (l : NumberedFacts A) → IsClosedSolution ask p l → SlotsBelow s.taken (row_at tables.slots v) fact l
      slots_best l c x o t =
          let w = ok.slots.only v x o in
          let e = d.taken_best l c x.row x.edge w.row w.along.edge w.there w.along.there t in
          subst (AtOrBelow (l.of x.argument)) is (at_trans (l.of x.argument) (l.of v) ((facts_of s.found).of v) (forwards_from l (arguments_of p w.along.edge.target) w.along.edge.forwards w.row.operands e.arguments v x.argument w.along.forwards) ((d.best l c).above v))

      pub slots_fall : Falls (IsClosedSolution ask p) s.found f
      slots_fall = falls_as (SlotsBelow s.taken (row_at tables.slots v) fact) (IsClosedSolution ask p) slots_best s.found f m.steps

      pub value_forwarded : IsSolving ask p (record { found = f; seen = s.seen; taken = s.taken; marks = s.marks }) []
      value_forwarded = record {
        blocks_len = slots_fall.blocks_len ∙ d.blocks_len;
        values_len = slots_fall.values_len ∙ d.values_len;
        marks_len = d.marks_len;
        seen_len = d.seen_len;
        taken_len = d.taken_len;
        operands_len = d.operands_len;
        edges_len = d.edges_len;
        best = λ l c. slots_fall.best l c (d.best l c);
        marks_best = d.marks_best;
        taken_best = d.taken_best;
        above = λ i j u r x a b e. at_trans ((facts_of f).of u) ((facts_of s.found).of u) x (slots_fall.falls.above u) (d.above i j u r x a b e);
        edges = λ i n r e a b t. record {
          target = slots_fall.falls.fewer e.target (d.edges i n r e a b t).target;
          arguments = λ u w z. ⊎_elim
              (λ o. inl o)
              (λ o. ⊎_elim
              (λ y. inr (inl y))
              (λ y. let q : u ≡ v = one_contained v u y in
              ⊎_elim
              (λ k. inl (subst (λ g. AtOrBelow ((facts_of f).of w) ((facts_of f).of g)) (sym q) (subst (AtOrBelow ((facts_of f).of w)) (sym (k ∙ is))
              (m.holds (record { row = i; edge = n; argument = w }) (ok.slots.has v (record { row = i; edge = n; argument = w }) (record { row = r; there = a; along = record { edge = e; there = b; forwards = subst (λ g. ForwardsToArgument (arguments_of p e.target) e.forwards r.operands g w) q z } })) t))))
              (λ k. inr (inl (subst (Contains f.values.items) (sym q) k)))
              (slots_fall.value_waits v))
              o)
              (lie_stays (IsClosedSolution ask p) (arguments_of p e.target) e.forwards r.operands (v ∷ []) s.found f slots_fall (d.edges i n r e a b t).arguments u w z);
        };
      }

    -- one place sees what is known
    module _ (s : Solver A) (v : ℕ) (x : Place) (seen : List (List (Known A))) (fact : Known A) (ok : IsProblem p) (d : IsSolving ask p s []) (w : ReadsValue p.rows v x) (read : fact ≡ get_or s.found.known.items v fact) (all : seen ≡ set s.seen x.row (set (seen_of s.seen x.row) x.operand fact)) where
      at : x.row < length s.seen
      at = subst (λ n. x.row < n) (sym d.seen_len) (slice_get_within p.rows x.row w.row w.there)

      is : (facts_of s.found).of v ≡ fact
      is = or_read s.found.known.items v fact Undetermined (subst (λ n. v < n) (sym d.values_len) ((ok.rows w.row (get_contains p.rows x.row w.row w.there)).operands v (get_contains w.row.operands x.operand v w.operand))) read

      after : seen_of seen x.row ≡ set (seen_of s.seen x.row) x.operand fact
      after = ap (λ ss. seen_of ss x.row) all ∙ table-set_same s.seen x.row (set (seen_of s.seen x.row) x.operand fact) at

      others : (i : ℕ) → (i ≡ x.row → ⊥) → seen_of seen i ≡ seen_of s.seen i
      others i h = ap (λ ss. seen_of ss i) all ∙ table-set_other s.seen x.row i (set (seen_of s.seen x.row) x.operand fact) h

      within : x.operand < length (seen_of s.seen x.row)
      within = subst (λ n. x.operand < n) (sym (d.operands_len x.row w.row w.there)) (slice_get_within w.row.operands x.operand v w.operand)

      here : slice_get (seen_of seen x.row) x.operand ≡ Some fact
      here = ap (λ xs. slice_get xs x.operand) after ∙ get-set_same (seen_of s.seen x.row) x.operand fact within

      other_places : (j : ℕ) → (j ≡ x.operand → ⊥) → slice_get (seen_of seen x.row) j ≡ slice_get (seen_of s.seen x.row) j
      other_places j h = ap (λ xs. slice_get xs j) after ∙ get-set_other (seen_of s.seen x.row) x.operand j fact h

      pub place_solving : IsSolving ask p (record { found = s.found; seen = seen; taken = s.taken; marks = s.marks }) []
      place_solving = record {
        blocks_len = d.blocks_len;
        values_len = d.values_len;
        marks_len = d.marks_len;
        seen_len = ap length all ∙ (length-set s.seen x.row (set (seen_of s.seen x.row) x.operand fact) ∙ d.seen_len);
        taken_len = d.taken_len;
        operands_len = λ i r a. ⊎_elim
            (λ z. ap length (ap (seen_of seen) z ∙ after) ∙ (length-set (seen_of s.seen x.row) x.operand fact ∙ (ap (λ k. length (seen_of s.seen k)) (sym z) ∙ d.operands_len i r a)))
            (λ z. ap length (others i z) ∙ d.operands_len i r a)
            (decide i x.row);
        edges_len = d.edges_len;
        best = d.best;
        marks_best = d.marks_best;
        taken_best = d.taken_best;
        above = λ i j u r y a b e. ⊎_elim
            (λ z. ⊎_elim
            (λ k. let q : w.row ≡ r = same_Some w.row r (sym w.there ∙ (ap (slice_get p.rows) (sym z) ∙ a)) in
            let g : v ≡ u = same_Some v u (sym w.operand ∙ (ap (λ (t : Row). slice_get t.operands x.operand) q ∙ (ap (slice_get r.operands) (sym k) ∙ b))) in
            let f : fact ≡ y = same_Some fact y (sym here ∙ (ap (slice_get (seen_of seen x.row)) (sym k) ∙ (ap (λ n. slice_get (seen_of seen n) j) (sym z) ∙ e))) in
            at_same ((facts_of s.found).of u) y (ap (facts_of s.found).of (sym g) ∙ (is ∙ f)))
            (λ k. d.above i j u r y a b (ap (λ n. slice_get (seen_of s.seen n) j) z ∙ (sym (other_places j k) ∙ (ap (λ n. slice_get (seen_of seen n) j) (sym z) ∙ e))))
            (decide j x.operand))
            (λ z. d.above i j u r y a b (ap (λ xs. slice_get xs j) (sym (others i z)) ∙ e))
            (decide i x.row);
        edges = d.edges;
      }

      -- and its operation was looked at, or does not run
      pub place_refreshed : (t : Solver A) → Refreshes ask p (record { found = s.found; seen = seen; taken = s.taken; marks = s.marks }) t x.row → Sees ask p s t v x
      place_refreshed t f = record {
        solving = f.solving;
        found = f.steps.found;
        taken = f.steps.taken;
        others = λ i h. ap (λ ss. seen_of ss i) f.steps.seen ∙ others i h;
        other_places = λ j h. ap (λ ss. slice_get (seen_of ss x.row) j) f.steps.seen ∙ other_places j h;
        here = ap (λ ss. slice_get (seen_of ss x.row) x.operand) f.steps.seen ∙ (here ∙ ap (λ y. Some y) (sym is));
        refreshed = λ r a e. f.done r a;
      }

      pub place_idle : ((facts_of s.found).runs w.row.block ≡ true → ⊥) → Sees ask p s (record { found = s.found; seen = seen; taken = s.taken; marks = s.marks }) v x
      place_idle h = record {
        solving = place_solving;
        found = falls_none (IsClosedSolution ask p) s.found;
        taken = λ i n t. t;
        others = others;
        other_places = other_places;
        here = here ∙ ap (λ y. Some y) (sym is);
        refreshed = λ r a e. absurd (h (ap (λ (t : Row). (facts_of s.found).runs t.block) (same_Some w.row r (sym w.there ∙ a)) ∙ e));
      }

    -- the next place is told
    pub place_told : (s t : Solver A) (v : ℕ) (x : Place) (places rest : List Place) → places ≡ x ∷ rest → ReadsValue p.rows v x → Sees ask p s t v x → IsWaiting ask p s [] places → IsWaiting ask p t [] rest
    place_told s t v x places rest e w f d = record {
      entries = λ b c. enters_stays p b (facts_of s.found) (facts_of t.found) f.found.falls (d.entries b c);
      outside = λ u c. any_below ((facts_of t.found).of u) ((facts_of s.found).of u) (f.found.falls.above u) (d.outside u c);
      rows = λ i r a k. ⊎_elim
          (λ o. ⊎_elim
          (λ g. inl (record {
            started = started_stays p r (facts_of s.found) (facts_of t.found) f.found.falls g.started;
            refreshed = ⊎_elim
                (λ z. subst (λ n. Refreshed ask (facts_of t.found) n r r.role (seen_of t.seen n) (row_at t.taken n)) (sym z) (f.refreshed r (ap (slice_get p.rows) (sym z) ∙ a) o))
                (λ z. subst (λ xs. Refreshed ask (facts_of t.found) i r r.role xs (row_at t.taken i)) (sym (f.others i z)) (refreshed_stays ask (facts_of s.found) (facts_of t.found) i r r.role (seen_of s.seen i) (row_at s.taken i) (row_at t.taken i) f.found.falls (f.taken i) g.refreshed))
                (decide i x.row);
          }))
          (λ g. inr (⊎_elim (λ z. inl (f.found.keeps_blocks r.block z)) (λ z. inr z) g))
          (d.rows i r a o))
          (λ o. inr (inl o))
          (f.found.block_waits r.block k);
      seen = λ i j u r y a b k. ⊎_elim
          (λ z. ⊎_elim
          (λ g. let q : w.row ≡ r = same_Some w.row r (sym w.there ∙ (ap (slice_get p.rows) (sym z) ∙ a)) in
          let h : v ≡ u = same_Some v u (sym w.operand ∙ (ap (λ (n : Row). slice_get n.operands x.operand) q ∙ (ap (slice_get r.operands) (sym g) ∙ b))) in
          let m : (facts_of s.found).of v ≡ y = same_Some _ y (sym f.here ∙ (ap (slice_get (seen_of t.seen x.row)) (sym g) ∙ (ap (λ n. slice_get (seen_of t.seen n) j) (sym z) ∙ k))) in
          ⊎_elim (λ c. inl (ap (facts_of t.found).of (sym h) ∙ (c ∙ m))) (λ c. inr (inl (subst (Contains t.found.values.items) h c))) (f.found.value_waits v))
          (λ g. old i j u r y (λ c. g (ap (λ (n : Place). n.operand) c)) a b (ap (λ n. slice_get (seen_of s.seen n) j) z ∙ (sym (f.other_places j g) ∙ (ap (λ n. slice_get (seen_of t.seen n) j) (sym z) ∙ k))))
          (decide j x.operand))
          (λ z. old i j u r y (λ c. z (ap (λ (n : Place). n.row) c)) a b (ap (λ xs. slice_get xs j) (sym (f.others i z)) ∙ k))
          (decide i x.row);
    }
      where
        old : (i j u : ℕ) (r : Row) (y : Known A) → (◌≡◌ {A = Place} (record { row = i; operand = j }) x → ⊥) → slice_get p.rows i ≡ Some r → slice_get r.operands j ≡ Some u → slice_get (seen_of s.seen i) j ≡ Some y → ((facts_of t.found).of u ≡ y) ⊎ (Contains t.found.values.items u ⊎ Contains rest (record { row = i; operand = j }))
        old i j u r y h a b k = ⊎_elim
            (λ o. ⊎_elim (λ z. inl (z ∙ o)) (λ z. inr (inl z)) (f.found.value_waits u))
            (λ o. inr (⊎_elim
            (λ z. inl (f.found.keeps_values u z))
            (λ z. ⊎_elim (λ c. absurd (h (one_place x (record { row = i; operand = j }) c))) (λ c. inr c) (Contains-append_cases (x ∷ []) rest (record { row = i; operand = j }) (subst (λ xs. Contains xs (record { row = i; operand = j })) e z)))
            o))
            (d.seen i j u r y a b k)

    -- these places have still to be told, each of which reads the value
    pub record ToldUpTo (o : Found A) (s : Solver A) (v : ℕ) (places : List Place) : Type 0 where
      pub tells : HasToTell ask p o s places
      pub reads : (x : Place) → Contains places x → ReadsValue p.rows v x

    pub next_reads : (o : Found A) (s : Solver A) (v : ℕ) (x : Place) (places rest : List Place) → places ≡ x ∷ rest → ToldUpTo o s v places → ReadsValue p.rows v x
    next_reads o s v x places rest e d = d.reads x (subst (λ xs. Contains xs x) (sym e) (contains_first x rest))

    pub next_told : (o : Found A) (s t : Solver A) (v : ℕ) (x : Place) (places rest : List Place) → places ≡ x ∷ rest → ToldUpTo o s v places → Sees ask p s t v x → ToldUpTo o t v rest
    next_told o s t v x places rest e d f = record {
      tells = record { solving = f.solving; waiting = place_told s t v x places rest e (next_reads o s v x places rest e d) f d.tells.waiting; work = omega (arith, f.found.work, d.tells.work) };
      reads = λ y c. d.reads y (subst (λ xs. Contains xs y) (sym e) (contains_behind x rest y c));
    }

    pub told_begins : (tables : Tables) (ok : AreTables p tables) (s : Solver A) (v : ℕ) (fact : Known A) (f : Found A) (slots : List Slot) (places : List Place) → IsSolving ask p s (v ∷ []) → (facts_of s.found).of v ≡ fact → slots ≡ row_at tables.slots v → places ≡ row_at tables.readers v → Meets (SlotsBelow s.taken slots fact) s.found f → IsWaiting ask p s [] (row_at tables.readers v) → ToldUpTo s.found (record { found = f; seen = s.seen; taken = s.taken; marks = s.marks }) v places
    told_begins tables ok s v fact f slots places d is e g m w =
        let n : Meets (SlotsBelow s.taken (row_at tables.slots v) fact) s.found f = subst (λ xs. Meets (SlotsBelow s.taken xs fact) s.found f) e m in
        let h = slots_fall tables ok s v fact f d is n in
        record {
          tells = record {
            solving = value_forwarded tables ok s v fact f d is n;
            waiting = waiting_steps s (record { found = f; seen = s.seen; taken = s.taken; marks = s.marks }) [] places (record { found = h; seen = refl; taken = λ i j t. t }) (subst (IsWaiting ask p s []) (sym g) w);
            work = h.work;
          };
          reads = λ x c. ok.readers.only v x (subst (λ xs. Contains xs x) g c);
        }

    pub told_all : (o : Found A) (s : Solver A) (v : ℕ) (places : List Place) → places ≡ [] → ToldUpTo o s v places → HasToTell ask p o s []
    told_all o s v places e d = subst (HasToTell ask p o s) e d.tells
