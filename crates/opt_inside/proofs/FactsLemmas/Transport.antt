-- Most precise facts by number are most precise facts of the tree.
use Rattle.std.proofs.Common.{◌≡◌, ⊎_elim, ℕ, zero, suc, ◌<◌, Bool, false, List, [], ◌∷◌, length, Option, None, Some, slice_get, unwrap_or, option_map, sym, ap, ◌∙◌, subst, arith}
use Rattle.std.proofs.lemmas.Option.{same_Some, slice_get_past, slice_get_within, slice_get-get_or, unwrap_or-slice_get}
use Rattle.ir_program.specs.Program.{Program, OperationView}
use Rattle.ir_program.specs.Lists.{regions_in, itself}
use Rattle.ir_program.specs.Replacing.{same_value, same_block}
use Rattle.ir_program.specs.declared.handles.Ptr.{Ptr}
use Rattle.ir_program.specs.declared.handles.Operation.{Operation}
use Rattle.ir_program.specs.declared.handles.BasicBlock.{BasicBlock}
use Rattle.ir_program.specs.declared.handles.Value.{Value}
use Rattle.ir_program.proofs.used.Renaming.{block-test, value-test}
use Rattle.ir_trees.specs.Trees.{Label}
use Rattle.ir_trees.specs.Searched.{Lists, AreDistinct}
use Rattle.ir_trees.specs.Stands.{by_handle, in_program, ProgramTree, StandsFor}
use Rattle.opt_rows.specs.OperationRows.{Row}
use Rattle.opt_rows.specs.declared.facts_problem.FactsProblem.{FactsProblem}
use Rattle.opt_rows.specs.declared.known.Known.{Known}
use Rattle.opt_rows.specs.declared.known.Known.TheVariants.{Any, Undetermined}
use Rattle.opt_rows.specs.Known.{AtOrBelow}
use Rattle.opt_rows.specs.Facts.{NumberedFacts, RunsWithAny, IsClosedSolution as IsNumberClosed, IsMostPreciseSolution as IsMostPreciseByNumber, as_facts}
use Rattle.opt_trees.specs.Occurrences.{Has, Occurrence, occurrences_of, defined_in}
use Rattle.opt_trees.specs.Dialect.{Dialect}
use Rattle.opt_trees.specs.Facts.{Facts, IsClosed, IsMostPrecise}
use Rattle.opt_inside.specs.Numbered.{Numbers}
use Rattle.opt_inside.specs.facts.ByNumber.{AreFactsBy, AreBestFacts}
use Rattle.opt_inside.specs.facts.Folds.{answers_of}
use Rattle.opt_inside.specs.facts.Problem.{value_number, block_number, entries_in, IsRowOfOperation}
use Rattle.opt_inside.proofs.FactsLemmas.Places.{placed, unplaced, listed_or_not, own_place}
use Rattle.opt_inside.proofs.FactsLemmas.Members.{made_of, made_in, contains_lists, lists_contains}
use Rattle.opt_inside.proofs.FactsLemmas.Occurs.{Occurs}
use Rattle.opt_inside.proofs.FactsLemmas.Agree.{Agree}
use Rattle.opt_inside.proofs.FactsLemmas.Setting.{IsSet, entries_below, listed, entries_to, entries_from, enters_to, enters_from}
use Rattle.opt_inside.proofs.FactsLemmas.RowsClosed.{Meets, row_to, row_from}

module _ {O B A : Type 0} (d : Dialect (in_program O B) A) (c : Program O B) (op : Ptr Operation) (n : Numbers) (p : FactsProblem) (s : IsSet d c op n p) (t : ProgramTree O B) (occurs : Occurs c op t) (stands : StandsFor c op t) where
  -- each value below the root has a number of its own, and no other has
  defined_listed : (v : Value) → Lists n.values v → Has v (defined_in t.regions)
  defined_listed v l = (occurs.defined v).1 ((s.numbered.values v).0 l)

  -- the block of an operation below the root is below it
  site_listed : (o : Occurrence by_handle (in_program O B)) → Has o (occurrences_of t) → Lists n.blocks o.site.label.name
  site_listed o h =
      let x = occurs.site o h in
      subst (Lists n.blocks) (ap (λ (l : Label by_handle (in_program O B)). l.name) x.2) (listed d c op n p s x.0.label.name (occurs.blocks_sound x.0 x.1).below)

  row_block : (o : Occurrence by_handle (in_program O B)) → Has o (occurrences_of t) → (r : Row) → IsRowOfOperation d c n o.head.name r → r.block ≡ block_number n o.site.label.name
  row_block o h r is = is.block o.site.label.name (occurs.sound o h).in_block

  -- an operation of the tree has a row
  row_of : (o : Occurrence by_handle (in_program O B)) → Has o (occurrences_of t) → (i : ℕ) × (r : Row) × (slice_get p.rows i ≡ Some r) × Meets d c n t o i r
  row_of o h =
      let at = (s.numbered.operations o.head.name).1 (occurs.sound o h).below in
      let r = s.problem.rows.onto at.0 o.head.name at.1 in
      (at.0, r.0, r.1, record { stands = h; numbered = at.1; row = r.2 })

  -- a row is that of an operation of the tree
  operation_of : (i : ℕ) (r : Row) → slice_get p.rows i ≡ Some r → (o : Occurrence by_handle (in_program O B)) × Meets d c n t o i r
  operation_of i r at =
      let q = s.problem.rows.from i r at in
      let o = occurs.found q.0 ((s.numbered.operations q.0).0 (i, q.1)) in
      (o.0, record { stands = o.1; numbered = q.1 ∙ ap Some (sym o.2); row = subst (λ x. IsRowOfOperation d c n x r) (sym o.2) q.2 })

  root_entry_listed : (b : Ptr BasicBlock) → Has b (entries_in c (regions_in c op)) → Lists n.blocks b
  root_entry_listed b h = listed d c op n p s b (entries_below c op s.held op itself b h)

  root_regions : regions_in c op ≡ stands.view.regions
  root_regions = ap (λ (v : Option (OperationView O)). unwrap_or (option_map (λ (w : OperationView O). w.regions) v) []) stands.there

  module _ (K : NumberedFacts A) (k : Facts by_handle A) (agree : Agree n K k) where
    -- closed by number, closed by name
    pub closed_to : IsNumberClosed (answers_of d c n.operations) p K → IsClosed d t k
    closed_to h = record {
      entries = entries_to c k stands.view.regions t.regions stands.regions (λ b e.
          let here = subst (λ rs. Has b (entries_in c rs)) (sym root_regions) e in
          enters_to d c op n p s K k agree b (root_entry_listed b here) (h.entries (block_number n b) (made_in (block_number n) (entries_in c (regions_in c op)) p.entries.items b s.problem.entries here)));
      outside = λ v none.
          let last : value_number n v ≡ length n.values = unplaced same_value value-test n.values v (λ l. none (defined_listed v l)) in
          sym (agree.of v) ∙ h.outside (value_number n v) (lists_contains p.outside.items (value_number n v) (0, ap (λ xs. slice_get xs 0) s.problem.outside ∙ ap Some (sym last)));
      inside = λ o here runs.
          let r = row_of o here in
          let block = ap K.runs (row_block o here r.1 r.3.row) ∙ agree.runs o.site.label.name (site_listed o here) ∙ runs in
          row_to d c op n p s t occurs K k agree o r.0 r.1 r.3 (h.rows r.0 r.1 r.2 block);
    }

    -- closed by name, closed by number, where what comes from outside may be any value
    pub closed_from : K.of (length n.values) ≡ Any → IsClosed d t k → IsNumberClosed (answers_of d c n.operations) p K
    closed_from any h = record {
      entries = λ e contains.
          let b = made_of (block_number n) (entries_in c (regions_in c op)) p.entries.items e s.problem.entries contains in
          subst (RunsWithAny p K) b.2 (enters_from d c op n p s K k agree b.0 (root_entry_listed b.0 b.1)
          (entries_from c k stands.view.regions t.regions stands.regions h.entries b.0 (subst (λ rs. Has b.0 (entries_in c rs)) root_regions b.1)));
      outside = λ v contains.
          let l = contains_lists p.outside.items v contains in
          let is : length n.values ≡ v = only l.0 v (ap (λ xs. slice_get xs l.0) (sym s.problem.outside) ∙ l.1) in
          subst (λ x. K.of x ≡ Any) is any;
      rows = λ i r at runs.
          let o = operation_of i r at in
          let block = sym (agree.runs o.0.site.label.name (site_listed o.0 o.1.stands)) ∙ ap K.runs (sym (row_block o.0 o.1.stands r o.1.row)) ∙ runs in
          row_from d c op n p s t occurs K k agree o.0 i r o.1 (h.inside o.0 o.1.stands block);
    }
      where
        only : (j v : ℕ) → slice_get (length n.values ∷ []) j ≡ Some v → length n.values ≡ v
        only zero v e = same_Some (length n.values) v e
        only (suc j) v e = cc

-- facts by name as facts by number
abbrev pub pulled : {A : Type 0} → Numbers → Facts by_handle A → NumberedFacts A
pulled n l = record { runs = λ i. unwrap_or (option_map l.runs (slice_get n.blocks i)) false; of = λ i. unwrap_or (option_map l.of (slice_get n.values i)) Any }

module _ {O B A : Type 0} (d : Dialect (in_program O B) A) (c : Program O B) (op : Ptr Operation) (n : Numbers) (p : FactsProblem) (s : IsSet d c op n p) (t : ProgramTree O B) (occurs : Occurs c op t) (stands : StandsFor c op t) where
  pulled_agree : (l : Facts by_handle A) → IsClosed d t l → Agree n (pulled n l) l
  pulled_agree l closed = record {
    of = λ v. ⊎_elim
        (λ (h : Lists n.values v). ap (λ (o : Option Value). unwrap_or (option_map l.of o) Any) (placed same_value value-test n.values v h))
        (λ (out : Lists n.values v → ⊥).
        let last : value_number n v ≡ length n.values = unplaced same_value value-test n.values v out in
        let past = slice_get_past n.values (value_number n v) (omega (arith, last)) in
        ap (λ (o : Option Value). unwrap_or (option_map l.of o) Any) past ∙ sym (closed.outside v (λ h. out ((s.numbered.values v).1 ((occurs.defined v).0 h)))))
        (listed_or_not same_value value-test n.values v);
    runs = λ b h. ap (λ (o : Option (Ptr BasicBlock)). unwrap_or (option_map l.runs o) false) (placed same_block block-test n.blocks b h);
  }

  pulled_any : (l : Facts by_handle A) → (pulled n l).of (length n.values) ≡ Any
  pulled_any l = ap (λ (o : Option Value). unwrap_or (option_map l.of o) Any) (slice_get_past n.values (length n.values) (omega arith))

  -- the most precise by number are the most precise of the tree, where a block without a number doesn't run
  pub most_precise_to : (K : NumberedFacts A) (k : Facts by_handle A) → Agree n K k → ((b : Ptr BasicBlock) → (Lists n.blocks b → ⊥) → k.runs b ≡ false) → IsMostPreciseByNumber (answers_of d c n.operations) p K → IsMostPrecise d t k
  most_precise_to K k agree idle h = record {
    closed = closed_to d c op n p s t occurs stands K k agree h.closed;
    best = λ l closed.
        let same = pulled_agree l closed in
        let more = h.best (pulled n l) (closed_from d c op n p s t occurs stands (pulled n l) l same (pulled_any l) closed) in
        record {
          fewer = λ b runs. ⊎_elim
              (λ (at : Lists n.blocks b). sym (same.runs b at) ∙ more.fewer (block_number n b) (agree.runs b at ∙ runs))
              (λ (out : Lists n.blocks b → ⊥). let f : k.runs b ≡ false = idle b out in cc)
              (listed_or_not same_block block-test n.blocks b);
          above = λ v. subst (λ x. AtOrBelow x (k.of v)) (same.of v) (subst (λ y. AtOrBelow ((pulled n l).of (value_number n v)) y) (agree.of v) (more.above (value_number n v)));
        };
  }

-- so many of the first items, with the other one for each that is missing
pub record AreFirst {X : Type 0} (count : ℕ) (xs ys : List X) (other : X) : Type 0 where
  pub len : length ys ≡ count
  pub items : (i : ℕ) → i < count → slice_get ys i ≡ Some (unwrap_or (slice_get xs i) other)

-- the facts that lists say by number
abbrev pub facts_by : {A : Type 0} → Numbers → List Bool → List (Known A) → Facts by_handle A
facts_by n runs known = record { runs = λ b. unwrap_or (slice_get runs (block_number n b)) false; of = λ v. unwrap_or (slice_get known (value_number n v)) Any }

itself_or : {X : Type 0} (xs : List X) (i : ℕ) (other : X) → i < length xs → slice_get xs i ≡ Some (unwrap_or (slice_get xs i) other)
itself_or xs i other h = slice_get-get_or xs i other h ∙ ap Some (sym (unwrap_or-slice_get xs i other))

module _ {A : Type 0} (n : Numbers) (runs : List Bool) (known : List (Known A)) (blocks : length runs ≡ length n.blocks) (values : length known ≡ length n.values) where
  past_value : (v : Value) → (Lists n.values v → ⊥) → slice_get known (value_number n v) ≡ None
  past_value v out = let last : value_number n v ≡ length n.values = unplaced same_value value-test n.values v out in slice_get_past known (value_number n v) (omega (arith, last, values))

  past_block : (b : Ptr BasicBlock) → (Lists n.blocks b → ⊥) → slice_get runs (block_number n b) ≡ None
  past_block b out = let last : block_number n b ≡ length n.blocks = unplaced same_block block-test n.blocks b out in slice_get_past runs (block_number n b) (omega (arith, last, blocks))

  facts_are : AreDistinct n.blocks → AreDistinct n.values → AreFactsBy n runs known (facts_by n runs known)
  facts_are once_blocks once_values = record {
    block = λ i b at.
        let here : i < length runs = let w = slice_get_within n.blocks i b at in omega (arith, w, blocks) in
        itself_or runs i false here ∙ ap (λ j. Some (unwrap_or (slice_get runs j) false)) (sym (own_place same_block block-test n.blocks once_blocks i b at));
    no_block = λ b out. ap (λ o. unwrap_or o false) (past_block b out);
    value = λ i v at.
        let here : i < length known = let w = slice_get_within n.values i v at in omega (arith, w, values) in
        itself_or known i Any here ∙ ap (λ j. Some (unwrap_or (slice_get known j) Any)) (sym (own_place same_value value-test n.values once_values i v at));
    no_value = λ v out. ap (λ o. unwrap_or o Any) (past_value v out);
  }

module _ {A : Type 0} (n : Numbers) (all_runs runs : List Bool) (all_known known : List (Known A)) (blocks : AreFirst (length n.blocks) all_runs runs false) (values : AreFirst (length n.values) all_known known Undetermined) where
  agree_by : (as_facts all_runs all_known).of (length n.values) ≡ Any → Agree n (as_facts all_runs all_known) (facts_by n runs known)
  agree_by any = record {
    of = λ v. ⊎_elim
        (λ (h : Lists n.values v). sym (ap (λ o. unwrap_or o Any) (values.items (value_number n v) (slice_get_within n.values (value_number n v) v (placed same_value value-test n.values v h)))))
        (λ (out : Lists n.values v → ⊥).
        ap (as_facts all_runs all_known).of (unplaced same_value value-test n.values v out) ∙ any ∙ sym (ap (λ o. unwrap_or o Any) (past_value n runs known blocks.len values.len v out)))
        (listed_or_not same_value value-test n.values v);
    runs = λ b h. sym (ap (λ o. unwrap_or o false) (blocks.items (block_number n b) (slice_get_within n.blocks (block_number n b) b (placed same_block block-test n.blocks b h))));
  }

-- what lists say of the numbered problem, they say of each tree
pub transported : {O B A : Type 0} (d : Dialect (in_program O B) A) (c : Program O B) (op : Ptr Operation) (n : Numbers) (p : FactsProblem) → IsSet d c op n p → ((t : ProgramTree O B) → StandsFor c op t → Occurs c op t)
    → (all_runs runs : List Bool) (all_known known : List (Known A)) → IsMostPreciseByNumber (answers_of d c n.operations) p (as_facts all_runs all_known) → AreFirst (length n.blocks) all_runs runs false → AreFirst (length n.values) all_known known Undetermined
    → (t : ProgramTree O B) → AreBestFacts d c op n runs known t
transported d c op n p s occurs all_runs runs all_known known h blocks values t =
    let any = h.closed.outside (length n.values) (lists_contains p.outside.items (length n.values) (0, ap (λ xs. slice_get xs 0) s.problem.outside)) in
    let are = facts_are n runs known blocks.len values.len s.numbered.blocks_once s.numbered.values_once in
    record {
      facts = facts_by n runs known;
      by_number = are;
      best = λ stands. most_precise_to d c op n p s t (occurs t stands) stands (as_facts all_runs all_known) (facts_by n runs known) (agree_by n all_runs runs all_known known blocks values any) are.no_block h;
    }

pub first_are : {X : Type 0} (count total : ℕ) (items all first : List X) (other : X) → count ≡ total → items ≡ all → length first ≡ count → ((i : ℕ) → i < count → slice_get first i ≡ Some (unwrap_or (slice_get items i) other)) → AreFirst total all first other
first_are count total items all first other e f len h =
    subst (λ k. AreFirst k all first other) e (subst (λ xs. AreFirst count xs first other) f (record { len = len; items = h }))
