-- What a row asks of facts by number, its operation asks of facts by name.
use Rattle.std.proofs.Common.{◌≡◌, ℕ, Bool, true, false, List, [], length, Option, None, Some, slice_get, unwrap_or, option_map, refl, sym, ap, ◌∙◌, subst}
use Rattle.std.specs.Prelude.{map}
use Rattle.std.proofs.lemmas.Option.{same_Some}
use Rattle.ir_program.specs.Program.{Program, OperationView, arguments_at}
use Rattle.ir_program.specs.Lists.{regions_in}
use Rattle.ir_program.specs.Replacing.{same_block}
use Rattle.ir_program.specs.declared.handles.Ptr.{Ptr}
use Rattle.ir_program.specs.declared.handles.Operation.{Operation}
use Rattle.ir_program.specs.declared.handles.BasicBlock.{BasicBlock}
use Rattle.ir_program.proofs.used.Renaming.{block-test}
use Rattle.ir_trees.specs.Trees.{Head, Regions}
use Rattle.ir_trees.specs.Renames.{names_of}
use Rattle.ir_trees.specs.Searched.{Lists}
use Rattle.ir_trees.specs.Stands.{by_handle, in_program, ProgramTree, head_of, defined_by, AreTree}
use Rattle.opt_rows.specs.OperationRows.{BranchEdge, Row}
use Rattle.opt_rows.specs.declared.facts_problem.FactsProblem.{FactsProblem}
use Rattle.opt_rows.specs.Known.{asked, answer, AllBelow, AllAny}
use Rattle.opt_rows.specs.Facts.{NumberedFacts, RunsWithAny, ForwardedBelow, arguments_of, picked, ResultsClosed, EdgesClosed, RoleClosed, RowClosed, RowEdgeClosed as IsNumberEdgeClosed}
use Rattle.opt_trees.specs.Occurrences.{Has, Occurrence, occurrences_of, block_occurrences_of, picks}
use Rattle.opt_trees.specs.Dialect.{Dialect}
use Rattle.opt_trees.specs.Facts.{Facts, FoldClosed, forwarded, EdgeClosed, BranchClosed, OperationClosed}
use Rattle.opt_inside.specs.Occurring.{IsOccurrence}
use Rattle.opt_inside.specs.Numbered.{Numbers}
use Rattle.opt_inside.specs.facts.Folds.{answers_of, operation_if, fold_if, feasible_if}
use Rattle.opt_inside.specs.facts.Problem.{value_number, block_number, values_of, role_of, edges_if, entries_in, IsEdge, IsRowOfOperation}
use Rattle.opt_inside.proofs.FactsLemmas.Places.{one_place}
use Rattle.opt_inside.proofs.FactsLemmas.Members.{made_of, made_in, picked_made}
use Rattle.opt_inside.proofs.FactsLemmas.Occurs.{Occurs}
use Rattle.opt_inside.proofs.FactsLemmas.Agree.{Agree, cast, uncast, asked_of, below_of, any_of, forwarded_to, forwarded_from}
use Rattle.opt_inside.proofs.FactsLemmas.Setting.{IsSet, values_names, types_same, entries_below, listed, arguments_are, entries_to, entries_from, enters_to, enters_from, occurrence_arguments}

-- the row at an index is that of an operation of the tree
pub record Meets {O B A : Type 0} (d : Dialect (in_program O B) A) (c : Program O B) (n : Numbers) (t : ProgramTree O B) (o : Occurrence by_handle (in_program O B)) (i : ℕ) (r : Row) : Type 0 where
  pub stands : Has o (occurrences_of t)
  pub numbered : slice_get n.operations i ≡ Some o.head.name
  pub row : IsRowOfOperation d c n o.head.name r

module _ {O B A : Type 0} (d : Dialect (in_program O B) A) (c : Program O B) (op : Ptr Operation) (n : Numbers) (p : FactsProblem) (s : IsSet d c op n p) (t : ProgramTree O B) (occurs : Occurs c op t) (K : NumberedFacts A) (k : Facts by_handle A) (agree : Agree n K k)
    (o : Occurrence by_handle (in_program O B)) (i : ℕ) (r : Row) (m : Meets d c n t o i r) where
  occurrence : IsOccurrence c op o
  occurrence = occurs.sound o m.stands

  abbrev view : OperationView O
  view = m.row.view

  abbrev head : Head by_handle (in_program O B)
  head = head_of o.head.name m.row.view

  view_is : (occurs.sound o m.stands).view ≡ m.row.view
  view_is = same_Some (occurs.sound o m.stands).view m.row.view (sym (occurs.sound o m.stands).there ∙ m.row.there)

  head_is : o.head ≡ head_of o.head.name m.row.view
  head_is = (occurs.sound o m.stands).head ∙ ap (λ (v : OperationView O). head_of o.head.name v) view_is

  regions_are : AreTree c Regions m.row.view.regions o.regions
  regions_are = subst (λ (v : OperationView O). AreTree c Regions v.regions o.regions) view_is (occurs.sound o m.stands).regions

  regions_in_is : regions_in c o.head.name ≡ m.row.view.regions
  regions_in_is = ap (λ (v : Option (OperationView O)). unwrap_or (option_map (λ (w : OperationView O). w.regions) v) []) m.row.there

  -- the operation that is asked
  asks : operation_if c (slice_get n.operations i) ≡ Some m.row.view
  asks = ap (operation_if c) m.numbered ∙ m.row.there

  -- results

  results_same : (q : Option (List (Option A))) → ResultsClosed (answers_of d c n.operations) K i r q ≡ FoldClosed d k.of (head_of o.head.name m.row.view) true q
  results_same None = refl
  results_same (Some xs) =
      let folds = ap (λ (v : Option (OperationView O)). map answer (fold_if d v xs)) asks ∙ ap (λ ts. map answer (d.fold m.row.view.payload ts xs)) (types_same m.row.view.results) in
      (λ j. AllBelow K.of (m.row.results j) (folds j)) ∙ below_of n K k agree (values_of m.row.view.results) (folds 1) ∙ (λ j. AllBelow k.of (values_names m.row.view.results j) (folds 1))

  any_same : AllAny K.of r.results ≡ AllAny k.of (names_of (map defined_by m.row.view.results))
  any_same = (λ j. AllAny K.of (m.row.results j)) ∙ any_of n K k agree (values_of m.row.view.results) ∙ (λ j. AllAny k.of (values_names m.row.view.results j))

  -- edges

  -- where the operation leads is a block below the root
  leads_listed : (b : Ptr BasicBlock) (j : ℕ) → slice_get m.row.view.successors j ≡ Some b → Lists n.blocks b
  leads_listed b j at =
      let row = ap (λ (v : Option (OperationView O)). unwrap_or (option_map (λ (w : OperationView O). w.successors) v) []) m.row.there in
      listed d c op n p s b (s.leads o.head.name b (occurs.sound o m.stands).below (j, ap (λ bs. slice_get bs j) row ∙ at))

  -- what an edge forwards
  picked_is : (b : Ptr BasicBlock) (j : ℕ) (e : BranchEdge) → IsEdge {B = B} d n m.row.view j b e → picked r.operands e.forwards ≡ map Some (map (value_number n) (forwarded d (head_of {B = B} o.head.name m.row.view) j))
  picked_is b j e is = picked_made (value_number n) m.row.view.operands (picks m.row.view.operands (d.forwards m.row.view.payload (length m.row.view.operands) j)) r.operands e.forwards m.row.operands is.forwards

  arguments_at_target : (b : Ptr BasicBlock) (j : ℕ) (e : BranchEdge) → IsEdge {B = B} d n m.row.view j b e → Lists n.blocks b → arguments_of p e.target ≡ map (value_number n) (values_of (arguments_at c b))
  arguments_at_target b j e is l = ap (arguments_of p) is.target ∙ arguments_are d c op n p s b l

  edge_to : (b : Ptr BasicBlock) (j : ℕ) (e : BranchEdge) → slice_get m.row.view.successors j ≡ Some b → IsEdge {B = B} d n m.row.view j b e → IsNumberEdgeClosed p K r e → EdgeClosed d (block_occurrences_of t) k (head_of o.head.name m.row.view) j b
  edge_to b j e at is h =
      let l = leads_listed b j at in
      record {
        target = sym (agree.runs b l) ∙ ap K.runs (sym is.target) ∙ h.target;
        arguments = λ x stands name.
            let us = forwarded d (head_of {B = B} o.head.name m.row.view) j in
            let vs = values_of (arguments_at c b) in
            let named : vs ≡ names_of x.label.arguments = ap (λ a. values_of (arguments_at c a)) (sym name) ∙ occurrence_arguments c op t occurs x stands in
            let given = subst (λ xs. ForwardedBelow K xs (picked r.operands e.forwards)) (arguments_at_target b j e is l) h.arguments in
            let below = forwarded_to n K k agree vs us (subst (λ ys. ForwardedBelow K (map (value_number n) vs) ys) (picked_is b j e is) given) in
            subst (λ xs. AllBelow k.of xs (map k.of us)) named below;
      }

  edge_from : (b : Ptr BasicBlock) (j : ℕ) (e : BranchEdge) → slice_get m.row.view.successors j ≡ Some b → IsEdge {B = B} d n m.row.view j b e → EdgeClosed d (block_occurrences_of t) k (head_of o.head.name m.row.view) j b → IsNumberEdgeClosed p K r e
  edge_from b j e at is h =
      let l = leads_listed b j at in
      let us = forwarded d (head_of {B = B} o.head.name m.row.view) j in
      let vs = values_of (arguments_at c b) in
      let x = occurs.blocks_found b ((s.numbered.blocks b).0 l) in
      let named : vs ≡ names_of x.0.label.arguments = ap (λ a. values_of (arguments_at c a)) (sym x.2) ∙ occurrence_arguments c op t occurs x.0 x.1 in
      let below = subst (λ xs. AllBelow k.of xs (map k.of us)) (sym named) (h.arguments x.0 x.1 x.2) in
      record {
        target = ap K.runs is.target ∙ agree.runs b l ∙ h.target;
        arguments = subst (λ xs. ForwardedBelow K xs (picked r.operands e.forwards)) (sym (arguments_at_target b j e is l))
            (subst (λ ys. ForwardedBelow K (map (value_number n) vs) ys) (sym (picked_is b j e is)) (forwarded_from n K k agree vs us below));
      }

  -- feasible edges

  feasible_same : (xs : List (Option A)) (j : ℕ) → (answers_of d c n.operations).feasible i xs j ≡ d.feasible m.row.view.payload xs j
  feasible_same xs j = ap (λ (v : Option (OperationView O)). feasible_if d v xs j) asks

  abbrev successors : Bool → List (Ptr BasicBlock)
  successors b = edges_if b m.row.view.successors

  module _ (branch : d.is_branch m.row.view.payload ≡ true) where
    edge_at : (j : ℕ) (b : Ptr BasicBlock) → slice_get m.row.view.successors j ≡ Some b → (e : BranchEdge) × (slice_get r.edges j ≡ Some e) × IsEdge {B = B} d n m.row.view j b e
    edge_at j b at = m.row.edges.onto j b (ap (λ f. slice_get (edges_if f m.row.view.successors) j) branch ∙ at)

    successor_at : (j : ℕ) (e : BranchEdge) → slice_get r.edges j ≡ Some e → (b : Ptr BasicBlock) × (slice_get m.row.view.successors j ≡ Some b) × IsEdge {B = B} d n m.row.view j b e
    successor_at j e at = let b = m.row.edges.from j e at in (b.0, ap (λ f. slice_get (edges_if f m.row.view.successors) j) (sym branch) ∙ b.1, b.2)

    edges_to : (q : Option (List (Option A))) → EdgesClosed (answers_of d c n.operations) p K i r q → BranchClosed d (block_occurrences_of t) k (head_of o.head.name m.row.view) true q
    edges_to None f = tt
    edges_to (Some xs) f = λ j b at h.
        let e = edge_at j b at in
        let g = edge_at h.0 b h.1 in
        edge_to b j e.0 at e.2 (f j e.0 e.1 (record { index = h.0; edge = g.0; stands = g.1; leads = g.2.target ∙ sym e.2.target; feasible = feasible_same xs h.0 ∙ h.2 }))

    edges_from : (q : Option (List (Option A))) → BranchClosed d (block_occurrences_of t) k (head_of o.head.name m.row.view) true q → EdgesClosed (answers_of d c n.operations) p K i r q
    edges_from None f = tt
    edges_from (Some xs) f = λ j e at h.
        let b = successor_at j e at in
        let a = successor_at h.index h.edge h.stands in
        let same : a.0 ≡ b.0 = one_place same_block block-test n.blocks a.0 b.0 (leads_listed a.0 h.index a.1) (leads_listed b.0 j b.1) (sym a.2.target ∙ h.leads ∙ b.2.target) in
        edge_from b.0 j e b.1 b.2 (f j b.0 b.1 (h.index, a.1 ∙ ap Some same, sym (feasible_same xs h.index) ∙ h.feasible))

  -- what is asked by the role

  asked_same : asked (map K.of r.operands) ≡ asked (map k.of m.row.view.operands)
  asked_same = asked_of n K k agree m.row.view.operands r.operands m.row.operands

  role_to : (fb bb : Bool) → d.is_foldable m.row.view.payload ≡ fb → d.is_branch m.row.view.payload ≡ bb → RoleClosed (answers_of d c n.operations) p K i r (role_of fb bb)
      → FoldClosed d k.of (head_of o.head.name m.row.view) fb (asked (map k.of m.row.view.operands)) × BranchClosed d (block_occurrences_of t) k (head_of o.head.name m.row.view) bb (asked (map k.of m.row.view.operands))
  role_to true true f b h = absurd (s.exclude m.row.view.payload f b)
  role_to true false f b h = (cast (results_same (asked (map k.of m.row.view.operands))) (subst (ResultsClosed (answers_of d c n.operations) K i r) asked_same h), tt)
  role_to false true f b h = (cast any_same h.0, edges_to b (asked (map k.of m.row.view.operands)) (subst (EdgesClosed (answers_of d c n.operations) p K i r) asked_same h.1))
  role_to false false f b h = (cast any_same h, tt)

  role_from : (fb bb : Bool) → d.is_foldable m.row.view.payload ≡ fb → d.is_branch m.row.view.payload ≡ bb
      → FoldClosed d k.of (head_of o.head.name m.row.view) fb (asked (map k.of m.row.view.operands)) → BranchClosed d (block_occurrences_of t) k (head_of o.head.name m.row.view) bb (asked (map k.of m.row.view.operands))
      → RoleClosed (answers_of d c n.operations) p K i r (role_of fb bb)
  role_from true true f b h g = absurd (s.exclude m.row.view.payload f b)
  role_from true false f b h g = subst (ResultsClosed (answers_of d c n.operations) K i r) (sym asked_same) (uncast (results_same (asked (map k.of m.row.view.operands))) h)
  role_from false true f b h g = (uncast any_same h, subst (EdgesClosed (answers_of d c n.operations) p K i r) (sym asked_same) (edges_from b (asked (map k.of m.row.view.operands)) g))
  role_from false false f b h g = uncast any_same h

  -- the entries of its regions

  entry_listed : (b : Ptr BasicBlock) → Has b (entries_in c m.row.view.regions) → Lists n.blocks b
  entry_listed b h = listed d c op n p s b (entries_below c op s.held o.head.name (occurs.sound o m.stands).below.inside b (subst (λ rs. Has b (entries_in c rs)) (sym regions_in_is) h))

  -- one row, one operation

  pub row_to : RowClosed (answers_of d c n.operations) p K i r → OperationClosed d (block_occurrences_of t) k o
  row_to h =
      let w = m.row.view.payload in
      let both = role_to (d.is_foldable w) (d.is_branch w) refl refl (subst (RoleClosed (answers_of d c n.operations) p K i r) m.row.role h.role) in
      record {
        folds = subst (λ (g : Head by_handle (in_program O B)). FoldClosed d k.of g (d.is_foldable g.content) (asked (map k.of g.operands))) (sym head_is) both.0;
        goes = subst (λ (g : Head by_handle (in_program O B)). BranchClosed d (block_occurrences_of t) k g (d.is_branch g.content) (asked (map k.of g.operands))) (sym head_is) both.1;
        entries = entries_to c k m.row.view.regions o.regions regions_are (λ b e. enters_to d c op n p s K k agree b (entry_listed b e) (h.entries (block_number n b) (made_in (block_number n) (entries_in c m.row.view.regions) r.entries b m.row.entries e)));
      }

  pub row_from : OperationClosed d (block_occurrences_of t) k o → RowClosed (answers_of d c n.operations) p K i r
  row_from h =
      let w = m.row.view.payload in
      record {
        role = subst (RoleClosed (answers_of d c n.operations) p K i r) (sym m.row.role) (role_from (d.is_foldable w) (d.is_branch w) refl refl
            (subst (λ (g : Head by_handle (in_program O B)). FoldClosed d k.of g (d.is_foldable g.content) (asked (map k.of g.operands))) head_is h.folds)
            (subst (λ (g : Head by_handle (in_program O B)). BranchClosed d (block_occurrences_of t) k g (d.is_branch g.content) (asked (map k.of g.operands))) head_is h.goes));
        entries = λ e contains.
            let b = made_of (block_number n) (entries_in c m.row.view.regions) r.entries e m.row.entries contains in
            subst (RunsWithAny p K) b.2 (enters_from d c op n p s K k agree b.0 (entry_listed b.0 b.1) (entries_from c k m.row.view.regions o.regions regions_are h.entries b.0 b.1));
      }
