-- The most precise facts under other names are the same facts.
use Rattle.std.proofs.Common.{◌≡◌, ℕ, Bool, true, false, List, [], ◌∷◌, length, Option, Some, None, refl, sym, ap, ◌∙◌, subst}
use Rattle.std.specs.Prelude.{map}
use Rattle.std.specs.Prelude.{slice_get}
use Rattle.ir_trees.specs.Names.{Names, Contents}
use Rattle.ir_trees.specs.Renames.{Maps, rename_defined, rename_head, rename, rename_root, names_of}
use Rattle.ir_trees.specs.Trees.{Defined, Head, Sort, Tree, end, operation, block, region, Root}
use Rattle.opt_trees.specs.Occurrences.{Has, types_of, picks, Occurrence, BlockOccurrence, occurrences_of, block_occurrences_of, defined_in, rename_occurrence, rename_block_occurrence, Renaming, maps}
use Rattle.opt_trees.specs.Dialect.{Dialect}
use Rattle.opt_rows.specs.declared.known.Known.{Known}
use Rattle.opt_rows.specs.declared.known.Known.TheVariants.{Any}
use Rattle.opt_rows.specs.Known.{AtOrBelow, asked, answer, AllBelow, AllAny, MorePrecise}
use Rattle.opt_trees.specs.Facts.{Facts, FoldClosed, forwarded, EdgeClosed, BranchClosed, EntriesRun, OperationClosed, IsClosed, IsMostPrecise}
use Rattle.opt_trees.proofs.Lists.{map-map, at-map, length-map, picks-map, has-map, has-from_map, has-apart, apart, at-apart, at-to, from_some, none_some}
use Rattle.opt_trees.proofs.Trees.{operations_renamed, blocks_renamed, values_renamed}

-- the types of definitions under other names
pub types-map : {V W T : Type 0} (f : V → W) (vs : List (Defined V T)) → types_of (map (rename_defined f) vs) ≡ types_of vs
types-map f [] = refl
types-map f (v ∷ vs) = ap (λ l. v.holds ∷ l) (types-map f vs)

pub any_under : {V W T A : Type 0} (f : V → W) (g : W → Known A) (vs : List (Defined V T)) → AllAny g (names_of (map (rename_defined f) vs)) ≡ AllAny (λ v. g (f v)) (names_of vs)
any_under f g [] = refl
any_under f g (v ∷ vs) = λ i. (g (f v.name) ≡ Any) × any_under f g vs i

pub below_under : {V W T A : Type 0} (f : V → W) (g : W → Known A) (vs : List (Defined V T)) (ys : List (Known A)) → AllBelow g (names_of (map (rename_defined f) vs)) ys ≡ AllBelow (λ v. g (f v)) (names_of vs) ys
below_under f g [] ys = refl
below_under f g (v ∷ vs) [] = refl
below_under f g (v ∷ vs) (y ∷ ys) = λ i. AtOrBelow (g (f v.name)) y × below_under f g vs ys i

module _ {N M : Names} {S : Contents} {A : Type 0} (d : Dialect S A) (r : Renaming N M) where
  abbrev pub m : Maps N M
  m = maps r

  -- facts read at the old names
  abbrev pub pulled : Facts M A → Facts N A
  pulled l = record { runs = λ b. l.runs (r.block.to b); of = λ v. l.of (r.value.to v) }

  abbrev pub run_of : Facts N A → Option N.block → Bool
  run_of k None = false
  run_of k (Some b) = k.runs b

  abbrev pub known_of : Facts N A → Option N.value → Known A
  known_of k None = Any
  known_of k (Some v) = k.of v

  -- facts read at the new names
  abbrev pub pushed : Facts N A → Facts M A
  pushed k = record { runs = λ b. run_of k (r.block.back b); of = λ v. known_of k (r.value.back v) }

  pub pulled_pushed : (k : Facts N A) → pulled (pushed k) ≡ k
  pulled_pushed k = λ i. record { runs = λ b. run_of k (r.block.there b i); of = λ v. known_of k (r.value.there v i) }

  entries_under : {s : Sort} (l : Facts M A) (t : Tree N S s) → EntriesRun l (rename m t) ≡ EntriesRun (pulled l) t
  entries_under l end = refl
  entries_under l (operation h rs rest) = refl
  entries_under l (block b ops rest) = λ i. (l.runs (r.block.to b.name) ≡ true) × any_under r.value.to l.of b.arguments i
  entries_under l (region bs rest) = λ i. entries_under l bs i × entries_under l rest i

  folds_under : (l : Facts M A) (h : Head N S) (b : Bool) (q : Option (List (Option A))) → FoldClosed d l.of (rename_head m h) b q ≡ FoldClosed d (pulled l).of h b q
  folds_under l h false q = any_under r.value.to l.of h.results
  folds_under l h true None = refl
  folds_under l h true (Some xs) =
      ap (λ ts. AllBelow l.of (names_of (map (rename_defined r.value.to) h.results)) (map answer (d.fold h.content ts xs))) (types-map r.value.to h.results)
      ∙ below_under r.value.to l.of h.results (map answer (d.fold h.content (types_of h.results) xs))

  pub asked_under : (l : Facts M A) (h : Head N S) → asked (map l.of (map r.value.to h.operands)) ≡ asked (map (pulled l).of h.operands)
  asked_under l h = ap asked (map-map l.of r.value.to h.operands)

  pub forwarded_under : (h : Head N S) (i : ℕ) → forwarded d (rename_head m h) i ≡ map r.value.to (forwarded d h i)
  forwarded_under h i = ap (λ n. picks (map r.value.to h.operands) (d.forwards h.content n i)) (length-map r.value.to h.operands) ∙ picks-map r.value.to h.operands (d.forwards h.content (length h.operands) i)

  given_under : (l : Facts M A) (x : BlockOccurrence N S) (h : Head N S) (i : ℕ) → AllBelow l.of (names_of (map (rename_defined r.value.to) x.label.arguments)) (map l.of (forwarded d (rename_head m h) i)) ≡ AllBelow (pulled l).of (names_of x.label.arguments) (map (pulled l).of (forwarded d h i))
  given_under l x h i =
      below_under r.value.to l.of x.label.arguments (map l.of (forwarded d (rename_head m h) i))
      ∙ ap (AllBelow (pulled l).of (names_of x.label.arguments)) (ap (map l.of) (forwarded_under h i) ∙ map-map l.of r.value.to (forwarded d h i))

  module _ (t : Root N S) (l : Facts M A) where
    edge_pulled : (h : Head N S) (i : ℕ) (b : N.block) → EdgeClosed d (block_occurrences_of (rename_root m t)) l (rename_head m h) i (r.block.to b) → EdgeClosed d (block_occurrences_of t) (pulled l) h i b
    edge_pulled h i b e = record {
      target = e.target;
      arguments = λ x has is. subst (λ T. T) (given_under l x h i)
          (e.arguments (rename_block_occurrence m x) (subst (Has (rename_block_occurrence m x)) (sym (blocks_renamed m t)) (has-map (rename_block_occurrence m) x (block_occurrences_of t) has)) (ap r.block.to is));
    }

    edge_pushed : (h : Head N S) (i : ℕ) (b : N.block) → EdgeClosed d (block_occurrences_of t) (pulled l) h i b → EdgeClosed d (block_occurrences_of (rename_root m t)) l (rename_head m h) i (r.block.to b)
    edge_pushed h i b e = record {
      target = e.target;
      arguments = λ x has is.
          let p = has-from_map (rename_block_occurrence m) x (block_occurrences_of t) (subst (Has x) (blocks_renamed m t) has) in
          let name : r.block.to p.it.label.name ≡ r.block.to b = ap (λ y. y.label.name) p.is ∙ is in
          subst (λ y. AllBelow l.of (names_of y.label.arguments) (map l.of (forwarded d (rename_head m h) i))) p.is
          (subst (λ T. T) (sym (given_under l p.it h i)) (e.arguments p.it p.stands (apart r.block p.it.label.name b name)));
    }

    branch_pulled : (h : Head N S) (c : Bool) (q : Option (List (Option A))) → BranchClosed d (block_occurrences_of (rename_root m t)) l (rename_head m h) c q → BranchClosed d (block_occurrences_of t) (pulled l) h c q
    branch_pulled h false q e = tt
    branch_pulled h true None e = tt
    branch_pulled h true (Some xs) e = λ i b leads feasible.
        edge_pulled h i b (e i (r.block.to b) (at-to r.block h.successors i b leads) (feasible.0, at-to r.block h.successors feasible.0 b feasible.1, feasible.2))

    branch_pushed : (h : Head N S) (c : Bool) (q : Option (List (Option A))) → BranchClosed d (block_occurrences_of t) (pulled l) h c q → BranchClosed d (block_occurrences_of (rename_root m t)) l (rename_head m h) c q
    branch_pushed h false q e = tt
    branch_pushed h true None e = tt
    branch_pushed h true (Some xs) e = λ i b leads feasible.
        let p = from_some r.block.to (slice_get h.successors i) b (sym (at-map r.block.to h.successors i) ∙ leads) in
        let there = feasible.1 ∙ ap Some (sym p.is) in
        subst (EdgeClosed d (block_occurrences_of (rename_root m t)) l (rename_head m h) i) p.is
        (edge_pushed h i p.it (e i p.it p.some (feasible.0, at-apart r.block h.successors feasible.0 p.it there, feasible.2)))

    operation_pulled : (o : Occurrence N S) → OperationClosed d (block_occurrences_of (rename_root m t)) l (rename_occurrence m o) → OperationClosed d (block_occurrences_of t) (pulled l) o
    operation_pulled o c = record {
      folds = subst (λ T. T) (folds_under l o.head (d.is_foldable o.head.content) (asked (map l.of (map r.value.to o.head.operands))) ∙ ap (FoldClosed d (pulled l).of o.head (d.is_foldable o.head.content)) (asked_under l o.head)) c.folds;
      goes = branch_pulled o.head (d.is_branch o.head.content) (asked (map (pulled l).of o.head.operands)) (subst (BranchClosed d (block_occurrences_of (rename_root m t)) l (rename_head m o.head) (d.is_branch o.head.content)) (asked_under l o.head) c.goes);
      entries = subst (λ T. T) (entries_under l o.regions) c.entries;
    }

    operation_pushed : (o : Occurrence N S) → OperationClosed d (block_occurrences_of t) (pulled l) o → OperationClosed d (block_occurrences_of (rename_root m t)) l (rename_occurrence m o)
    operation_pushed o c = record {
      folds = subst (λ T. T) (sym (folds_under l o.head (d.is_foldable o.head.content) (asked (map l.of (map r.value.to o.head.operands))) ∙ ap (FoldClosed d (pulled l).of o.head (d.is_foldable o.head.content)) (asked_under l o.head))) c.folds;
      goes = subst (BranchClosed d (block_occurrences_of (rename_root m t)) l (rename_head m o.head) (d.is_branch o.head.content)) (sym (asked_under l o.head)) (branch_pushed o.head (d.is_branch o.head.content) (asked (map (pulled l).of o.head.operands)) c.goes);
      entries = subst (λ T. T) (sym (entries_under l o.regions)) c.entries;
    }

    closed_pulled : IsClosed d (rename_root m t) l → IsClosed d t (pulled l)
    closed_pulled c = record {
      entries = subst (λ T. T) (entries_under l t.regions) c.entries;
      outside = λ v out. c.outside (r.value.to v) (λ h. out (has-apart r.value v (defined_in t.regions) (subst (Has (r.value.to v)) (values_renamed m t.regions) h)));
      inside = λ o has runs. operation_pulled o (c.inside (rename_occurrence m o) (subst (Has (rename_occurrence m o)) (sym (operations_renamed m t)) (has-map (rename_occurrence m) o (occurrences_of t) has)) runs);
    }

    closed_pushed : ((v : M.value) → r.value.back v ≡ None → l.of v ≡ Any) → IsClosed d t (pulled l) → IsClosed d (rename_root m t) l
    closed_pushed new c = record {
      entries = subst (λ T. T) (sym (entries_under l t.regions)) c.entries;
      outside = λ v out. by_case v out (r.value.back v) refl;
      inside = λ o has runs.
          let p = has-from_map (rename_occurrence m) o (occurrences_of t) (subst (Has o) (operations_renamed m t) has) in
          subst (OperationClosed d (block_occurrences_of (rename_root m t)) l) p.is (operation_pushed p.it (c.inside p.it p.stands (ap (λ x. l.runs x.site.label.name) p.is ∙ runs)));
    }
      where
        by_case : (v : M.value) → (Has v (defined_in (rename m t.regions)) → ⊥) → (q : Option N.value) → r.value.back v ≡ q → l.of v ≡ Any
        by_case v out None e = new v e
        by_case v out (Some u) e =
            let is : r.value.to u ≡ v = r.value.from v u e in
            ap l.of (sym is) ∙ c.outside u (λ h. out (subst (λ x. Has x (defined_in (rename m t.regions))) is (subst (Has (r.value.to u)) (sym (values_renamed m t.regions)) (has-map r.value.to u (defined_in t.regions) h))))

  any_at_top : (x : Known A) → x ≡ Any → AtOrBelow x Any
  any_at_top x e = subst (λ z. AtOrBelow z Any) (sym e) tt

  -- the most precise facts of a tree are those of the tree under other names
  pub best_pushed : (t : Root N S) (k : Facts N A) → IsMostPrecise d t k → IsMostPrecise d (rename_root m t) (pushed k)
  best_pushed t k b = record {
    closed = closed_pushed t (pushed k) (λ v e. ap (known_of k) e) (subst (IsClosed d t) (sym (pulled_pushed k)) b.closed);
    best = λ l c.
        let p = b.best (pulled l) (closed_pulled t l c) in
        record { fewer = λ n h. runs l p n (r.block.back n) refl h; above = λ v. of l c p v (r.value.back v) refl };
  }
    where
      runs : (l : Facts M A) → MorePrecise k (pulled l) → (n : M.block) (q : Option N.block) → r.block.back n ≡ q → run_of k (r.block.back n) ≡ true → l.runs n ≡ true
      runs l p n None e h = let x : false ≡ true = sym (ap (run_of k) e) ∙ h in absurd (cc x)
      runs l p n (Some b) e h = ap l.runs (sym (r.block.from n b e)) ∙ p.fewer b (sym (ap (run_of k) e) ∙ h)

      of : (l : Facts M A) → IsClosed d (rename_root m t) l → MorePrecise k (pulled l) → (v : M.value) (q : Option N.value) → r.value.back v ≡ q → AtOrBelow (l.of v) (known_of k (r.value.back v))
      of l c p v None e =
          subst (λ o. AtOrBelow (l.of v) (known_of k o)) (sym e) (any_at_top (l.of v) (c.outside v (λ h.
          let w = has-from_map r.value.to v (defined_in t.regions) (subst (Has v) (values_renamed m t.regions) h) in
          none_some w.it (sym e ∙ ap r.value.back (sym w.is) ∙ r.value.there w.it))))
      of l c p v (Some u) e = subst (λ o. AtOrBelow (l.of v) (known_of k o)) (sym e) (subst (λ x. AtOrBelow (l.of x) (k.of u)) (r.value.from v u e) (p.above u))
