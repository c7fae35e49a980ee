-- The most precise facts of what a tree means are those of the tree.
use Rattle.std.proofs.Common.{◌≡◌, ℕ, Bool, true, false, List, length, Option, Some, None, refl, sym, ap, ◌∙◌, subst}
use Rattle.std.specs.Prelude.{map}
use Rattle.ir_trees.specs.Names.{Names, Contents}
use Rattle.ir_trees.specs.Renames.{names_of}
use Rattle.ir_trees.specs.Trees.{Head, Sort, Tree, end, operation, block, region, Root}
use Rattle.opt_trees.specs.Occurrences.{Has, types_of, picks, Occurrence, BlockOccurrence, block_occurrences_of}
use Rattle.opt_trees.specs.Dialect.{Dialect}
use Rattle.opt_rows.specs.declared.known.Known.{Known}
use Rattle.opt_rows.specs.Known.{asked, answer, AllBelow, AllAny}
use Rattle.opt_trees.specs.Facts.{Facts, Asked, FoldClosed, forwarded, EdgeClosed, BranchClosed, EntriesRun, OperationClosed, IsClosed, IsMostPrecise}
use Rattle.opt_meanings.specs.Meanings.{Meanings, IsMeant, mean_head, mean, mean_root}
use Rattle.opt_meanings.proofs.Said.{names-mean, types-mean, mean_occurrence, mean_block_occurrence, defined_meant, operation_there, operation_from, block_there, block_from}

module _ {N : Names} {S R : Contents} {A : Type 0} (m : Meanings S R) (d : Dialect S A) (e : Dialect R A) (meant : IsMeant m d e) where
  -- the same entries run
  pub entries_meant : {s : Sort} (k : Facts N A) (t : Tree N S s) → EntriesRun k (mean m t) ≡ EntriesRun k t
  entries_meant k end = refl
  entries_meant k (operation h rs rest) = refl
  entries_meant k (block l ops rest) = λ i. (k.runs l.name ≡ true) × AllAny k.of (names-mean m.value l.arguments i)
  entries_meant k (region bs rest) = λ i. entries_meant k bs i × entries_meant k rest i

  -- what an operation means folds to the same
  pub fold_meant : (h : Head N S) (xs : List (Option A)) →
      e.fold (m.operation h.content) (types_of (mean_head m h).results) xs ≡ d.fold h.content (types_of h.results) xs
  fold_meant h xs =
      ap (λ ts. e.fold (m.operation h.content) ts xs) (types-mean m.value h.results) ∙ meant.fold h.content (types_of h.results) xs

  -- the same is asked of its results, where it is asked the same
  folds_under : (f : N.value → Known A) (h : Head N S) (b : Bool) (q : Asked A) → FoldClosed e f (mean_head m h) b q ≡ FoldClosed d f h b q
  folds_under f h false q = ap (AllAny f) (names-mean m.value h.results)
  folds_under f h true None = refl
  folds_under f h true (Some xs) = λ i. AllBelow f (names-mean m.value h.results i) (map answer (fold_meant h xs i))

  -- the same is asked of its results
  pub folds_meant : (f : N.value → Known A) (h : Head N S) →
      FoldClosed e f (mean_head m h) (e.is_foldable (m.operation h.content)) (asked (map f h.operands))
      ≡ FoldClosed d f h (d.is_foldable h.content) (asked (map f h.operands))
  folds_meant f h =
      ap (λ b. FoldClosed e f (mean_head m h) b (asked (map f h.operands))) (meant.is_foldable h.content)
      ∙ folds_under f h (d.is_foldable h.content) (asked (map f h.operands))

  -- the same is forwarded
  pub forwarded_meant : (h : Head N S) (i : ℕ) → forwarded e (mean_head m h) i ≡ forwarded d h i
  forwarded_meant h i = ap (picks h.operands) (meant.forwards h.content (length h.operands) i)

  module _ (t : Root N S) (k : Facts N A) where
    -- what is asked of a block's arguments
    given_meant : (x : BlockOccurrence N S) (h : Head N S) (i : ℕ) →
        AllBelow k.of (names_of (mean_block_occurrence m x).label.arguments) (map k.of (forwarded e (mean_head m h) i))
        ≡ AllBelow k.of (names_of x.label.arguments) (map k.of (forwarded d h i))
    given_meant x h i = λ j. AllBelow k.of (names-mean m.value x.label.arguments j) (map k.of (forwarded_meant h i j))

    -- an edge that is closed in what the tree means is closed in the tree
    edge_back : (h : Head N S) (i : ℕ) (b : N.block) →
        EdgeClosed e (block_occurrences_of (mean_root m t)) k (mean_head m h) i b → EdgeClosed d (block_occurrences_of t) k h i b
    edge_back h i b c = record {
      target = c.target;
      arguments = λ x has is.
          subst (λ T. T) (given_meant x h i) (c.arguments (mean_block_occurrence m x) (block_there m t x has) is);
    }

    -- and the other way round
    edge_forth : (h : Head N S) (i : ℕ) (b : N.block) →
        EdgeClosed d (block_occurrences_of t) k h i b → EdgeClosed e (block_occurrences_of (mean_root m t)) k (mean_head m h) i b
    edge_forth h i b c = record {
      target = c.target;
      arguments = λ x has is.
          let p = block_from m t x has in
          subst (λ y. AllBelow k.of (names_of y.label.arguments) (map k.of (forwarded e (mean_head m h) i))) p.is
          (subst (λ T. T) (sym (given_meant p.it h i)) (c.arguments p.it p.stands (ap (λ y. y.label.name) p.is ∙ is)));
    }

    -- the same of a branch
    branch_back : (h : Head N S) (b : Bool) (q : Asked A) →
        BranchClosed e (block_occurrences_of (mean_root m t)) k (mean_head m h) b q → BranchClosed d (block_occurrences_of t) k h b q
    branch_back h false q c = tt
    branch_back h true None c = tt
    branch_back h true (Some xs) c = λ i b leads f.
        edge_back h i b (c i b leads (f.0, f.1, meant.feasible h.content xs f.0 ∙ f.2))

    -- and the other way round
    branch_forth : (h : Head N S) (b : Bool) (q : Asked A) →
        BranchClosed d (block_occurrences_of t) k h b q → BranchClosed e (block_occurrences_of (mean_root m t)) k (mean_head m h) b q
    branch_forth h false q c = tt
    branch_forth h true None c = tt
    branch_forth h true (Some xs) c = λ i b leads f.
        edge_forth h i b (c i b leads (f.0, f.1, sym (meant.feasible h.content xs f.0) ∙ f.2))

    -- the same of an operation
    operation_back : (o : Occurrence N S) →
        OperationClosed e (block_occurrences_of (mean_root m t)) k (mean_occurrence m o) → OperationClosed d (block_occurrences_of t) k o
    operation_back o c = record {
      folds = subst (λ T. T) (folds_meant k.of o.head) c.folds;
      goes = branch_back o.head (d.is_branch o.head.content) (asked (map k.of o.head.operands))
          (subst (λ b. BranchClosed e (block_occurrences_of (mean_root m t)) k (mean_head m o.head) b (asked (map k.of o.head.operands)))
          (meant.is_branch o.head.content) c.goes);
      entries = subst (λ T. T) (entries_meant k o.regions) c.entries;
    }

    -- and the other way round
    operation_forth : (o : Occurrence N S) →
        OperationClosed d (block_occurrences_of t) k o → OperationClosed e (block_occurrences_of (mean_root m t)) k (mean_occurrence m o)
    operation_forth o c = record {
      folds = subst (λ T. T) (sym (folds_meant k.of o.head)) c.folds;
      goes =
          subst (λ b. BranchClosed e (block_occurrences_of (mean_root m t)) k (mean_head m o.head) b (asked (map k.of o.head.operands)))
          (sym (meant.is_branch o.head.content))
          (branch_forth o.head (d.is_branch o.head.content) (asked (map k.of o.head.operands)) c.goes);
      entries = subst (λ T. T) (sym (entries_meant k o.regions)) c.entries;
    }

    -- facts that are closed for what the tree means are closed for the tree
    pub closed_back : IsClosed e (mean_root m t) k → IsClosed d t k
    closed_back c = record {
      entries = subst (λ T. T) (entries_meant k t.regions) c.entries;
      outside = λ v out. c.outside v (λ h. out (subst (Has v) (defined_meant m t.regions) h));
      inside = λ o has runs. operation_back o (c.inside (mean_occurrence m o) (operation_there m t o has) runs);
    }

    -- and the other way round
    pub closed_forth : IsClosed d t k → IsClosed e (mean_root m t) k
    closed_forth c = record {
      entries = subst (λ T. T) (sym (entries_meant k t.regions)) c.entries;
      outside = λ v out. c.outside v (λ h. out (subst (Has v) (sym (defined_meant m t.regions)) h));
      inside = λ o has runs.
          let p = operation_from m t o has in
          subst (OperationClosed e (block_occurrences_of (mean_root m t)) k) p.is
          (operation_forth p.it (c.inside p.it p.stands (ap (λ x. k.runs x.site.label.name) p.is ∙ runs)));
    }

  -- the most precise facts of a tree are those of what it means
  pub best_meant : (t : Root N S) (k : Facts N A) → IsMostPrecise d t k → IsMostPrecise e (mean_root m t) k
  best_meant t k b = record {
    closed = closed_forth t k b.closed;
    best = λ l c. b.best l (closed_back t l c);
  }

  -- and the other way round
  pub best_meant_back : (t : Root N S) (k : Facts N A) → IsMostPrecise e (mean_root m t) k → IsMostPrecise d t k
  best_meant_back t k b = record {
    closed = closed_back t k b.closed;
    best = λ l c. b.best l (closed_forth t l c);
  }
