-- What is known of the values under a root before it runs: facts that are closed under what operations do,
-- and the most precise of them.
-- Source: Wegman and Zadeck, Constant propagation with conditional branches, 1991, sparse conditional constant
-- propagation; here by what holds of the solution, not by its computation, and for nested regions.
use Rattle.std.specs.Prelude.{◌≡◌, ◌⊎◌, ℕ, Bool, true, false, List, map, length, Option, Some, None}
use Rattle.std.specs.Prelude.{slice_get}
use Rattle.ir_trees.specs.Names.{Names, Contents}
use Rattle.ir_trees.specs.Renames.{names_of}
use Rattle.ir_trees.specs.Trees.{Head, Sort, Tree, end, operation, block, region, Root}
use Rattle.opt_trees.specs.Occurrences.{Has, types_of, picks, Occurrence, BlockOccurrence, occurrences_of, block_occurrences_of, defined_in}
use Rattle.opt_trees.specs.Dialect.{Dialect}
use Rattle.opt_rows.specs.declared.known.Known.{Known}
use Rattle.opt_rows.specs.declared.known.Known.TheVariants.{Any}
use Rattle.opt_rows.specs.Known.{asked, answer, FactsOf, AllBelow, AllAny, MorePrecise}

-- the blocks known to run, and what is known of the values, of a tree over these names
abbrev pub Facts : Names → Type 0 → Type 0
Facts N A = FactsOf N.block N.value A

-- what is known of each operand; nothing, where one is undetermined
abbrev pub Asked : Type 0 → Type 0
Asked A = Option (List (Option A))

module _ {N : Names} {S : Contents} {A : Type 0} (d : Dialect S A) where
  -- a foldable operation's results lie at or below what it folds to, and another's are any
  abbrev pub FoldClosed : (N.value → Known A) → Head N S → Bool → Asked A → Type 0
  FoldClosed f h false q = AllAny f (names_of h.results)
  FoldClosed f h true None = Unit {0}
  FoldClosed f h true (Some xs) =
      AllBelow f (names_of h.results) (map answer (d.fold h.content (types_of h.results) xs))

  -- the block is the target of a feasible edge: one edge to it is enough for all
  abbrev pub IsFeasible : Head N S → List (Option A) → N.block → Type 0
  IsFeasible h xs b = (j : ℕ) × (slice_get h.successors j ≡ Some b) × (d.feasible h.content xs j ≡ true)

  -- the values that the edge at this index forwards
  abbrev pub forwarded : Head N S → ℕ → List N.value
  forwarded h i = picks h.operands (d.forwards h.content (length h.operands) i)

  -- the edge's target runs, and its arguments lie at or below what is forwarded
  pub record EdgeClosed (xs : List (BlockOccurrence N S)) (k : Facts N A) (h : Head N S) (i : ℕ) (b : N.block) : Type 0 where
    pub target : k.runs b ≡ true
    pub arguments : (x : BlockOccurrence N S) → Has x xs → x.label.name ≡ b →
        AllBelow k.of (names_of x.label.arguments) (map k.of (forwarded h i))

  -- each edge of a branch whose target is feasible
  abbrev pub BranchClosed : List (BlockOccurrence N S) → Facts N A → Head N S → Bool → Asked A → Type 0
  BranchClosed bs k h false q = Unit {0}
  BranchClosed bs k h true None = Unit {0}
  BranchClosed bs k h true (Some xs) =
      (i : ℕ) (b : N.block) → slice_get h.successors i ≡ Some b → IsFeasible h xs b → EdgeClosed bs k h i b

-- the entry blocks of these regions run, with any arguments
abbrev pub EntriesRun : {N : Names} {S : Contents} {A : Type 0} {s : Sort} → Facts N A → Tree N S s → Type 0
EntriesRun k end = Unit {0}
EntriesRun k (operation h rs rest) = Unit {0}
EntriesRun k (block l ops rest) = (k.runs l.name ≡ true) × AllAny k.of (names_of l.arguments)
EntriesRun k (region bs rest) = EntriesRun k bs × EntriesRun k rest

module _ {N : Names} {S : Contents} {A : Type 0} (d : Dialect S A) where
  -- what an operation in a block that runs asks
  pub record OperationClosed (bs : List (BlockOccurrence N S)) (k : Facts N A) (o : Occurrence N S) : Type 0 where
    pub folds : FoldClosed d k.of o.head (d.is_foldable o.head.content) (asked (map k.of o.head.operands))
    pub goes : BranchClosed d bs k o.head (d.is_branch o.head.content) (asked (map k.of o.head.operands))
    pub entries : EntriesRun k o.regions

  pub record IsClosed (t : Root N S) (k : Facts N A) : Type 0 where
    pub entries : EntriesRun k t.regions
    -- values that aren't defined below the root, its results among them, are any
    pub outside : (v : N.value) → (Has v (defined_in t.regions) → ⊥) → k.of v ≡ Any
    pub inside : (o : Occurrence N S) → Has o (occurrences_of t) → k.runs o.site.label.name ≡ true →
        OperationClosed (block_occurrences_of t) k o

  -- closed, and more precise than all that are closed: what the algorithm's optimistic iteration ends with
  pub record IsMostPrecise (t : Root N S) (k : Facts N A) : Type 0 where
    pub closed : IsClosed t k
    pub best : (l : Facts N A) → IsClosed t l → MorePrecise k l

  -- an operand of a foldable operation or branch is undetermined, in a block that runs of an SSA region
  pub record IsLacking (t : Root N S) (k : Facts N A) : Type 0 where
    pub user : Occurrence N S
    pub stands : Has user (occurrences_of t)
    pub runs : k.runs user.site.label.name ≡ true
    pub ssa : d.is_ssa user.site.spot.owner.content user.site.spot.region ≡ true
    pub asks : (d.is_foldable user.head.content ≡ true) ⊎ (d.is_branch user.head.content ≡ true)
    pub lacks : asked (map k.of user.head.operands) ≡ None
