-- What stands in a tree that says the same in other words, and where.
use Rattle.std.proofs.Common.{◌≡◌, List, [], ◌∷◌, ◌++◌, refl, sym, ap, ◌∙◌, subst}
use Rattle.std.specs.Prelude.{map}
use Rattle.ir_trees.specs.Names.{Names, Contents}
use Rattle.ir_trees.specs.Renames.{names_of}
use Rattle.ir_trees.specs.Trees.{Defined, Sort, Operations, Blocks, Regions, Tree, end, operation, block, region, Root}
use Rattle.opt_trees.specs.Occurrences.{Has, types_of, Spot, OperationSite, Occurrence, BlockOccurrence, Inside, inner, next_block, next_region}
use Rattle.opt_trees.specs.Occurrences.{occurrences_in, block_occurrences_in, defined_in, occurrences_of, block_occurrences_of, at_root}
use Rattle.opt_trees.proofs.Lists.{map-append, has-map, has-from_map, Preimage}
use Rattle.opt_meanings.specs.Meanings.{Meanings, mean_defined, mean_head, mean_label, mean, mean_root}

-- the names of definitions stay
pub names-mean : {V T U : Type 0} (f : T → U) (vs : List (Defined V T)) → names_of (map (mean_defined f) vs) ≡ names_of vs
names-mean f [] = refl
names-mean f (v ∷ vs) = ap (λ l. v.name ∷ l) (names-mean f vs)

-- the types of definitions are what they mean
pub types-mean : {V T U : Type 0} (f : T → U) (vs : List (Defined V T)) → types_of (map (mean_defined f) vs) ≡ map f (types_of vs)
types-mean f [] = refl
types-mean f (v ∷ vs) = ap (λ l. f v.holds ∷ l) (types-mean f vs)

module _ {N : Names} {S R : Contents} (m : Meanings S R) where
  -- where a block stands, in what the tree means
  abbrev pub mean_spot : Spot N S → Spot N R
  mean_spot c = record {
    owner = mean_head m c.owner;
    around = c.around;
    within = c.within;
    region = c.region;
    first = c.first;
  }

  -- where an operation stands there
  abbrev pub mean_site : OperationSite N S → OperationSite N R
  mean_site c = record { spot = mean_spot c.spot; label = mean_label m c.label }

  -- an operation there
  abbrev pub mean_occurrence : Occurrence N S → Occurrence N R
  mean_occurrence o = record { site = mean_site o.site; head = mean_head m o.head; regions = mean m o.regions }

  -- a block there
  abbrev pub mean_block_occurrence : BlockOccurrence N S → BlockOccurrence N R
  mean_block_occurrence b =
      record { spot = mean_spot b.spot; label = mean_label m b.label; operations = mean m b.operations }

-- where a list of operations, blocks or regions stands there
abbrev pub mean_inside : (N : Names) {S R : Contents} → Meanings S R → (s : Sort) → Inside N S s → Inside N R s
mean_inside N m Operations c = mean_site {N = N} m c
mean_inside N m Blocks c = mean_spot {N = N} m c
mean_inside N m Regions c = mean_spot {N = N} m c

module _ {N : Names} {S R : Contents} (m : Meanings S R) where
  -- the operations of the meaning of a tree, by those of the tree
  pub operations_under : {s : Sort} (t : Tree N S s) (c : Inside N S s) →
      occurrences_in (mean m t) (mean_inside N m s c) ≡ map (mean_occurrence m) (occurrences_in t c)
  operations_under end c = refl
  operations_under (operation h rs rest) c =
      ap (λ l. record { site = mean_site {N = N} m c; head = mean_head m h; regions = mean m rs } ∷ l)
      ((λ i. operations_under rs (inner h c) i ++ operations_under rest c i)
      ∙ sym (map-append (mean_occurrence m) (occurrences_in rs (inner h c)) (occurrences_in rest c)))
  operations_under (block l ops rest) c =
      (λ i. operations_under ops (record { spot = c; label = l }) i ++ operations_under rest (next_block c) i)
      ∙ sym (map-append (mean_occurrence m) (occurrences_in ops (record { spot = c; label = l })) (occurrences_in rest (next_block c)))
  operations_under (region bs rest) c =
      (λ i. operations_under bs c i ++ operations_under rest (next_region c) i)
      ∙ sym (map-append (mean_occurrence m) (occurrences_in bs c) (occurrences_in rest (next_region c)))

  -- the blocks of the meaning of a tree, by those of the tree
  pub blocks_under : {s : Sort} (t : Tree N S s) (c : Inside N S s) →
      block_occurrences_in (mean m t) (mean_inside N m s c) ≡ map (mean_block_occurrence m) (block_occurrences_in t c)
  blocks_under end c = refl
  blocks_under (operation h rs rest) c =
      (λ i. blocks_under rs (inner h c) i ++ blocks_under rest c i)
      ∙ sym (map-append (mean_block_occurrence m) (block_occurrences_in rs (inner h c)) (block_occurrences_in rest c))
  blocks_under (block l ops rest) c =
      ap (λ x. record { spot = mean_spot m c; label = mean_label m l; operations = mean m ops } ∷ x)
      ((λ i. blocks_under ops (record { spot = c; label = l }) i ++ blocks_under rest (next_block c) i)
      ∙ sym (map-append (mean_block_occurrence m) (block_occurrences_in ops (record { spot = c; label = l })) (block_occurrences_in rest (next_block c))))
  blocks_under (region bs rest) c =
      (λ i. blocks_under bs c i ++ blocks_under rest (next_region c) i)
      ∙ sym (map-append (mean_block_occurrence m) (block_occurrences_in bs c) (block_occurrences_in rest (next_region c)))

  -- the operations below the root that says what a root means
  pub operations_meant : (t : Root N S) → occurrences_of (mean_root m t) ≡ map (mean_occurrence m) (occurrences_of t)
  operations_meant t = operations_under t.regions (at_root t)

  -- the blocks below it
  pub blocks_meant : (t : Root N S) → block_occurrences_of (mean_root m t) ≡ map (mean_block_occurrence m) (block_occurrences_of t)
  blocks_meant t = blocks_under t.regions (at_root t)

  -- the values that are defined in it
  pub defined_meant : {s : Sort} (t : Tree N S s) → defined_in (mean m t) ≡ defined_in t
  defined_meant end = refl
  defined_meant (operation h rs rest) = λ i. names-mean m.value h.results i ++ (defined_meant rs i ++ defined_meant rest i)
  defined_meant (block l ops rest) = λ i. names-mean m.value l.arguments i ++ (defined_meant ops i ++ defined_meant rest i)
  defined_meant (region bs rest) = λ i. defined_meant bs i ++ defined_meant rest i

  -- what an operation of the tree means stands in what the tree means
  pub operation_there : (t : Root N S) (o : Occurrence N S) → Has o (occurrences_of t) →
      Has (mean_occurrence m o) (occurrences_of (mean_root m t))
  operation_there t o has =
      subst (Has (mean_occurrence m o)) (sym (operations_meant t)) (has-map (mean_occurrence m) o (occurrences_of t) has)

  -- what stands there is what an operation of the tree means
  pub operation_from : (t : Root N S) (o : Occurrence N R) → Has o (occurrences_of (mean_root m t)) →
      Preimage (mean_occurrence m) o (occurrences_of t)
  operation_from t o has = has-from_map (mean_occurrence m) o (occurrences_of t) (subst (Has o) (operations_meant t) has)

  -- what a block of the tree means stands in what the tree means
  pub block_there : (t : Root N S) (x : BlockOccurrence N S) → Has x (block_occurrences_of t) →
      Has (mean_block_occurrence m x) (block_occurrences_of (mean_root m t))
  block_there t x has =
      subst (Has (mean_block_occurrence m x)) (sym (blocks_meant t)) (has-map (mean_block_occurrence m) x (block_occurrences_of t) has)

  -- a block that stands there is what a block of the tree means
  pub block_from : (t : Root N S) (x : BlockOccurrence N R) → Has x (block_occurrences_of (mean_root m t)) →
      Preimage (mean_block_occurrence m) x (block_occurrences_of t)
  block_from t x has = has-from_map (mean_block_occurrence m) x (block_occurrences_of t) (subst (Has x) (blocks_meant t) has)
