-- Renaming twice is renaming by the composition; what stands in a tree under other names.
use Rattle.std.proofs.Common.{◌≡◌, ◌∷◌, ◌++◌, refl, sym, ap, ◌∙◌}
use Rattle.std.specs.Prelude.{map}
use Rattle.ir_trees.specs.Names.{Names, Contents}
use Rattle.ir_trees.specs.Renames.{Maps, rename_defined, rename_head, rename_label, rename, rename_root, twice, names_of}
use Rattle.ir_trees.specs.Trees.{Head, Label, Sort, Operations, Tree, end, operation, block, region, Root}
use Rattle.opt_trees.specs.Occurrences.{Inside, inner, next_block, next_region, occurrences_in, block_occurrences_in, defined_in, occurrences_of, block_occurrences_of, at_root, rename_spot, rename_inside, rename_occurrence, rename_block_occurrence}
use Rattle.opt_trees.proofs.Lists.{map-map, map-append, names-map}

module _ {N M P : Names} {S : Contents} (g : Maps M P) (f : Maps N M) where
  pub head_twice : (h : Head N S) → rename_head g (rename_head f h) ≡ rename_head (twice g f) h
  head_twice h = λ i. record { name = g.operation (f.operation h.name); content = h.content; results = map-map (rename_defined g.value) (rename_defined f.value) h.results i; operands = map-map g.value f.value h.operands i; successors = map-map g.block f.block h.successors i }

  pub label_twice : (l : Label N S) → rename_label g (rename_label f l) ≡ rename_label (twice g f) l
  label_twice l = λ i. record { name = g.block (f.block l.name); content = l.content; arguments = map-map (rename_defined g.value) (rename_defined f.value) l.arguments i }

  pub rename_twice : {s : Sort} (t : Tree N S s) → rename g (rename f t) ≡ rename (twice g f) t
  rename_twice end = refl
  rename_twice (operation h rs rest) = λ i. operation (head_twice h i) (rename_twice rs i) (rename_twice rest i)
  rename_twice (block l ops rest) = λ i. block (label_twice l i) (rename_twice ops i) (rename_twice rest i)
  rename_twice (region bs rest) = λ i. region (rename_twice bs i) (rename_twice rest i)

module _ {N M : Names} {S : Contents} (m : Maps N M) where
  operations_under : {s : Sort} (t : Tree N S s) (c : Inside N S s) → occurrences_in (rename m t) (rename_inside S m s c) ≡ map (rename_occurrence m) (occurrences_in t c)
  operations_under end c = refl
  operations_under (operation h rs rest) c =
      ap (λ l. record { site = rename_inside S m Operations c; head = rename_head m h; regions = rename m rs } ∷ l)
      ((λ i. operations_under rs (inner h c) i ++ operations_under rest c i) ∙ sym (map-append (rename_occurrence m) (occurrences_in rs (inner h c)) (occurrences_in rest c)))
  operations_under (block l ops rest) c = (λ i. operations_under ops (record { spot = c; label = l }) i ++ operations_under rest (next_block c) i) ∙ sym (map-append (rename_occurrence m) (occurrences_in ops (record { spot = c; label = l })) (occurrences_in rest (next_block c)))
  operations_under (region bs rest) c = (λ i. operations_under bs c i ++ operations_under rest (next_region c) i) ∙ sym (map-append (rename_occurrence m) (occurrences_in bs c) (occurrences_in rest (next_region c)))

  blocks_under : {s : Sort} (t : Tree N S s) (c : Inside N S s) → block_occurrences_in (rename m t) (rename_inside S m s c) ≡ map (rename_block_occurrence m) (block_occurrences_in t c)
  blocks_under end c = refl
  blocks_under (operation h rs rest) c = (λ i. blocks_under rs (inner h c) i ++ blocks_under rest c i) ∙ sym (map-append (rename_block_occurrence m) (block_occurrences_in rs (inner h c)) (block_occurrences_in rest c))
  blocks_under (block l ops rest) c =
      ap (λ x. record { spot = rename_spot m c; label = rename_label m l; operations = rename m ops } ∷ x)
      ((λ i. blocks_under ops (record { spot = c; label = l }) i ++ blocks_under rest (next_block c) i) ∙ sym (map-append (rename_block_occurrence m) (block_occurrences_in ops (record { spot = c; label = l })) (block_occurrences_in rest (next_block c))))
  blocks_under (region bs rest) c = (λ i. blocks_under bs c i ++ blocks_under rest (next_region c) i) ∙ sym (map-append (rename_block_occurrence m) (block_occurrences_in bs c) (block_occurrences_in rest (next_region c)))

  pub operations_renamed : (t : Root N S) → occurrences_of (rename_root m t) ≡ map (rename_occurrence m) (occurrences_of t)
  operations_renamed t = operations_under t.regions (at_root t)

  pub blocks_renamed : (t : Root N S) → block_occurrences_of (rename_root m t) ≡ map (rename_block_occurrence m) (block_occurrences_of t)
  blocks_renamed t = blocks_under t.regions (at_root t)

  pub values_renamed : {s : Sort} (t : Tree N S s) → defined_in (rename m t) ≡ map m.value (defined_in t)
  values_renamed end = refl
  values_renamed (operation h rs rest) =
      (λ i. names-map m.value h.results i ++ (values_renamed rs i ++ values_renamed rest i))
      ∙ ap (λ l. map m.value (names_of h.results) ++ l) (sym (map-append m.value (defined_in rs) (defined_in rest)))
      ∙ sym (map-append m.value (names_of h.results) (defined_in rs ++ defined_in rest))
  values_renamed (block l ops rest) =
      (λ i. names-map m.value l.arguments i ++ (values_renamed ops i ++ values_renamed rest i))
      ∙ ap (λ x. map m.value (names_of l.arguments) ++ x) (sym (map-append m.value (defined_in ops) (defined_in rest)))
      ∙ sym (map-append m.value (names_of l.arguments) (defined_in ops ++ defined_in rest))
  values_renamed (region bs rest) = (λ i. values_renamed bs i ++ values_renamed rest i) ∙ sym (map-append m.value (defined_in bs) (defined_in rest))
