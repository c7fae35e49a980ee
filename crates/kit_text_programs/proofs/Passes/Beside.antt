-- Operations at one place of two trees that say the same: one where the other is, of one kind, with the same attributes.
use Rattle.std.proofs.Common.{◌≡◌, ℕ, List, map, option_and_then, sym, ap, ◌∙◌, subst}
use Rattle.ir_base.specs.declared.types.TypeHandle.{TypeHandle}
use Rattle.ir_names.specs.Dictionary.{attribute_at}
use Rattle.ir_trees.specs.Names.{Names}
use Rattle.ir_trees.specs.Renames.{rename_root, names_of}
use Rattle.ir_trees.specs.Trees.{Root}
use Rattle.opt_trees.specs.Occurrences.{Has, Occurrence, occurrences_of, rename_occurrence, Renaming, maps}
use Rattle.opt_trees.proofs.Lists.{has-map, has-from_map, names-map}
use Rattle.opt_trees.proofs.Trees.{operations_renamed}
use Rattle.opt_meanings.specs.Meanings.{mean_defined, mean_root}
use Rattle.opt_meanings.proofs.Said.{mean_occurrence, names-mean, operation_there, operation_from}
use Rattle.kit_views.specs.Reading.{kit_contents}
use Rattle.kit_text_programs.specs.Meanings.{sayings, attribute_meant, meanings}

module _ {N : Names} (c e : TypeHandle → ℕ) (r : Renaming N N) (t u : Root N kit_contents)
    (same : rename_root (maps r) (mean_root (meanings c) t) ≡ mean_root (meanings e) u) where
  abbrev Op : Type 0
  Op = Occurrence N kit_contents

  abbrev Said : Type 0
  Said = Occurrence N sayings

  abbrev renamed : Said → Said
  renamed = rename_occurrence (maps r)

  abbrev meant : Op → Said
  meant = mean_occurrence (meanings c)

  abbrev other_meant : Op → Said
  other_meant = mean_occurrence (meanings e)

  -- the operations of what the other tree means are those of what the one means, under other names
  pub operations_are : occurrences_of (mean_root (meanings e) u)
      ≡ map (rename_occurrence (maps r)) (occurrences_of (mean_root (meanings c) t))
  operations_are = sym (ap occurrences_of same) ∙ operations_renamed (maps r) (mean_root (meanings c) t)

  -- an operation of the one tree, and one of the other that says the same
  pub record Beside (o q : Op) : Type 0 where
    pub stands : Has o (occurrences_of t)
    pub other : Has q (occurrences_of u)
    pub is : renamed (meant o) ≡ other_meant q

  -- each operation of the one tree has one beside it
  pub from_one : (o : Op) → Has o (occurrences_of t) → (q : Op) × Beside o q
  from_one o h =
      let there : Has (renamed (meant o)) (occurrences_of (mean_root (meanings e) u)) =
      subst (Has (renamed (meant o))) (sym operations_are)
      (has-map renamed (meant o) (occurrences_of (mean_root (meanings c) t))
      (operation_there (meanings c) t o h)) in
      let p = operation_from (meanings e) u (renamed (meant o)) there in
      (p.it, record { stands = h; other = p.stands; is = sym p.is })

  -- and so has each of the other
  pub from_other : (q : Op) → Has q (occurrences_of u) → (o : Op) × Beside o q
  from_other q h =
      let p = has-from_map renamed (other_meant q) (occurrences_of (mean_root (meanings c) t))
      (subst (Has (other_meant q)) operations_are (operation_there (meanings e) u q h)) in
      let o = operation_from (meanings c) t p.it p.stands in
      (o.it, record { stands = o.stands; other = h; is = ap renamed o.is ∙ p.is })

  module _ (o q : Op) (beside : Beside o q) where
    -- the two are of one kind
    pub one_kind : o.head.content.kind ≡ q.head.content.kind
    one_kind = ap (λ (x : Said). x.head.content.kind) beside.is

    -- results of the one are results of the other, under other names
    pub results_are : names_of q.head.results ≡ map r.value.to (names_of o.head.results)
    results_are =
        sym (names-mean e q.head.results) ∙ sym (ap (λ (x : Said). names_of x.head.results) beside.is)
        ∙ names-map r.value.to (map (mean_defined c) o.head.results)
        ∙ ap (map r.value.to) (names-mean c o.head.results)

    -- their attributes mean the same
    pub attributes_are : (key : List ℕ) → option_and_then (attribute_meant c) (attribute_at o.head.content.notes.attributes key)
        ≡ option_and_then (attribute_meant e) (attribute_at q.head.content.notes.attributes key)
    attributes_are key = ap (λ (x : Said). x.head.content.attributes key) beside.is
