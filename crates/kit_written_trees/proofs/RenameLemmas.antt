-- What can be written can be written under other names.
use Rattle.std.proofs.Common.{◌≡◌, ℕ, zero, suc, List, [], ◌∷◌, map, refl, sym, ap, subst}
use Rattle.ir_base.specs.declared.types.TypeHandle.{TypeHandle}
use Rattle.ir_trees.specs.Names.{Names}
use Rattle.ir_trees.specs.Renames.{Maps, rename_defined, rename_head, rename_label, rename, rename_root}
use Rattle.ir_trees.specs.Trees.{Defined, Head, Label, Sort, Regions, Tree, end, operation, block, region, Root}
use Rattle.kit_ops.specs.declared.types.KitType.{KitType}
use Rattle.kit_views.specs.Reading.{kit_contents}
use Rattle.kit_written_trees.proofs.HeadLemmas.{head_like}
use Rattle.kit_writable_trees.specs.Writable.{types_in, count_of, AreWritten, IsWritableHead, IsWritableLabel, IsWritable, IsWritableRoot}
use Rattle.opt_trees.proofs.Lists.{length-map}

-- the types of definitions are the same
pub types_renamed : {V W : Type 0} (f : V → W) (ds : List (Defined V TypeHandle)) →
    types_in (map (rename_defined f) ds) ≡ types_in ds
types_renamed f [] = refl
types_renamed f (x ∷ ds) = ap (λ tys. x.holds ∷ tys) (types_renamed f ds)

module _ {N M : Names} (types : List KitType) (m : Maps N M) where
  count_renamed : (rs : Tree N kit_contents Regions) → count_of (rename m rs) ≡ count_of rs
  count_renamed end = refl
  count_renamed (region bs rest) = ap suc (count_renamed rest)

  head_renamed : (d n k : ℕ) (h : Head N kit_contents) → k ≡ n → IsWritableHead types d n h →
      IsWritableHead types d k (rename_head m h)
  head_renamed d n k h count w = head_like types d n k h (rename_head m h)
      (record {
        kind = refl;
        attributes = refl;
        operands = length-map m.value h.operands;
        results = types_renamed m.value h.results;
        successors = length-map m.block h.successors;
      })
      count w

  label_renamed : (d : ℕ) (l : Label N kit_contents) → IsWritableLabel types d l →
      IsWritableLabel types d (rename_label m l)
  label_renamed d l w = record {
    no_attributes = w.no_attributes;
    arguments = subst (AreWritten types d) (sym (types_renamed m.value l.arguments)) w.arguments;
  }

  renamed_writable : {s : Sort} (d : ℕ) (x : Tree N kit_contents s) → IsWritable types d x →
      IsWritable types d (rename m x)
  renamed_writable d end w = tt
  renamed_writable d (operation h rs rest) w =
      let head : IsWritableHead types d (count_of (rename m rs)) (rename_head m h) =
      head_renamed d (count_of rs) (count_of (rename m rs)) h (count_renamed rs) w.0 in
      (head, renamed_writable d rs w.1, renamed_writable d rest w.2)
  renamed_writable d (block l os rest) w =
      (label_renamed d l w.0, renamed_writable d os w.1, renamed_writable d rest w.2)
  renamed_writable zero (region bs rest) w = absurd w.0
  renamed_writable (suc d) (region bs rest) w =
      (renamed_writable d bs w.0, renamed_writable (suc d) rest w.1)

  pub root_renamed : (t : Root N kit_contents) → IsWritableRoot types t → IsWritableRoot types (rename_root m t)
  root_renamed t w = record {
    head = head_renamed 64 (count_of t.regions) (count_of (rename m t.regions)) t.head (count_renamed t.regions) w.head;
    regions = renamed_writable 64 t.regions w.regions;
  }
