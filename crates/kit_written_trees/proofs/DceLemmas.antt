-- What is left without what is dead can be written.
use Rattle.std.proofs.Common.{◌≡◌, ℕ, zero, suc, Bool, true, false, List, refl, sym, ap, subst}
use Rattle.std.specs.Prelude.{if◌then◌else◌, slice_get}
use Rattle.ir_trees.specs.Names.{Names}
use Rattle.ir_trees.specs.Trees.{Head, Label, Sort, Regions, Tree, end, operation, block, region}
use Rattle.kit.specs.Meaning.{changed_at, without_names, kit}
use Rattle.kit_ops.specs.Keys.{given_names}
use Rattle.kit_ops.specs.declared.types.KitType.{KitType}
use Rattle.kit_views.specs.Reading.{kit_contents}
use Rattle.kit_written_trees.specs.PassLaws.{DceStaysWritable}
use Rattle.kit_written_trees.proofs.EdgeLemmas.{LosesAtBranches, AllLoseAtBranches, loses_at_branches}
use Rattle.kit_written_trees.proofs.EdgeLemmas.{all_lose_at_branches}
use Rattle.kit_written_trees.proofs.BranchLemmas.{head_dropped}
use Rattle.kit_written_trees.proofs.ListLemmas.{types_left, written_left}
use Rattle.kit_writable_trees.specs.Writable.{types_in, count_of, AreWritten, IsWritableHead, IsWritableLabel, IsWritable, IsWritableRoot}
use Rattle.opt_trees.specs.Dce.{Whole, Gone, gone_at, thin_head, thin_label, thin}
use Rattle.opt_trees.specs.Occurrences.{at_root}

module _ {N : Names} (types : List KitType) (g : Gone N) where
  -- regions stay
  count_left : (rs : Tree N kit_contents Regions) → count_of (thin kit g rs) ≡ count_of rs
  count_left end = refl
  count_left (region bs rest) = ap suc (count_left rest)

  -- what loses operands at branches alone can be written
  head_left : (d n m : ℕ) (h : Head N kit_contents) → LosesAtBranches g h → m ≡ n → IsWritableHead types d n h →
      IsWritableHead types d m (thin_head kit g h)
  head_left d n m h lose count w =
      subst (λ k. IsWritableHead types d k (thin_head kit g h)) (sym count) (head_dropped types g d n h lose w)

  label_left : (d : ℕ) (l : Label N kit_contents) → IsWritableLabel types d l →
      IsWritableLabel types d (thin_label kit g l)
  label_left d l w =
      let p : ℕ → Bool = λ i. gone_at g (slice_get l.arguments i) in
      record {
        -- what has no attributes has no names to lose
        no_attributes = ap (λ es. changed_at es given_names (without_names p)) w.no_attributes;
        arguments = subst (AreWritten types d) (sym (types_left p l.arguments))
            (written_left types d p (types_in l.arguments) w.arguments);
      }

  pub left_writable : {s : Sort} (d : ℕ) (x : Tree N kit_contents s) → AllLoseAtBranches g x → IsWritable types d x →
      IsWritable types d (thin kit g x)
  left_writable d end lose w = tt
  left_writable d (operation h rs rest) lose w =
      step (g.item (Whole h.name)) (left_writable d rs lose.1 w.1) (left_writable d rest lose.2 w.2)
    where
      step : (b : Bool) → IsWritable types d (thin kit g rs) → IsWritable types d (thin kit g rest) →
          IsWritable types d
          (if b then thin kit g rest else operation (thin_head kit g h) (thin kit g rs) (thin kit g rest))
      step true a b = b
      step false a b =
          (head_left d (count_of rs) (count_of (thin kit g rs)) h lose.0 (count_left rs) w.0, a, b)
  left_writable d (block l os rest) lose w =
      (label_left d l w.0, left_writable d os lose.0 w.1, left_writable d rest lose.1 w.2)
  left_writable zero (region bs rest) lose w = absurd w.0
  left_writable (suc d) (region bs rest) lose w =
      (left_writable d bs lose.0 w.0, left_writable (suc d) rest lose.1 w.1)

pub dce_law : DceStaysWritable
dce_law = λ types w t after writable apart dce.
    let g = dce.gone in
    let lose : AllLoseAtBranches g t.regions = all_lose_at_branches g t.regions (at_root t)
    (loses_at_branches w t g dce.is_gone apart) in
    subst (IsWritableRoot types) (sym dce.is) (record {
      head = subst (λ n. IsWritableHead types 64 n t.head) (sym (count_left types g t.regions)) writable.head;
      regions = left_writable types g 64 t.regions lose writable.regions;
    })
