-- What simplifying control flow leaves can be written: branches are decided, blocks are cut, and chains of blocks are
-- joined.
use Rattle.std.proofs.Common.{◌≡◌, ℕ, zero, suc, Bool, true, false, List, Option, refl, sym, ap, subst}
use Rattle.std.specs.Prelude.{if◌then◌else◌}
use Rattle.ir_trees.specs.Names.{Names}
use Rattle.ir_trees.specs.Stands.{by_handle}
use Rattle.ir_trees.specs.Trees.{Head, Sort, Regions, Tree, end, operation, block, region, Root}
use Rattle.kit.specs.Context.{KitTree}
use Rattle.kit.specs.Meaning.{kit}
use Rattle.kit_ops.specs.declared.attributes.IntegerAttr.{IntegerAttr}
use Rattle.kit_ops.specs.declared.types.KitType.{KitType}
use Rattle.kit_pass_rules.specs.Names.{maps_of}
use Rattle.kit_views.specs.Reading.{kit_contents}
use Rattle.kit_written_trees.specs.PassLaws.{SimplifyStaysWritable}
use Rattle.kit_written_trees.proofs.BranchLemmas.{head_decided}
use Rattle.kit_written_trees.proofs.HeadLemmas.{head_like}
use Rattle.kit_written_trees.proofs.JoinedLemmas.{count_joined, chains_writable}
use Rattle.kit_written_trees.proofs.RenameLemmas.{root_renamed}
use Rattle.kit_writable_trees.specs.Writable.{count_of, IsWritableHead, IsWritable}
use Rattle.kit_writable_trees.specs.Writable.{IsWritableRoot}
use Rattle.opt_trees.specs.Simplify.{StartingRegions, all_of, decide, decide_head, decided, keep, use_head, use_instead, IsLocal}
use Rattle.opt_trees.specs.Simplify.{IsJoined, IsSimplify}
use Rattle.opt_trees.proofs.Lists.{length-map}
use Rattle.opt_trees.proofs.Orderly.{phases_local}

-- ---- branches

module _ {N : Names} (types : List KitType) (alone : N.value → Option IntegerAttr) where
  -- regions stay
  count_decided : (rs : Tree N kit_contents Regions) → count_of (decide kit alone rs) ≡ count_of rs
  count_decided end = refl
  count_decided (region bs rest) = ap suc (count_decided rest)

  part_decided : {s : Sort} (d : ℕ) (x : Tree N kit_contents s) → IsWritable types d x →
      IsWritable types d (decide kit alone x)
  part_decided d end w = tt
  part_decided d (operation h rs rest) w =
      let head : IsWritableHead types d (count_of (decide kit alone rs)) (decide_head kit alone h rs) =
      subst (λ n. IsWritableHead types d n (decide_head kit alone h rs)) (sym (count_decided rs))
      (head_decided types alone d (count_of rs) h rs w.0) in
      (head, part_decided d rs w.1, part_decided d rest w.2)
  part_decided d (block l os rest) w = (w.0, part_decided d os w.1, part_decided d rest w.2)
  part_decided zero (region bs rest) w = absurd w.0
  part_decided (suc d) (region bs rest) w =
      (part_decided d bs w.0, part_decided (suc d) rest w.1)

  pub root_decided : (t : Root N kit_contents) → IsWritableRoot types t →
      IsWritableRoot types (record { head = t.head; regions = decide kit alone t.regions })
  root_decided t w = record {
    head = subst (λ n. IsWritableHead types 64 n t.head) (sym (count_decided t.regions)) w.head;
    regions = part_decided 64 t.regions w.regions;
  }

-- ---- blocks

module _ {N : Names} (types : List KitType) (gone : N.block → Bool) where
  count_kept : (rs : Tree N kit_contents Regions) → count_of (keep gone rs) ≡ count_of rs
  count_kept end = refl
  count_kept (region bs rest) = ap suc (count_kept rest)

  pub cut_writable : {s : Sort} (d : ℕ) (x : Tree N kit_contents s) → IsWritable types d x →
      IsWritable types d (keep gone x)
  cut_writable d end w = tt
  cut_writable d (operation h rs rest) w =
      let head : IsWritableHead types d (count_of (keep gone rs)) h =
      subst (λ n. IsWritableHead types d n h) (sym (count_kept rs)) w.0 in
      (head, cut_writable d rs w.1, cut_writable d rest w.2)
  cut_writable d (block l os rest) w = step (gone l.name) (cut_writable d os w.1) (cut_writable d rest w.2)
    where
      step : (b : Bool) → IsWritable types d (keep gone os) → IsWritable types d (keep gone rest) →
          IsWritable types d (if b then keep gone rest else block l (keep gone os) (keep gone rest))
      step true a b = b
      step false a b = (w.0, a, b)
  cut_writable zero (region bs rest) w = absurd w.0
  cut_writable (suc d) (region bs rest) w =
      (cut_writable d bs w.0, cut_writable (suc d) rest w.1)

  pub root_cut : (t : Root N kit_contents) → IsWritableRoot types t →
      IsWritableRoot types (record { head = t.head; regions = keep gone t.regions })
  root_cut t w = record {
    head = subst (λ n. IsWritableHead types 64 n t.head) (sym (count_kept t.regions)) w.head;
    regions = cut_writable 64 t.regions w.regions;
  }

-- ---- values

-- other values are used
module _ {N : Names} (types : List KitType) (f : N.value → N.value) where
  count_used : (rs : Tree N kit_contents Regions) → count_of (use_instead f rs) ≡ count_of rs
  count_used end = refl
  count_used (region bs rest) = ap suc (count_used rest)

  head_used : (d n m : ℕ) (h : Head N kit_contents) → m ≡ n → IsWritableHead types d n h →
      IsWritableHead types d m (use_head f h)
  head_used d n m h count w = head_like types d n m h (use_head f h)
      (record {
        kind = refl;
        attributes = refl;
        operands = length-map f h.operands;
        results = refl;
        successors = refl;
      })
      count w

  used_writable : {s : Sort} (d : ℕ) (x : Tree N kit_contents s) → IsWritable types d x →
      IsWritable types d (use_instead f x)
  used_writable d end w = tt
  used_writable d (operation h rs rest) w =
      let head : IsWritableHead types d (count_of (use_instead f rs)) (use_head f h) =
      head_used d (count_of rs) (count_of (use_instead f rs)) h (count_used rs) w.0 in
      (head, used_writable d rs w.1, used_writable d rest w.2)
  used_writable d (block l os rest) w = (w.0, used_writable d os w.1, used_writable d rest w.2)
  used_writable zero (region bs rest) w = absurd w.0
  used_writable (suc d) (region bs rest) w =
      (used_writable d bs w.0, used_writable (suc d) rest w.1)

  pub root_used : (t : Root N kit_contents) → IsWritableRoot types t →
      IsWritableRoot types (record { head = use_head f t.head; regions = use_instead f t.regions })
  root_used t w = record {
    head = head_used 64 (count_of t.regions) (count_of (use_instead f t.regions)) t.head (count_used t.regions) w.head;
    regions = used_writable 64 t.regions w.regions;
  }

-- ---- the pass

-- chains are joined
joined_writable : (types : List KitType) (p : StartingRegions by_handle) (t after : KitTree) → IsLocal t →
    IsWritableRoot types t → IsJoined kit p t after → IsWritableRoot types after
joined_writable types p t after local writable joined =
    let made : KitTree = record { head = t.head; regions = joined.regions } in
    let written : IsWritableRoot types made = record {
      head = subst (λ n. IsWritableHead types 64 n t.head)
          (sym (count_joined kit p t t.regions joined.regions joined.joins)) writable.head;
      regions = chains_writable types kit p t local 64 writable.regions joined.regions joined.joins;
    } in
    subst (IsWritableRoot types) (sym joined.is) (root_used types joined.names made written)

pub simplify_law : SimplifyStaysWritable
simplify_law = λ types w t after writable local named.
    let made : KitTree = named.0 in
    let pass : IsSimplify kit w t made = named.1 in
    let at_cut : IsWritableRoot types pass.cut = subst (IsWritableRoot types) (sym pass.is_cut.is)
    (root_cut types pass.is_cut.gone (decided kit w t) (root_decided types w.alone t writable)) in
    let local_cut : IsLocal pass.cut = phases_local kit (all_of t) w t pass.cut pass.is_cut local in
    subst (IsWritableRoot types) (sym named.3)
    (root_renamed types (maps_of named.2) made
    (joined_writable types (all_of t) pass.cut made local_cut at_cut pass.is_joined))
