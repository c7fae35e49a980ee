-- What joining chains of blocks leaves of a tree that can be written, at any root: the last branches of a chain go, and each
-- of its blocks is as deep as the first. That operations may be branches is no hindrance.
use Rattle.std.proofs.Common.{◌≡◌, ⊎_elim, inl, ℕ, zero, suc, ◌+◌, List, length, Option, Some, None, refl}
use Rattle.std.proofs.Common.{sym, ap, ◌∙◌, subst, arith}
use Rattle.ir_trees.specs.Names.{Names}
use Rattle.ir_trees.specs.Trees.{Sort, Operations, Blocks, Regions, Tree, end, operation, block, region, Root}
use Rattle.kit_ops.specs.declared.types.KitType.{KitType}
use Rattle.kit_views.specs.Reading.{kit_contents}
use Rattle.kit_writable_trees.specs.Writable.{count_of, IsWritableHead, IsWritable}
use Rattle.opt_trees.specs.Dialect.{Dialect}
use Rattle.opt_trees.specs.Occurrences.{Has, BlockOccurrence, Inside, inner, next_block, next_region}
use Rattle.opt_trees.specs.Occurrences.{block_occurrences_in, occurrences_of, block_occurrences_of, at_root}
use Rattle.opt_trees.specs.Simplify.{StartingRegions, but_last, append, Joinable, Joins, ends, operations, regions}
use Rattle.opt_trees.specs.Simplify.{taken, first, chain_ends, chain_goes_on, IsLocal}
use Rattle.opt_trees.proofs.Homes.{Part, part_regions, part_rest, part_block, part_blocks, part_region, part_more}
use Rattle.opt_trees.proofs.Homes.{part_part, block_inside, but_last_inside}
use Rattle.opt_trees.proofs.NoneDead.{has-append}
use Rattle.opt_trees.proofs.Reached.{holder}

-- ---- regions

module _ {N : Names} where
  -- how many regions are in the list itself
  abbrev own_count : {s : Sort} → Tree N kit_contents s → ℕ
  own_count end = 0
  own_count (operation h rs rest) = 0
  own_count (block l os rest) = own_count rest
  own_count (region bs rest) = suc (own_count rest)

  own_count_is : (rs : Tree N kit_contents Regions) → own_count rs ≡ count_of rs
  own_count_is end = refl
  own_count_is (region bs rest) = ap suc (own_count_is rest)

  none_counted : (os : Tree N kit_contents Operations) → own_count os ≡ 0
  none_counted end = refl
  none_counted (operation h rs rest) = refl

module _ {N : Names} {A : Type 0} (d : Dialect kit_contents A) (p : StartingRegions N) (r : Root N kit_contents) where
  -- no region goes
  count_same : (q : Option N.block) (s : Sort) (x y : Tree N kit_contents s) → Joins d p r q s x y →
      own_count y ≡ own_count x
  count_same _ _ _ _ (ends s) = refl
  count_same _ _ _ _ (operations h rs qs rest more x y) = refl
  count_same _ _ _ _ (regions bs cs rest more x y) = ap suc (count_same None Regions rest more y)
  count_same _ _ _ _ (taken l ops rest more b j x) = count_same None Blocks rest more x
  count_same _ _ _ _ (first l ops all rest more n x y) = count_same None Blocks rest more y
  count_same _ _ _ _ (chain_ends b ops own n x) = none_counted own ∙ sym (none_counted ops)
  count_same _ _ _ _ (chain_goes_on b z ops own others all j h x y e) = none_counted all ∙ sym (none_counted ops)

  pub count_joined : (rs qs : Tree N kit_contents Regions) → Joins d p r None Regions rs qs → count_of qs ≡ count_of rs
  count_joined rs qs j = sym (own_count_is qs) ∙ (count_same None Regions rs qs j ∙ own_count_is rs)

-- ---- operations

module _ {N : Names} (types : List KitType) where
  append_written : (e : ℕ) (x y : Tree N kit_contents Operations) → IsWritable types e x → IsWritable types e y →
      IsWritable types e (append x y)
  append_written e end y a b = b
  append_written e (operation h rs rest) y a b = (a.0, a.1, append_written e rest y a.2 b)

  but_last_written : (e : ℕ) (x : Tree N kit_contents Operations) → IsWritable types e x →
      IsWritable types e (but_last x)
  but_last_written e end w = tt
  but_last_written e (operation h rs end) w = tt
  but_last_written e (operation h rs (operation g qs rest)) w =
      (w.0, w.1, but_last_written e (operation g qs rest) w.2)

-- of a root whose blocks have names of their own and whose edges stay in their region; so many may stand in one another
module _ {N : Names} {A : Type 0} (types : List KitType) (d : Dialect kit_contents A) (p : StartingRegions N)
    (r : Root N kit_contents) (local : IsLocal r) (top : ℕ) (writable : IsWritable types top r.regions) where
  -- what is left of that at a place
  abbrev IsAt : (s : Sort) → ℕ → Inside N kit_contents s → Type 0
  IsAt Operations e c = suc e + length c.spot.around ≡ top
  IsAt Blocks e c = suc e + length c.around ≡ top
  IsAt Regions e c = e + length c.around ≡ top

  record WrittenBlock (y : BlockOccurrence N kit_contents) : Type 0 where
    depth : ℕ
    at : suc depth + length y.spot.around ≡ top
    operations_written : IsWritable types depth y.operations

  written_block : {s : Sort} (e : ℕ) (x : Tree N kit_contents s) (c : Inside N kit_contents s) → IsAt s e c →
      IsWritable types e x → (y : BlockOccurrence N kit_contents) → Has y (block_occurrences_in x c) → WrittenBlock y
  written_block e end c at w y has = absurd has
  written_block e (operation h rs rest) c at w y has = ⊎_elim
      (λ i. written_block e rs (inner h c) (omega (arith, at)) w.1 y i)
      (λ i. written_block e rest c at w.2 y i)
      (has-append y (block_occurrences_in rs (inner h c)) (block_occurrences_in rest c) has)
  written_block e (block l os rest) c at w y has = ⊎_elim
      (λ i. subst WrittenBlock (sym i) (record { depth = e; at = at; operations_written = w.1 }))
      (λ more. ⊎_elim
      (λ i. written_block e os (record { spot = c; label = l }) at w.1 y i)
      (λ i. written_block e rest (next_block c) at w.2 y i)
      (has-append y (block_occurrences_in os (record { spot = c; label = l }))
      (block_occurrences_in rest (next_block c)) more))
      has
  written_block zero (region bs rest) c at w y has = absurd w.0
  written_block (suc e) (region bs rest) c at w y has = ⊎_elim
      (λ i. written_block e bs c at w.0 y i)
      (λ i. written_block (suc e) rest (next_region c) at w.1 y i)
      (has-append y (block_occurrences_in bs c) (block_occurrences_in rest (next_region c)) has)

  block_at : (z : BlockOccurrence N kit_contents) (e : ℕ) → Has z (block_occurrences_of r) →
      suc e + length z.spot.around ≡ top → IsWritable types e z.operations
  block_at z e has at =
      let root_at : top + 0 ≡ top = omega arith in
      let w = written_block top r.regions (at_root r) root_at writable z has in
      let there : suc w.depth + length z.spot.around ≡ top = w.at in
      let same : w.depth ≡ e = omega (arith, there, at) in
      subst (λ n. IsWritable types n z.operations) same w.operations_written

  -- a block of this name, in which so many may stand in one another
  record IsAsDeep (b : N.block) (e : ℕ) : Type 0 where
    it : BlockOccurrence N kit_contents
    stands : Has it (block_occurrences_of r)
    name : it.label.name ≡ b
    at : suc e + length it.spot.around ≡ top

  abbrev IsOfChain : Option N.block → ℕ → Type 0
  IsOfChain None e = Unit {0}
  IsOfChain (Some b) e = IsAsDeep b e

  -- the next block of a chain is as deep
  next_at : (b : N.block) (z : BlockOccurrence N kit_contents) (e : ℕ) → Joinable d p r b z.label.name →
      Has z (block_occurrences_of r) → IsAsDeep b e → suc e + length z.spot.around ≡ top
  next_at b z e j has deep =
      let home = ⊎_elim (λ q. absurd q) (λ q. q) (holder r.regions (at_root r) j.last j.stands) in
      let same : home.it ≡ deep.it = local.blocks home.it deep.it home.stands deep.stands
      (ap (λ l. l.name) home.label ∙ (j.in_block ∙ sym deep.name)) in
      let beside = local.edges j.last z j.stands has (subst (Has z.label.name) (sym j.leads) (inl refl)) in
      let around : z.spot.around ≡ deep.it.spot.around =
      beside.around ∙ (ap (λ c. c.around) (sym home.spot) ∙ ap (λ x. x.spot.around) same) in
      ap (λ l. suc e + length l) around ∙ deep.at

  written_joined : (q : Option N.block) (s : Sort) (x y : Tree N kit_contents s) → Joins d p r q s x y → (e : ℕ)
      (c : Inside N kit_contents s) → IsAt s e c → IsOfChain q e →
      Part x c (occurrences_of r) (block_occurrences_of r) → IsWritable types e x → IsWritable types e y
  written_joined _ _ _ _ (ends s) e c at k i w = tt
  written_joined _ _ _ _ (operations h rs qs rest more x y) e c at k i w =
      let head : IsWritableHead types e (count_of qs) h =
      subst (λ n. IsWritableHead types e n h) (sym (count_joined d p r rs qs x)) w.0 in (
        head,
        written_joined None Regions rs qs x e (inner h c) (omega (arith, at)) tt
            (part_regions (occurrences_of r) (block_occurrences_of r) h rs rest c i) w.1,
        written_joined None Operations rest more y e c at tt
            (part_rest (occurrences_of r) (block_occurrences_of r) h rs rest c i) w.2,
      )
  written_joined _ _ _ _ (regions bs cs rest more x y) zero c at k i w = absurd w.0
  written_joined _ _ _ _ (regions bs cs rest more x y) (suc e) c at k i w = (
    written_joined None Blocks bs cs x e c at tt
        (part_region (occurrences_of r) (block_occurrences_of r) bs rest c i) w.0,
    written_joined None Regions rest more y (suc e) (next_region c) at tt
        (part_more (occurrences_of r) (block_occurrences_of r) bs rest c i) w.1,
  )
  written_joined _ _ _ _ (taken l ops rest more b j x) e c at k i w =
      written_joined None Blocks rest more x e (next_block c) at tt
      (part_blocks (occurrences_of r) (block_occurrences_of r) l ops rest c i) w.2
  written_joined _ _ _ _ (first l ops all rest more n x y) e c at k i w =
      let own : BlockOccurrence N kit_contents = record { spot = c; label = l; operations = ops } in
      let deep : IsAsDeep l.name e = record { it = own; stands = i.blocks own (inl refl); name = refl; at = at } in (
        w.0,
        written_joined (Some l.name) Operations ops all x e (record { spot = c; label = l }) at deep
            (part_block (occurrences_of r) (block_occurrences_of r) l ops rest c i) w.1,
        written_joined None Blocks rest more y e (next_block c) at tt
            (part_blocks (occurrences_of r) (block_occurrences_of r) l ops rest c i) w.2,
      )
  written_joined _ _ _ _ (chain_ends b ops own n x) e c at k i w =
      written_joined None Operations ops own x e c at tt i w
  written_joined _ _ _ _ (chain_goes_on b z ops own others all j h x y same) e c at k i w =
      let next : suc e + length z.spot.around ≡ top = next_at b z e j h k in
      let deep : IsAsDeep z.label.name e = record { it = z; stands = h; name = refl; at = next } in
      subst (IsWritable types e) (sym same) (append_written types e own others
      (written_joined None Operations (but_last ops) own x e c at tt (part_part (but_last_inside ops c) i)
      (but_last_written types e ops w))
      (written_joined (Some z.label.name) Operations z.operations others y e
      (record { spot = z.spot; label = z.label }) next deep (block_inside r.regions (at_root r) z h)
      (block_at z e h next)))

  -- with chains joined it can be written
  pub chains_writable : (made : Tree N kit_contents Regions) → Joins d p r None Regions r.regions made →
      IsWritable types top made
  chains_writable made joins =
      let root_at : top + 0 ≡ top = omega arith in
      written_joined None Regions r.regions made joins top (at_root r) root_at tt
      (record { operations = λ o h. h; blocks = λ x h. h }) writable
