-- What is around a spot is what is around the operation that it is in, and this one.
use Rattle.std.proofs.Common.{inl, inr, ⊎_elim, refl, sym, subst}
use Rattle.ir_trees.specs.Names.{Names, Contents}
use Rattle.ir_trees.specs.Trees.{Sort, Operations, Blocks, Regions, Tree, end, operation, block, region, Root}
use Rattle.ir_trees.proofs.Members.{has_front, has_back, has_either}
use Rattle.opt_trees.specs.Occurrences.{Has, Inside, Occurrence, BlockOccurrence, inner, next_block, next_region, at_root, occurrences_in, block_occurrences_in, occurrences_of, block_occurrences_of}
use Rattle.opt_inside.specs.Occurring.{IsNestedIn}

module _ {N : Names} {S : Contents} (t : Root N S) where
  -- where a list stands is nested; of a list of operations that is told with each block
  abbrev NestedAt : (s : Sort) → Inside N S s → Type 0
  NestedAt Operations i = Unit {0}
  NestedAt Blocks i = IsNestedIn t i
  NestedAt Regions i = IsNestedIn t i

  abbrev AllFound : {s : Sort} → Tree N S s → Inside N S s → Type 0
  AllFound u i = (o : Occurrence N S) → Has o (occurrences_in u i) → Has o (occurrences_of t)

  nested_in : (s : Sort) (u : Tree N S s) (i : Inside N S s) → AllFound u i → NestedAt s i → (x : BlockOccurrence N S) → Has x (block_occurrences_in u i) → IsNestedIn t x.spot
  nested_in _ end i all at x has = absurd has
  nested_in _ (operation h rs rest) i all at x has = ⊎_elim
      (nested_in Regions rs (inner h i)
      (λ o g. all o (inr (has_front (occurrences_in rs (inner h i)) (occurrences_in rest i) o g)))
      (inr (record { site = i; head = h; regions = rs }, all (record { site = i; head = h; regions = rs }) (inl refl), refl, refl, refl)) x)
      (nested_in Operations rest i (λ o g. all o (inr (has_back (occurrences_in rs (inner h i)) (occurrences_in rest i) o g))) tt x)
      (has_either (block_occurrences_in rs (inner h i)) (block_occurrences_in rest i) x has)
  nested_in _ (block l ops rest) i all at x has = ⊎_elim
      (λ same. subst (λ (z : BlockOccurrence N S). IsNestedIn t z.spot) (sym same) at)
      (λ more. ⊎_elim
      (nested_in Operations ops (record { spot = i; label = l }) (λ o g. all o (has_front (occurrences_in ops (record { spot = i; label = l })) (occurrences_in rest (next_block i)) o g)) tt x)
      (nested_in Blocks rest (next_block i) (λ o g. all o (has_back (occurrences_in ops (record { spot = i; label = l })) (occurrences_in rest (next_block i)) o g)) at x)
      (has_either (block_occurrences_in ops (record { spot = i; label = l })) (block_occurrences_in rest (next_block i)) x more))
      has
  nested_in _ (region bs rest) i all at x has = ⊎_elim
      (nested_in Blocks bs i (λ o g. all o (has_front (occurrences_in bs i) (occurrences_in rest (next_region i)) o g)) at x)
      (nested_in Regions rest (next_region i) (λ o g. all o (has_back (occurrences_in bs i) (occurrences_in rest (next_region i)) o g)) at x)
      (has_either (block_occurrences_in bs i) (block_occurrences_in rest (next_region i)) x has)

  pub nested : (x : BlockOccurrence N S) → Has x (block_occurrences_of t) → IsNestedIn t x.spot
  nested = nested_in Regions t.regions (at_root t) (λ o h. h) (inl (refl, refl, refl))
