-- What is found inside something that is found in a tree is found in the tree.
use Rattle.std.proofs.Common.{◌≡◌, inl, inr, ⊎_elim, ℕ, zero, suc, List, [], Some, slice_get, refl, subst}
use Rattle.ir_program.specs.Program.{Program, OperationView, RegionView, operation_at, region_at}
use Rattle.ir_program.specs.declared.handles.Ptr.{Ptr}
use Rattle.ir_program.specs.declared.handles.Operation.{Operation}
use Rattle.ir_program.specs.declared.handles.Region.{Region}
use Rattle.ir_program.specs.declared.handles.BasicBlock.{BasicBlock}
use Rattle.ir_trees.specs.Names.{Names, Contents}
use Rattle.ir_trees.specs.Places.{reached, AnOperation}
use Rattle.ir_trees.specs.Trees.{Sort, Operations, Blocks, Regions, Tree, end, operation, block, region}
use Rattle.ir_trees.specs.Stands.{by_handle, in_program, head_of, label_of, AreTree, no_operations, no_blocks, no_regions, first_operation, first_block, first_region}
use Rattle.ir_trees.proofs.Members.{has_front, has_back, has_either}
use Rattle.opt_inside.specs.Occurring.{AreBeside}
use Rattle.opt_trees.specs.Occurrences.{Has, Spot, OperationSite, Inside, Occurrence, BlockOccurrence, inner, next_block, next_region, occurrences_in, block_occurrences_in}

module _ {N : Names} {S : Contents} where
  beside : (a : Spot N S) → AreBeside a a
  beside a = record { owner = refl; around = refl; within = refl; region = refl }

  -- in the regions of an operation that is found
  pub operations_below : (s : Sort) (t : Tree N S s) (i : Inside N S s) (o : Occurrence N S) → Has o (occurrences_in t i) → (q : Occurrence N S) → Has q (occurrences_in o.regions (inner o.head o.site)) → Has q (occurrences_in t i)
  operations_below _ end i o has q more = absurd has
  operations_below _ (operation h rs rest) i o has q more = ⊎_elim
      (λ same. inr (has_front (occurrences_in rs (inner h i)) (occurrences_in rest i) q (subst (λ (x : Occurrence N S). Has q (occurrences_in x.regions (inner x.head x.site))) same more)))
      (λ deep. inr (⊎_elim
      (λ a. has_front (occurrences_in rs (inner h i)) (occurrences_in rest i) q (operations_below Regions rs (inner h i) o a q more))
      (λ b. has_back (occurrences_in rs (inner h i)) (occurrences_in rest i) q (operations_below Operations rest i o b q more))
      (has_either (occurrences_in rs (inner h i)) (occurrences_in rest i) o deep)))
      has
  operations_below _ (block l ops rest) i o has q more = ⊎_elim
      (λ a. has_front (occurrences_in ops (record { spot = i; label = l })) (occurrences_in rest (next_block i)) q (operations_below Operations ops (record { spot = i; label = l }) o a q more))
      (λ b. has_back (occurrences_in ops (record { spot = i; label = l })) (occurrences_in rest (next_block i)) q (operations_below Blocks rest (next_block i) o b q more))
      (has_either (occurrences_in ops (record { spot = i; label = l })) (occurrences_in rest (next_block i)) o has)
  operations_below _ (region bs rest) i o has q more = ⊎_elim
      (λ a. has_front (occurrences_in bs i) (occurrences_in rest (next_region i)) q (operations_below Blocks bs i o a q more))
      (λ b. has_back (occurrences_in bs i) (occurrences_in rest (next_region i)) q (operations_below Regions rest (next_region i) o b q more))
      (has_either (occurrences_in bs i) (occurrences_in rest (next_region i)) o has)

  pub blocks_below : (s : Sort) (t : Tree N S s) (i : Inside N S s) (o : Occurrence N S) → Has o (occurrences_in t i) → (x : BlockOccurrence N S) → Has x (block_occurrences_in o.regions (inner o.head o.site)) → Has x (block_occurrences_in t i)
  blocks_below _ end i o has x more = absurd has
  blocks_below _ (operation h rs rest) i o has x more = ⊎_elim
      (λ same. has_front (block_occurrences_in rs (inner h i)) (block_occurrences_in rest i) x (subst (λ (z : Occurrence N S). Has x (block_occurrences_in z.regions (inner z.head z.site))) same more))
      (λ deep. ⊎_elim
      (λ a. has_front (block_occurrences_in rs (inner h i)) (block_occurrences_in rest i) x (blocks_below Regions rs (inner h i) o a x more))
      (λ b. has_back (block_occurrences_in rs (inner h i)) (block_occurrences_in rest i) x (blocks_below Operations rest i o b x more))
      (has_either (occurrences_in rs (inner h i)) (occurrences_in rest i) o deep))
      has
  blocks_below _ (block l ops rest) i o has x more = inr (⊎_elim
      (λ a. has_front (block_occurrences_in ops (record { spot = i; label = l })) (block_occurrences_in rest (next_block i)) x (blocks_below Operations ops (record { spot = i; label = l }) o a x more))
      (λ b. has_back (block_occurrences_in ops (record { spot = i; label = l })) (block_occurrences_in rest (next_block i)) x (blocks_below Blocks rest (next_block i) o b x more))
      (has_either (occurrences_in ops (record { spot = i; label = l })) (occurrences_in rest (next_block i)) o has))
  blocks_below _ (region bs rest) i o has x more = ⊎_elim
      (λ a. has_front (block_occurrences_in bs i) (block_occurrences_in rest (next_region i)) x (blocks_below Blocks bs i o a x more))
      (λ b. has_back (block_occurrences_in bs i) (block_occurrences_in rest (next_region i)) x (blocks_below Regions rest (next_region i) o b x more))
      (has_either (occurrences_in bs i) (occurrences_in rest (next_region i)) o has)

  -- among the operations of a block that is found
  pub operations_of_block : (s : Sort) (t : Tree N S s) (i : Inside N S s) (x : BlockOccurrence N S) → Has x (block_occurrences_in t i) → (o : Occurrence N S) → Has o (occurrences_in x.operations (record { spot = x.spot; label = x.label })) → Has o (occurrences_in t i)
  operations_of_block _ end i x has o more = absurd has
  operations_of_block _ (operation h rs rest) i x has o more = inr (⊎_elim
      (λ a. has_front (occurrences_in rs (inner h i)) (occurrences_in rest i) o (operations_of_block Regions rs (inner h i) x a o more))
      (λ b. has_back (occurrences_in rs (inner h i)) (occurrences_in rest i) o (operations_of_block Operations rest i x b o more))
      (has_either (block_occurrences_in rs (inner h i)) (block_occurrences_in rest i) x has))
  operations_of_block _ (block l ops rest) i x has o more = ⊎_elim
      (λ same. has_front (occurrences_in ops (record { spot = i; label = l })) (occurrences_in rest (next_block i)) o (subst (λ (z : BlockOccurrence N S). Has o (occurrences_in z.operations (record { spot = z.spot; label = z.label }))) same more))
      (λ deep. ⊎_elim
      (λ a. has_front (occurrences_in ops (record { spot = i; label = l })) (occurrences_in rest (next_block i)) o (operations_of_block Operations ops (record { spot = i; label = l }) x a o more))
      (λ b. has_back (occurrences_in ops (record { spot = i; label = l })) (occurrences_in rest (next_block i)) o (operations_of_block Blocks rest (next_block i) x b o more))
      (has_either (block_occurrences_in ops (record { spot = i; label = l })) (block_occurrences_in rest (next_block i)) x deep))
      has
  operations_of_block _ (region bs rest) i x has o more = ⊎_elim
      (λ a. has_front (occurrences_in bs i) (occurrences_in rest (next_region i)) o (operations_of_block Blocks bs i x a o more))
      (λ b. has_back (occurrences_in bs i) (occurrences_in rest (next_region i)) o (operations_of_block Regions rest (next_region i) x b o more))
      (has_either (block_occurrences_in bs i) (block_occurrences_in rest (next_region i)) x has)

module _ {O B : Type 0} (c : Program O B) where
  -- the operation of a list that a handle leads to
  pub record IsOperationOf (p : Ptr Operation) (k : ℕ) (t : Tree by_handle (in_program O B) Operations) (i : OperationSite by_handle (in_program O B)) : Type 0 where
    pub view : OperationView O
    pub there : operation_at c p ≡ Some view
    pub regions : Tree by_handle (in_program O B) Regions
    pub tree : AreTree c Regions view.regions regions
    pub has : Has (record { site = i; head = head_of p view; regions = regions }) (occurrences_in t i)
    pub reach : reached t k [] ≡ Some (AnOperation (record { head = head_of p view; regions = regions }))

  pub operation_of : (ps : List (Ptr Operation)) (t : Tree by_handle (in_program O B) Operations) (i : OperationSite by_handle (in_program O B)) → AreTree c Operations ps t → (k : ℕ) (p : Ptr Operation) → slice_get ps k ≡ Some p → IsOperationOf p k t i
  operation_of _ _ i no_operations k p at = cc
  operation_of _ _ i (first_operation q qs v rs left there below behind) zero p at =
      let same : q ≡ p = cc in
      subst (λ z. IsOperationOf z 0 (operation (head_of q v) rs left) i) same (record { view = v; there = there; regions = rs; tree = below; has = inl refl; reach = refl })
  operation_of _ _ i (first_operation q qs v rs left there below behind) (suc k) p at =
      let h = operation_of qs left i behind k p at in
      record { view = h.view; there = h.there; regions = h.regions; tree = h.tree; has = inr (has_back (occurrences_in rs (inner (head_of q v) i)) (occurrences_in left i) (record { site = i; head = head_of p h.view; regions = h.regions }) h.has); reach = h.reach }

  -- the block of a list that a handle leads to
  pub record IsBlockOf (b : Ptr BasicBlock) (t : Tree by_handle (in_program O B) Blocks) (i : Spot by_handle (in_program O B)) : Type 0 where
    pub found : BlockOccurrence by_handle (in_program O B)
    pub named : found.label.name ≡ b
    pub has : Has found (block_occurrences_in t i)
    pub spot : AreBeside found.spot i

  pub block_of : (bs : List (Ptr BasicBlock)) (t : Tree by_handle (in_program O B) Blocks) (i : Spot by_handle (in_program O B)) → AreTree c Blocks bs t → (k : ℕ) (b : Ptr BasicBlock) → slice_get bs k ≡ Some b → IsBlockOf b t i
  block_of _ _ i no_blocks k b at = cc
  block_of _ _ i (first_block a bs v ops left there below behind) zero b at =
      record { found = record { spot = i; label = label_of a v; operations = ops }; named = cc; has = inl refl; spot = beside i }
  block_of _ _ i (first_block a bs v ops left there below behind) (suc k) b at =
      let h = block_of bs left (next_block i) behind k b at in
      record {
        found = h.found;
        named = h.named;
        has = inr (has_back (block_occurrences_in ops (record { spot = i; label = label_of a v })) (block_occurrences_in left (next_block i)) h.found h.has);
        spot = record { owner = h.spot.owner; around = h.spot.around; within = h.spot.within; region = h.spot.region };
      }

  -- the region of a list that a handle leads to: what is found there is found in the list
  pub record IsRegionOf (r : Ptr Region) (t : Tree by_handle (in_program O B) Regions) (i : Spot by_handle (in_program O B)) : Type 0 where
    pub view : RegionView
    pub there : region_at c r ≡ Some view
    pub blocks : Tree by_handle (in_program O B) Blocks
    pub tree : AreTree c Blocks view.blocks blocks
    pub at : Spot by_handle (in_program O B)
    pub all : (x : BlockOccurrence by_handle (in_program O B)) → Has x (block_occurrences_in blocks at) → Has x (block_occurrences_in t i)

  pub region_of : (rs : List (Ptr Region)) (t : Tree by_handle (in_program O B) Regions) (i : Spot by_handle (in_program O B)) → AreTree c Regions rs t → (k : ℕ) (r : Ptr Region) → slice_get rs k ≡ Some r → IsRegionOf r t i
  region_of _ _ i no_regions k r at = cc
  region_of _ _ i (first_region q qs v bs left there below behind) zero r at =
      let same : q ≡ r = cc in
      record { view = v; there = subst (λ z. region_at c z ≡ Some v) same there; blocks = bs; tree = below; at = i; all = λ x h. has_front (block_occurrences_in bs i) (block_occurrences_in left (next_region i)) x h }
  region_of _ _ i (first_region q qs v bs left there below behind) (suc k) r at =
      let h = region_of qs left (next_region i) behind k r at in
      record { view = h.view; there = h.there; blocks = h.blocks; tree = h.tree; at = h.at; all = λ x g. has_back (block_occurrences_in bs i) (block_occurrences_in left (next_region i)) x (h.all x g) }
