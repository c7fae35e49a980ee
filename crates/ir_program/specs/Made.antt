-- What making an operation, a block or a region adds.
use Rattle.std.specs.Prelude.{◌≡◌, ◌≢◌, ℕ, ◌<◌, ◌+◌, length, ◌++◌, List, [], ◌∷◌, Some, None, option_map, slice_get}
use Rattle.ir_arena.specs.Arena.{IsSpent}
use Rattle.ir_base.specs.declared.types.TypeHandle.{TypeHandle}
use Rattle.ir_program.specs.Program.{Program, OperationView, operation_at, block_at, region_at, type_at}
use Rattle.ir_program.specs.Lists.{IsUnlinkedOperation, IsUnlinkedBlock, regions_in}
use Rattle.ir_program.specs.Adds.{numbered_values}
use Rattle.ir_program.specs.declared.handles.Value.{Value}
use Rattle.ir_program.specs.declared.handles.DefiningEntity.TheVariants.{Op as ByOp, Block as ByBlock}
use Rattle.ir_program.specs.Edits.{KeepsErased}
use Rattle.ir_program.specs.declared.handles.Ptr.{Ptr}
use Rattle.ir_program.specs.declared.handles.Operation.{Operation}
use Rattle.ir_program.specs.declared.handles.Region.{Region}
use Rattle.ir_program.specs.declared.handles.BasicBlock.{BasicBlock}

-- the handle is none of these
abbrev pub IsNoneOf : {E : Type 0} → List (Ptr E) → Ptr E → Type 0
IsNoneOf ps q = (k : ℕ) → slice_get ps k ≢ Some q

module _ {O B : Type 0} where
  -- p, a handle that was never given out, leads to an operation with this payload and nothing else, and all else is as it was
  pub record MakesBareOperation (old new : Program O B) (p : Ptr Operation) (payload : O) : Type 0 where
    pub fresh : operation_at old p ≡ None
    pub unspent : IsSpent old.forest.ops p.key → ⊥
    pub made : operation_at new p ≡ Some (record { payload = payload; results = []; operands = []; successors = []; regions = [] })
    pub others : (q : Ptr Operation) → q ≢ p → operation_at new q ≡ operation_at old q
    pub blocks : (q : Ptr BasicBlock) → block_at new q ≡ block_at old q
    pub regions : (q : Ptr Region) → region_at new q ≡ region_at old q
    pub erased : KeepsErased old new
    pub counter : new.counter ≡ old.counter

  -- p, a handle that was never given out, leads to a block with this payload and nothing else, and all else is as it was
  pub record MakesBareBlock (old new : Program O B) (p : Ptr BasicBlock) (payload : B) : Type 0 where
    pub fresh : block_at old p ≡ None
    pub unspent : IsSpent old.forest.blocks p.key → ⊥
    pub made : block_at new p ≡ Some (record { payload = payload; arguments = []; operations = [] })
    pub others : (q : Ptr BasicBlock) → q ≢ p → block_at new q ≡ block_at old q
    pub operations : (q : Ptr Operation) → operation_at new q ≡ operation_at old q
    pub regions : (q : Ptr Region) → region_at new q ≡ region_at old q
    pub erased : KeepsErased old new
    pub counter : new.counter ≡ old.counter

  -- r, a handle that was never given out, leads to a region with no block, the last of operation p, and all else is as it was
  pub record MakesRegion (old new : Program O B) (p : Ptr Operation) (r : Ptr Region) : Type 0 where
    pub fresh : region_at old r ≡ None
    pub unspent : IsSpent old.forest.regions r.key → ⊥
    pub made : region_at new r ≡ Some (record { blocks = [] })
    pub others : (q : Ptr Region) → q ≢ r → region_at new q ≡ region_at old q
    pub holder : operation_at new p ≡ option_map (λ (o : OperationView O). record o { regions = o.regions ++ r ∷ [] }) (operation_at old p)
    pub operations : (q : Ptr Operation) → q ≢ p → operation_at new q ≡ operation_at old q
    pub blocks : (q : Ptr BasicBlock) → block_at new q ≡ block_at old q
    pub erased : KeepsErased old new
    pub counter : new.counter ≡ old.counter

  -- the handles, each of which was never given out and none of which comes twice, lead to regions with no block; each other region is as it was
  pub record MakesRegions (old new : Program O B) (rs : List (Ptr Region)) : Type 0 where
    pub fresh : (k : ℕ) (r : Ptr Region) → slice_get rs k ≡ Some r → region_at old r ≡ None
    pub unspent : (k : ℕ) (r : Ptr Region) → slice_get rs k ≡ Some r → IsSpent old.forest.regions r.key → ⊥
    pub distinct : (j k : ℕ) (r : Ptr Region) → slice_get rs j ≡ Some r → slice_get rs k ≡ Some r → j ≡ k
    pub made : (k : ℕ) (r : Ptr Region) → slice_get rs k ≡ Some r → region_at new r ≡ Some (record { blocks = [] })
    pub others : (q : Ptr Region) → IsNoneOf rs q → region_at new q ≡ region_at old q

  -- operation p has these regions more, which are new and have no block, behind its others; nothing else changes
  pub record AddsRegions (old new : Program O B) (p : Ptr Operation) (rs : List (Ptr Region)) : Type 0 where
    pub regions : MakesRegions old new rs
    pub holder : operation_at new p ≡ option_map (λ (o : OperationView O). record o { regions = o.regions ++ rs }) (operation_at old p)
    pub operations : (q : Ptr Operation) → q ≢ p → operation_at new q ≡ operation_at old q
    pub blocks : (q : Ptr BasicBlock) → block_at new q ≡ block_at old q
    pub types : (v : Value) → type_at new v ≡ type_at old v
    pub erased : KeepsErased old new
    pub counter : new.counter ≡ old.counter

  -- operation p has n regions more, as above
  abbrev pub AddsRegionCount : Program O B → Program O B → Ptr Operation → ℕ → Type 0
  AddsRegionCount old new p n = (rs : List (Ptr Region)) × (length rs ≡ n) × AddsRegions old new p rs

  -- some regions came, but not n
  abbrev pub AddsFewerRegions : Program O B → Program O B → Ptr Operation → ℕ → Type 0
  AddsFewerRegions old new p n = (rs : List (Ptr Region)) × (length rs < n) × AddsRegions old new p rs

  -- operation p has results of these types, these operands, these successors and these regions more, each behind its others; the regions are new and have no block; nothing else changes
  pub record FillsOperation (old new : Program O B) (p : Ptr Operation) (tys : List TypeHandle) (vs : List Value) (bs : List (Ptr BasicBlock)) (rs : List (Ptr Region)) : Type 0 where
    pub edited : operation_at new p ≡ option_map (λ (o : OperationView O). record o { results = o.results ++ numbered_values (ByOp p) old.counter tys; operands = o.operands ++ vs; successors = o.successors ++ bs; regions = o.regions ++ rs }) (operation_at old p)
    pub others : (q : Ptr Operation) → q ≢ p → operation_at new q ≡ operation_at old q
    pub blocks : (q : Ptr BasicBlock) → block_at new q ≡ block_at old q
    pub regions : MakesRegions old new rs
    pub types : (v : Value) → v.definer ≢ ByOp p → type_at new v ≡ type_at old v
    pub erased : KeepsErased old new
    pub counter : new.counter ≡ old.counter + length tys

  -- operation p has some results, operands, successors and regions more; nothing else changes
  abbrev pub FillsSome : Program O B → Program O B → Ptr Operation → Type 0
  FillsSome old new p = (tys : List TypeHandle) × (vs : List Value) × (bs : List (Ptr BasicBlock)) × (rs : List (Ptr Region)) × FillsOperation old new p tys vs bs rs

  -- p, a handle that was never given out, leads to an operation that stands in no block, with this payload, results of these types
  -- that are numbered from the counter on, these operands and successors, and n regions that are new and have no block; all else is as it was
  pub record BuildsOperation (old new : Program O B) (p : Ptr Operation) (payload : O) (tys : List TypeHandle) (vs : List Value) (bs : List (Ptr BasicBlock)) (n : ℕ) : Type 0 where
    pub handles : List (Ptr Region)
    pub count : length handles ≡ n
    pub regions : MakesRegions old new handles
    pub fresh : operation_at old p ≡ None
    pub unspent : IsSpent old.forest.ops p.key → ⊥
    pub made : operation_at new p ≡ Some (record { payload = payload; results = numbered_values (ByOp p) old.counter tys; operands = vs; successors = bs; regions = handles })
    pub unlinked : IsUnlinkedOperation new p
    pub others : (q : Ptr Operation) → q ≢ p → operation_at new q ≡ operation_at old q
    pub blocks : (q : Ptr BasicBlock) → block_at new q ≡ block_at old q
    pub types : (v : Value) → v.definer ≢ ByOp p → type_at new v ≡ type_at old v
    pub erased : KeepsErased old new
    pub counter : new.counter ≡ old.counter + length tys

  -- p, a handle that was never given out, leads to a block that stands in no region, with this payload, arguments of these types
  -- that are numbered from the counter on, and no operation; all else is as it was
  pub record BuildsBlock (old new : Program O B) (p : Ptr BasicBlock) (payload : B) (tys : List TypeHandle) : Type 0 where
    pub fresh : block_at old p ≡ None
    pub unspent : IsSpent old.forest.blocks p.key → ⊥
    pub made : block_at new p ≡ Some (record { payload = payload; arguments = numbered_values (ByBlock p) old.counter tys; operations = [] })
    pub unlinked : IsUnlinkedBlock new p
    pub others : (q : Ptr BasicBlock) → q ≢ p → block_at new q ≡ block_at old q
    pub operations : (q : Ptr Operation) → operation_at new q ≡ operation_at old q
    pub regions : (q : Ptr Region) → region_at new q ≡ region_at old q
    pub types : (v : Value) → v.definer ≢ ByBlock p → type_at new v ≡ type_at old v
    pub erased : KeepsErased old new
    pub counter : new.counter ≡ old.counter + length tys

  -- each region of operation p is there, and has no block
  abbrev pub HasBareRegions : Program O B → Ptr Operation → Type 0
  HasBareRegions c p = (k : ℕ) (r : Ptr Region) → slice_get (regions_in c p) k ≡ Some r → region_at c r ≡ Some (record { blocks = [] })

  -- operation p is gone with its regions, and the counter is n; all else is as it was
  pub record TakesBackOperation (old new : Program O B) (p : Ptr Operation) (n : ℕ) : Type 0 where
    pub gone : operation_at new p ≡ None
    pub gone_regions : (k : ℕ) (r : Ptr Region) → slice_get (regions_in old p) k ≡ Some r → region_at new r ≡ None
    pub others : (q : Ptr Operation) → q ≢ p → operation_at new q ≡ operation_at old q
    pub blocks : (q : Ptr BasicBlock) → block_at new q ≡ block_at old q
    pub regions : (q : Ptr Region) → IsNoneOf (regions_in old p) q → region_at new q ≡ region_at old q
    pub erased : KeepsErased old new
    pub counter : new.counter ≡ n

  -- block p is gone, and the counter is n; all else is as it was
  pub record TakesBackBlock (old new : Program O B) (p : Ptr BasicBlock) (n : ℕ) : Type 0 where
    pub gone : block_at new p ≡ None
    pub others : (q : Ptr BasicBlock) → q ≢ p → block_at new q ≡ block_at old q
    pub operations : (q : Ptr Operation) → operation_at new q ≡ operation_at old q
    pub regions : (q : Ptr Region) → region_at new q ≡ region_at old q
    pub erased : KeepsErased old new
    pub counter : new.counter ≡ n
