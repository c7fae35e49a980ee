-- What is in no list, and what is inside it.
use Rattle.std.specs.Prelude.{◌≡◌, ℕ, List, [], Some, IsSome, option_map, unwrap_or, slice_get}
use Rattle.ir_base.specs.declared.types.TypeHandle.{TypeHandle}
use Rattle.ir_program.specs.Program.{TypedValue}
use Rattle.ir_program.specs.declared.handles.Ptr.{Ptr}
use Rattle.ir_program.specs.declared.handles.Operation.{Operation}
use Rattle.ir_program.specs.declared.handles.Region.{Region}
use Rattle.ir_program.specs.declared.handles.BasicBlock.{BasicBlock}
use Rattle.ir_program.specs.declared.handles.Value.{Value}
use Rattle.ir_program.specs.declared.handles.DefiningEntity.{DefiningEntity}
use Rattle.ir_program.specs.declared.handles.DefiningEntity.TheVariants.{Op as ByOp, Block as ByBlock}
use Rattle.text_dialect.specs.Seen.{SeenOperation, SeenBlock, Seen}

-- no handle comes twice
abbrev pub AreDistinctHandles : {E : Type 0} → List (Ptr E) → Type 0
AreDistinctHandles {E} ps = (j k : ℕ) (p : Ptr E) → slice_get ps j ≡ Some p → slice_get ps k ≡ Some p → j ≡ k

-- no handle is in two of the lists, or twice in one
abbrev pub ListsAreApart : {E : Type 0} → List (List (Ptr E)) → Type 0
ListsAreApart {E} pss = (i j k l : ℕ) (ps qs : List (Ptr E)) (p : Ptr E) → slice_get pss i ≡ Some ps
    → slice_get pss j ≡ Some qs
    → slice_get ps k ≡ Some p → slice_get qs l ≡ Some p → (i ≡ j) × (k ≡ l)

module _ {K A T : Type 0} (s : Seen K A T) where
  -- the handle leads to an operation, which is in no block
  pub record IsLooseOperation (p : Ptr Operation) : Type 0 where
    pub there : IsSome (s.operation p)
    pub loose : (b : Ptr BasicBlock) (v : SeenBlock) (k : ℕ) → s.block b ≡ Some v
        → slice_get v.operations k ≡ Some p → ⊥

  -- the handle leads to a block, which is in no region
  pub record IsLooseBlock (b : Ptr BasicBlock) : Type 0 where
    pub there : IsSome (s.block b)
    pub loose : (r : Ptr Region) (bs : List (Ptr BasicBlock)) (k : ℕ) → s.region r ≡ Some bs
        → slice_get bs k ≡ Some b → ⊥

  -- each of the handles does
  abbrev pub AreLooseBlocks : List (Ptr BasicBlock) → Type 0
  AreLooseBlocks bs = (k : ℕ) (b : Ptr BasicBlock) → slice_get bs k ≡ Some b → IsLooseBlock b

  -- each block of each of the lists does
  abbrev pub AreAllLoose : List (List (Ptr BasicBlock)) → Type 0
  AreAllLoose bss = (k : ℕ) (bs : List (Ptr BasicBlock)) → slice_get bss k ≡ Some bs → AreLooseBlocks bs

  -- the regions of an operation, none where it is not there
  abbrev pub regions_of : Ptr Operation → List (Ptr Region)
  regions_of p = unwrap_or (option_map (λ (o : SeenOperation K A). o.regions) (s.operation p)) []

  -- the region is one of an operation that is in no block
  pub record HasLooseHolder (r : Ptr Region) : Type 0 where
    pub holder : Ptr Operation
    pub loose : IsLooseOperation holder
    pub index : ℕ
    pub here : slice_get (regions_of holder) index ≡ Some r

  -- the results of an operation, or the arguments of a block
  abbrev pub values_of : DefiningEntity → List TypedValue
  values_of (ByOp p) = unwrap_or (option_map (λ (o : SeenOperation K A). o.results) (s.operation p)) []
  values_of (ByBlock b) = unwrap_or (option_map (λ (v : SeenBlock). v.arguments) (s.block b)) []

  -- the value is one of the results or arguments of its definer
  pub record IsDefinedValue (v : Value) : Type 0 where
    pub index : ℕ
    pub ty : TypeHandle
    pub here : slice_get (values_of v.definer) index ≡ Some (record { value = v; ty = ty })

  -- each of the values is
  abbrev pub AreDefined : List Value → Type 0
  AreDefined vs = (k : ℕ) (v : Value) → slice_get vs k ≡ Some v → IsDefinedValue v

  -- the handle leads to a block, wherever that is
  abbrev pub IsDefinedBlock : Ptr BasicBlock → Type 0
  IsDefinedBlock b = IsSome (s.block b)

  -- each of the handles does
  abbrev pub AreDefinedBlocks : List (Ptr BasicBlock) → Type 0
  AreDefinedBlocks bs = (k : ℕ) (b : Ptr BasicBlock) → slice_get bs k ≡ Some b → IsDefinedBlock b
