-- Which values of a program get constants, and which operations lack an operand, by what is known of blocks and values.
use Rattle.std.specs.Prelude.{◌≡◌, ◌⊎◌, ◌↔◌, ℕ, ◌<◌, Bool, true, false, List, Option, Some, IsSome, slice_get}
use Rattle.ir_program.specs.Program.{Program, OperationView, operation_at}
use Rattle.ir_program.specs.Lists.{StandsInBlock, StandsInRegion}
use Rattle.ir_program.specs.Uses.{IsUsed}
use Rattle.ir_program.specs.declared.handles.Ptr.{Ptr}
use Rattle.ir_program.specs.declared.handles.Operation.{Operation}
use Rattle.ir_program.specs.declared.handles.Region.{Region}
use Rattle.ir_program.specs.declared.handles.BasicBlock.{BasicBlock}
use Rattle.ir_program.specs.declared.handles.Value.{Value}
use Rattle.ir_program.specs.declared.handles.DefiningEntity.{DefiningEntity}
use Rattle.ir_program.specs.declared.handles.DefiningEntity.TheVariants.{Op as ByOp, Block as ByBlock}
use Rattle.ir_trees.specs.Searched.{Lists}
use Rattle.ir_trees.specs.Stands.{by_handle, in_program}
use Rattle.opt_inside.specs.facts.ByNumber.{AreFactsBy}
use Rattle.opt_inside.specs.declared.facts.facts.KnownFacts.{KnownFacts}
use Rattle.opt_inside.specs.Numbered.{numbers_of}
use Rattle.opt_inside.specs.declared.numbering.Inside.{Inside}
use Rattle.opt_rows.specs.declared.known.Known.{Known}
use Rattle.opt_rows.specs.declared.known.Known.TheVariants.{One, Any, Undetermined}
use Rattle.opt_trees.specs.Dialect.{Dialect}
use Rattle.opt_trees.specs.Facts.{Facts}
use Rattle.opt_trees.specs.Occurrences.{Has}
use Rattle.opt_sccp.specs.declared.putting.Made.{Made}

-- it holds of the facts that are kept by numbers
abbrev pub OfFacts : {A : Type 0} → Inside → KnownFacts A → (Facts by_handle A → Type 0) → Type 0
OfFacts {A} n f P = (k : Facts by_handle A) → AreFactsBy (numbers_of n) f.runs.items f.known.items k → P k

-- something is found out of a value of which this is known
abbrev pub is_determined : {A : Type 0} → Known A → Bool
is_determined Undetermined = false
is_determined (One a) = true
is_determined Any = true

-- nothing is found out of one of these operands
pub record HasUndetermined {A : Type 0} (k : Facts by_handle A) (operands : List Value) : Type 0 where
  pub index : ℕ
  pub value : Value
  pub stands : slice_get operands index ≡ Some value
  pub lacks : k.of value ≡ Undetermined

module _ {O B A : Type 0} (d : Dialect (in_program O B) A) (c : Program O B) where
  -- the block is in a region in which what comes first runs first
  pub record IsInSsaRegion (b : Ptr BasicBlock) : Type 0 where
    pub region : Ptr Region
    pub in_region : StandsInRegion c b region
    pub owner : Ptr Operation
    pub view : OperationView O
    pub there : operation_at c owner ≡ Some view
    pub index : ℕ
    pub here : slice_get view.regions index ≡ Some region
    pub ssa : d.is_ssa view.payload index ≡ true

  module _ (k : Facts by_handle A) where
    -- an operand of a foldable operation or branch is undetermined, in a block that runs of an SSA region
    pub record LacksAt (p : Ptr Operation) : Type 0 where
      pub view : OperationView O
      pub there : operation_at c p ≡ Some view
      pub block : Ptr BasicBlock
      pub in_block : StandsInBlock c p block
      pub runs : k.runs block ≡ true
      pub ssa : IsInSsaRegion block
      pub asks : (d.is_foldable view.payload ≡ true) ⊎ (d.is_branch view.payload ≡ true)
      pub lacks : HasUndetermined k view.operands

    -- a foldable operation, no constant itself, in a block that runs
    pub record FoldsAt (p : Ptr Operation) : Type 0 where
      pub view : OperationView O
      pub there : operation_at c p ≡ Some view
      pub folds : d.is_foldable view.payload ≡ true
      pub no_constant : d.is_constant view.payload ≡ false
      pub block : Ptr BasicBlock
      pub in_block : StandsInBlock c p block
      pub runs : k.runs block ≡ true

    -- what defines values that get constants: such an operation, or a block that runs
    abbrev pub IsWantedAt : DefiningEntity → Type 0
    IsWantedAt (ByOp p) = FoldsAt p
    IsWantedAt (ByBlock b) = k.runs b ≡ true

    -- one of these operations lacks an operand
    abbrev pub SomeLacks : List (Ptr Operation) → Type 0
    SomeLacks ps = (p : Ptr Operation) × Lists ps p × LacksAt p

    -- the value gets the constant of this attribute: some operation of the program takes the value, wherever it stands
    pub record GetsAt (v : Value) (a : A) : Type 0 where
      pub known : k.of v ≡ One a
      pub maker : IsSome (d.constant a)
      pub place : IsWantedAt v.definer
      pub used : IsUsed c v

    -- the constant that the value gets, if it gets one
    abbrev pub IsConstantFor : Value → Option A → Type 0
    IsConstantFor v o = (a : A) → (o ≡ Some a) ↔ GetsAt v a

    -- the values that get constants among these, in their order, with their constants
    pub record AreMade (vs : List Value) (made : List (Made A)) : Type 0 where
      pub gets : (m : Made A) → Has m made → GetsAt m.value m.constant
      pub all : (v : Value) (a : A) → Has v vs → GetsAt v a → Has (record { value = v; constant = a }) made
      -- two of them in the order of the values
      pub ordered : (i j : ℕ) (m n : Made A) → slice_get made i ≡ Some m → slice_get made j ≡ Some n → i < j
          → (a : ℕ) × (b : ℕ) × (slice_get vs a ≡ Some m.value) × (slice_get vs b ≡ Some n.value) × (a < b)
      pub among : (m : Made A) → Has m made → Has m.value vs
