-- What becomes of blocks.
use Rattle.std.specs.Prelude.{◌≡◌, ◌↔◌, ◌⊎◌, ℕ, Bool, true, false, List, Some, slice_get}
use Rattle.ir_program.specs.Lists.{StandsInBlock, StandsInRegion, blocks_in}
use Rattle.ir_program.specs.Program.{Program, OperationView, operation_at}
use Rattle.ir_program.specs.declared.handles.Ptr.{Ptr}
use Rattle.ir_program.specs.declared.handles.Operation.{Operation}
use Rattle.ir_program.specs.declared.handles.Region.{Region}
use Rattle.ir_program.specs.declared.handles.BasicBlock.{BasicBlock}
use Rattle.ir_trees.specs.Stands.{by_handle, in_program, ProgramTree}
use Rattle.opt_trees.specs.Dialect.{Dialect}
use Rattle.opt_trees.specs.Occurrences.{Has, block_occurrences_of}
use Rattle.opt_trees.specs.Simplify.{StartingRegions, IsReached, IsVisited, IsEntered, IsVisitedSsa}
use Rattle.opt_inside.specs.Occurring.{FoundBlock}
use Rattle.opt_inside.specs.reach.Starts.{BeginsAtRegion}
use Rattle.opt_inside.specs.declared.reach.fates.Fate.{Fate}
use Rattle.opt_inside.specs.declared.reach.fates.Fate.TheVariants.{Entered, Unreached, Unvisited}
use Rattle.opt_inside.specs.declared.reach.starts.Start.{Start}

module _ {O B A : Type 0} (d : Dialect (in_program O B) A) (p : StartingRegions by_handle) (t : ProgramTree O B) where
  -- the block's region is visited, and the block is entered
  abbrev pub IsEnteredThere : FoundBlock O B → Type 0
  IsEnteredThere x = IsVisited d p t x.spot.owner.name x.spot.region × IsEntered t x.spot x.label.name (d.is_ssa x.spot.owner.content x.spot.region)

  -- the block's region is a visited SSA region, and the block isn't reached
  abbrev pub IsLeftOut : FoundBlock O B → Type 0
  IsLeftOut x = IsVisitedSsa d p t x.spot × (IsReached t x.label.name → ⊥)

  abbrev pub IsFate : FoundBlock O B → Fate → Type 0
  IsFate x Entered = IsEnteredThere x
  IsFate x Unreached = IsLeftOut x
  IsFate x Unvisited = (IsEnteredThere x → ⊥) × (IsLeftOut x → ⊥)

  -- the first of the numbered blocks have these fates
  abbrev pub AreFates : List (Ptr BasicBlock) → List Fate → Type 0
  AreFates keys fates = (k : ℕ) (f : Fate) (x : FoundBlock O B) → slice_get fates k ≡ Some f → Has x (block_occurrences_of t) → slice_get keys k ≡ Some x.label.name → IsFate x f

-- it can be told which blocks are reached
abbrev pub HasReachTest : {O B : Type 0} → ProgramTree O B → Type 0
HasReachTest t = (reach : Ptr BasicBlock → Bool) × ((b : Ptr BasicBlock) → (reach b ≡ true) ↔ IsReached t b)

-- the operation's region is visited: looking begins there, or the operation's block, which has a number, is entered
abbrev pub HasVisit : {O B : Type 0} → Program O B → Start → List (Ptr BasicBlock) → List Fate → Ptr Operation → Ptr Region
    → Type 0
HasVisit c start keys fates q r = BeginsAtRegion c start q r
    ⊎ ((b : Ptr BasicBlock) × StandsInBlock c q b × (j : ℕ) × (slice_get keys j ≡ Some b) × (slice_get fates j ≡ Some Entered))

-- what becomes of a block of a region that is visited or isn't, where what comes first runs first or not, that paths from
-- the entry lead to or not, and that is the first or not
abbrev pub fate : Bool → Bool → Bool → Bool → Fate
fate false ssa reach first = Unvisited
fate true true true first = Entered
fate true true false first = Unreached
fate true false reach true = Entered
fate true false reach false = Unvisited

-- where a block stands, and that its fate follows from that
pub record IsJudgedFate {O B A : Type 0} (d : Dialect (in_program O B) A) (c : Program O B) (start : Start)
    (keys : List (Ptr BasicBlock)) (fates : List Fate) (b : Ptr BasicBlock) (reach : Bool) (f : Fate) : Type 0 where
  pub region : Ptr Region
  pub in_region : StandsInRegion c b region
  pub owner : Ptr Operation
  pub view : OperationView O
  pub there : operation_at c owner ≡ Some view
  pub index : ℕ
  pub here : slice_get view.regions index ≡ Some region
  pub visited : Bool
  pub visit : (visited ≡ true) ↔ HasVisit c start keys fates owner region
  pub first : Bool
  pub entry : (first ≡ true) ↔ (slice_get (blocks_in c region) 0 ≡ Some b)
  pub is : f ≡ fate visited (d.is_ssa view.payload index) reach first
