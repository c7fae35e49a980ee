-- Decisions that are carried out one after the other.
use Rattle.std.specs.Prelude.{◌≡◌, ◌≢◌, ◌↔◌, ◌⊎◌, ℕ, List, [], map, Some, None, IsSome, option_map, take}
use Rattle.ir_program.specs.Edits.{KeepsErased}
use Rattle.ir_program.specs.Erased.{IsGone}
use Rattle.ir_program.specs.Lists.{StandsInside, IsLiveNode}
use Rattle.ir_program.specs.Program.{Program, OperationView, BlockView, operation_at, block_at, region_at}
use Rattle.ir_program.specs.declared.handles.IRNode.{IRNode}
use Rattle.ir_program.specs.declared.handles.IRNode.TheVariants.{Operation as OperationNode}
use Rattle.ir_program.specs.declared.handles.Ptr.{Ptr}
use Rattle.ir_program.specs.declared.handles.Operation.{Operation}
use Rattle.ir_program.specs.declared.handles.Region.{Region}
use Rattle.ir_program.specs.declared.handles.BasicBlock.{BasicBlock}
use Rattle.ir_program.specs.declared.handles.Value.{Value}
use Rattle.ir_trees.specs.Searched.{Lists}
use Rattle.ir_trees.specs.Stands.{by_handle, in_program, ProgramTree, StandsFor}
use Rattle.ir_trees.specs.Renames.{Maps, IsOneToOne, rename_root}
use Rattle.opt_trees.specs.Dce.{TreeSurroundings}
use Rattle.opt_trees.specs.Dialect.{Dialect}
use Rattle.opt_trees.specs.Simplify.{decide, decided}
use Rattle.opt_dialect.specs.declared.status.IRStatus.{IRStatus}
use Rattle.opt_dialect.specs.declared.status.IRStatus.TheVariants.{Unchanged}
use Rattle.opt_inside.specs.Around.{SaysAround}
use Rattle.opt_inside.specs.Outside.{KeepsOutside}
use Rattle.opt_decide.specs.Planned.{AreDecisions, AreSomeDecisions, IsDecidedBelow, known_alone}
use Rattle.opt_decide.specs.Replaced.{along}
use Rattle.opt_decide.specs.declared.plan.Decision.{Decision}

-- the operation is of none of the decisions
abbrev pub IsUndecided : List Decision → Ptr Operation → Type 0
IsUndecided ds p = (x : Decision) → Lists ds x → x.op ≢ p

-- q, which led nowhere, is the unconditional branch of the decision now
pub record IsDecidedBranch {O B A : Type 0} (d : Dialect (in_program O B) A) (old new : Program O B) (x : Decision) (q : Ptr Operation) : Type 0 where
  pub payload : O
  pub plain : d.plain ≡ Some payload
  pub view : OperationView O
  pub there : operation_at old x.op ≡ Some view
  pub fresh : operation_at old q ≡ None
  pub made : operation_at new q ≡ Some (along d view x.edge payload)
  pub gone : IsGone new (OperationNode x.op)

-- the branches of these decisions are unconditional ones, under names of their own, where they stood; all else is as it
-- was, and what was erased before stays so
pub record HasDecided {O B A : Type 0} (d : Dialect (in_program O B) A) (old new : Program O B) (ds : List Decision) : Type 0 where
  pub names : Ptr Operation → Ptr Operation
  pub same : (p : Ptr Operation) → IsUndecided ds p → names p ≡ p
  pub done : (x : Decision) → Lists ds x → IsDecidedBranch d old new x (names x.op)
  pub apart : (x y : Decision) → Lists ds x → Lists ds y → names x.op ≡ names y.op → x.op ≡ y.op
  pub others : (p : Ptr Operation) (v : OperationView O) → operation_at old p ≡ Some v → IsUndecided ds p → operation_at new p ≡ Some v
  pub came : (p : Ptr Operation) (v : OperationView O) → operation_at new p ≡ Some v
      → (operation_at old p ≡ Some v) ⊎ ((x : Decision) × Lists ds x × (names x.op ≡ p))
  pub blocks : (b : Ptr BasicBlock) → block_at new b ≡ option_map (λ (l : BlockView B). record l { operations = map names l.operations }) (block_at old b)
  pub regions : (r : Ptr Region) → region_at new r ≡ region_at old r
  pub erased : KeepsErased old new

-- some of the decisions were carried out, the first of the list
abbrev pub HasDecidedSome : {O B A : Type 0} → Dialect (in_program O B) A → Program O B → Program O B → List Decision → Type 0
HasDecidedSome d old new ds = (n : ℕ) × HasDecided d old new (take n ds)

-- other names of operations alone
abbrev pub maps_of : (Ptr Operation → Ptr Operation) → Maps by_handle by_handle
maps_of names = record { operation = names; block = λ b. b; value = λ v. v }

-- all decisions below the root are carried out, and `Unchanged` is answered exactly where there are none
pub record CarriesOut {O B A : Type 0} (d : Dialect (in_program O B) A) (old new : Program O B) (op : Ptr Operation) (status : IRStatus) : Type 0 where
  pub decisions : List Decision
  pub are : AreDecisions d old op decisions
  pub decided : HasDecided d old new decisions
  pub exact : (status ≡ Unchanged) ↔ (decisions ≡ [])
  -- the root stands for its tree with the branches decided, under their new names
  pub stands : (t : ProgramTree O B) → StandsFor old op t
      → StandsFor new op (rename_root (maps_of decided.names) (record { head = t.head; regions = decide d (known_alone d old) t.regions }))

-- some of the decisions below the root are carried out, each whole
pub record CarriesOutPart {O B A : Type 0} (d : Dialect (in_program O B) A) (old new : Program O B)
    (op : Ptr Operation) : Type 0 where
  pub decisions : List Decision
  pub are : AreSomeDecisions d old op decisions
  pub decided : HasDecided d old new decisions

-- what is inside the operation was so, unless it is new
abbrev pub BringsNoneInside : {O B : Type 0} → Program O B → Program O B → Ptr Operation → Type 0
BringsNoneInside old new op = (e : IRNode) → IsLiveNode old e
    → StandsInside new (OperationNode op) e → StandsInside old (OperationNode op) e

-- what isn't inside the operation now was as it is, and wasn't inside it
abbrev pub BringsNoneOutside : {O B : Type 0} → Program O B → Program O B → Ptr Operation → Type 0
BringsNoneOutside {O} old new op = (p : Ptr Operation) (v : OperationView O)
    → (StandsInside new (OperationNode op) (OperationNode p) → ⊥) → operation_at new p ≡ Some v
    → (StandsInside old (OperationNode op) (OperationNode p) → ⊥) × (operation_at old p ≡ Some v)

-- the branches that their operands decide are unconditional ones. Blocks and values keep their handles, and so does each
-- operation but a branch below the root that is decided: that one may change places with one that led nowhere
pub record DecidesBranches {O B A : Type 0} (d : Dialect (in_program O B) A) (old new : Program O B)
    (op : Ptr Operation) (t : ProgramTree O B) : Type 0 where
  pub around : TreeSurroundings by_handle A
  pub says : SaysAround d old op around
  pub names : Maps by_handle by_handle
  pub operations : (p : Ptr Operation) → IsSome (operation_at old p)
      → (names.operation p ≡ p) ⊎ (operation_at old (names.operation p) ≡ None)
  pub kept : (p : Ptr Operation) → IsSome (operation_at old p) → (IsDecidedBelow d old op p → ⊥) → names.operation p ≡ p
  pub twice : (p : Ptr Operation) → names.operation (names.operation p) ≡ p
  pub root : names.operation op ≡ op
  pub blocks : (b : Ptr BasicBlock) → names.block b ≡ b
  pub values : (v : Value) → names.value v ≡ v
  pub one_to_one : IsOneToOne names t
  pub stands : StandsFor new op (rename_root names (decided d around t))
  pub outside : KeepsOutside old new op
  pub inside : BringsNoneInside old new op
  pub around_it : BringsNoneOutside old new op

-- no branch below the root is decided: deciding leaves its tree as it is
abbrev pub HasNoneDecided : {O B A : Type 0} → Dialect (in_program O B) A → Program O B → Ptr Operation → Type 0
HasNoneDecided {O} {B} {A} d c op = (w : TreeSurroundings by_handle A) (t : ProgramTree O B)
    → SaysAround d c op w → StandsFor c op t → decided d w t ≡ t
