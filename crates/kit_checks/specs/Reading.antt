-- What is read of an operation of a program, said of the tree that it stands for, and of its site.
use Rattle.std.specs.Prelude.{◌≡◌, ◌≢◌, ◌↔◌, ◌+◌, ◌<◌, ◌^◌, true, List, Option, Some, None, [], length}
use Rattle.ir_base.specs.declared.types.TypeHandle.{TypeHandle}
use Rattle.ir_program.specs.Program.{Program}
use Rattle.ir_program.specs.declared.handles.Ptr.{Ptr}
use Rattle.ir_program.specs.declared.handles.BasicBlock.{BasicBlock}
use Rattle.ir_program.specs.declared.handles.Operation.{Operation}
use Rattle.ir_trees.specs.Stands.{ProgramTree, StandsFor}
use Rattle.kit_ops.specs.declared.attributes.IntegerAttr.{IntegerAttr}
use Rattle.kit_ops.specs.declared.kinds.KitOp.{KitOp}
use Rattle.kit_ops.specs.declared.kinds.KitOp.TheVariants as ops
use Rattle.kit_ops.specs.declared.types.FunctionType.{FunctionType}
use Rattle.kit_checks.specs.World.{World}
use Rattle.kit_checks.specs.Words.{Every, HaveTypes, bodies_of, entry_of, integer_type, is_terminator, kind_of, signature, types_of}
use Rattle.kit_checks.specs.Rules.{HasFunctionBody, InKind}
use Rattle.kit_checks.specs.Sites.{Around, Body, Site, operation_list}
use Rattle.kit_checks.specs.Located.{IsBody, IsSiteOf}

module _ {O B : Type 0} (c : Program O B) where
  -- it holds of the tree that the operation stands for
  abbrev pub OfTree : Ptr Operation → (ProgramTree O B → Type 0) → Type 0
  OfTree op P = (u : ProgramTree O B) → StandsFor c op u → P u

  -- it holds of the trees that two operations stand for
  abbrev pub OfTrees : Ptr Operation → Ptr Operation → (ProgramTree O B → ProgramTree O B → Type 0) → Type 0
  OfTrees op other P = OfTree op (λ u. OfTree other (P u))

  -- it holds of the site of the operation
  abbrev pub OfSite : Ptr Operation → Ptr Operation → (Site O B → Type 0) → Type 0
  OfSite root op P = (s : Site O B) → IsSiteOf c root op s → P s

  -- the operation that owns the region that another is in, or none where that one is the root
  abbrev pub IsOwner : Option (Around O B) → Option (Ptr Operation) → Type 0
  IsOwner None None = Unit {0}
  IsOwner None (Some owner) = ⊥
  IsOwner (Some a) None = ⊥
  IsOwner (Some a) (Some owner) = StandsFor c owner a.owner

-- the operation is in a region of an operation of this kind
abbrev pub IsInKind : {O B : Type 0} → World O B → Site O B → KitOp → Type 0
IsInKind {O} {B} w s k = (a : Around O B) × InKind w s k a

module _ {O B : Type 0} (w : World O B) where
  -- the two clauses of the rule on the ends of blocks: of an operation in a function, and of the blocks of a function
  abbrev pub KeepsBlockEnds : Site O B → Type 0
  KeepsBlockEnds s = (a : Around O B) → InKind w s ops.Func a → (is_terminator (kind_of w s.op) ≡ true) ↔ (a.index + 1 ≡ length (operation_list a.body.operations))

  abbrev pub HasFilledBlocks : ProgramTree O B → Type 0
  HasFilledBlocks u = kind_of w u ≡ ops.Func → Every (λ (b : Body O B). operation_list b.operations ≢ []) (bodies_of u)

-- the attribute is a number of the type that it says it has: of this integer type, and below 2 to the power of its width
pub record IsIntegerOf {O B : Type 0} (w : World O B) (value : IntegerAttr) : Type 0 where
  pub is_type : integer_type w value.ty ≡ Some value.integer
  pub in_range : value.bits < 2 ^ value.integer.width

-- the block is the entry of the operation: the first block of its first region; or it has none
abbrev pub IsEntryOrNone : {O B : Type 0} → Program O B → ProgramTree O B → Option (Ptr BasicBlock) → Type 0
IsEntryOrNone c u None = entry_of u ≡ None
IsEntryOrNone {O} {B} c u (Some block) = (entry : Body O B) × (entry_of u ≡ Some entry) × IsBody c block entry

-- it has an entry, whose arguments have these types
abbrev pub TakesInputs : {O B : Type 0} → ProgramTree O B → List TypeHandle → Type 0
TakesInputs {O} {B} u inputs =
    (entry : Body O B) × (entry_of u ≡ Some entry) × (types_of entry.label.arguments ≡ inputs)

module _ {O B : Type 0} (w : World O B) where
  -- where it is a function it has a function's type and body
  abbrev pub IsTypedFunction : ProgramTree O B → Type 0
  IsTypedFunction u = kind_of w u ≡ ops.Func → HasFunctionBody w u

  -- the operation is in a region of this function, or in none of any function
  abbrev pub IsInRegionOfFunction : Program O B → Site O B → Option (Ptr Operation) → Type 0
  IsInRegionOfFunction c s None = IsInKind w s ops.Func → ⊥
  IsInRegionOfFunction c s (Some function) = (a : Around O B) × InKind w s ops.Func a × StandsFor c function a.owner

  -- the operands have the result types that the function says, if it says any
  abbrev pub ReturnsTo : ProgramTree O B → ProgramTree O B → Type 0
  ReturnsTo u f = (type : FunctionType) → signature w f ≡ Some type → HaveTypes w u.head.operands type.results.items
