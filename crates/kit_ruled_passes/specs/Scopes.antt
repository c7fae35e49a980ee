-- Which values operations take, read off the tree itself.
use Rattle.std.specs.Prelude.{◌≡◌, ◌⊎◌, []}
use Rattle.ir_program.specs.declared.handles.Operation.{Operation}
use Rattle.ir_program.specs.declared.handles.Ptr.{Ptr}
use Rattle.ir_program.specs.declared.handles.Value.{Value}
use Rattle.ir_trees.specs.Renames.{names_of}
use Rattle.ir_trees.specs.Stands.{ProgramLabel, StandsFor}
use Rattle.ir_trees.specs.Trees.{Sort, Operations, Blocks, end, operation, block, region}
use Rattle.kit.specs.Context.{KitProgram, KitTree}
use Rattle.opt_inside.specs.Around.{IsTakenOutside}
use Rattle.opt_trees.specs.Occurrences.{Has, defined_in}
use Rattle.kit.specs.Meaning.{KitOperation, KitBlock}
use Rattle.kit_checks.specs.Sites.{Listed}

-- parts of trees of `kit`
abbrev pub Part : Sort → Type 0
Part s = Listed KitOperation KitBlock s

abbrev pub KitLabel : Type 0
KitLabel = ProgramLabel KitOperation KitBlock

-- a result of one of the operations of a block, a value of a block, a value of the first block of a region
abbrev pub IsResultHere : Part Operations → Value → Type 0
IsResultHere end x = ⊥
IsResultHere (operation h rs rest) x = Has x (names_of h.results) ⊎ IsResultHere rest x

abbrev pub IsOfBlock : KitLabel → Part Operations → Value → Type 0
IsOfBlock l os x = Has x (names_of l.arguments) ⊎ IsResultHere os x

abbrev pub IsOfEntry : Part Blocks → Value → Type 0
IsOfEntry end x = ⊥
IsOfEntry (block l os rest) x = IsOfBlock l os x

-- no value
abbrev pub IsNone : Value → Type 0
IsNone x = ⊥

-- each operand is a value of the block of its operation or of the entry block of its region; where only operations of a
-- block, or only blocks of a region, are looked at, these are the values of which the predicate holds
abbrev pub Scoped : {s : Sort} → Part s → (Value → Type 0) → Type 0
Scoped end P = Unit {0}
Scoped (operation h rs rest) P = ((x : Value) → Has x h.operands → P x) × Scoped rs IsNone × Scoped rest P
Scoped (block l os rest) P = Scoped os (λ x. IsOfBlock l os x ⊎ P x) × Scoped rest P
Scoped (region bs rest) P = Scoped bs (IsOfEntry bs) × Scoped rest P

-- each operation inside the root takes values of its own block and of the entry block of its region alone, and the root
-- takes none
pub record IsInScope (c : KitProgram) (root : Ptr Operation) : Type 0 where
  pub inside : (t : KitTree) → StandsFor c root t → Scoped t.regions IsNone
  pub root_takes_none : (t : KitTree) → StandsFor c root t → t.head.operands ≡ []

-- no operation outside the root takes a value that is defined inside it
abbrev pub IsUntaken : KitProgram → Ptr Operation → Type 0
IsUntaken c root = (t : KitTree) → StandsFor c root t → (v : Value) → Has v (defined_in t.regions)
    → IsTakenOutside c root v → ⊥
