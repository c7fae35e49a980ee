-- Modules that keep the rules, what lists of passes make of them, and their programs.
use Rattle.std.specs.Prelude.{ℕ, List, map}
use Rattle.ir_program.specs.Program.{type_at}
use Rattle.ir_program.specs.Replacing.{same_value}
use Rattle.ir_program.specs.declared.handles.Operation.{Operation}
use Rattle.ir_program.specs.declared.handles.Ptr.{Ptr}
use Rattle.ir_trees.specs.Stands.{by_handle}
use Rattle.ir_types.specs.Interned.{key_at}
use Rattle.kit.specs.Context.{KitContext, KitTree}
use Rattle.kit_behaviour.specs.Machine.{FunctionsByPath}
use Rattle.kit_behaviour.specs.Places.{Place}
use Rattle.kit_checks.specs.Faults.{KeptEverywhere}
use Rattle.kit_checks.specs.KitWorld.{HasDeclaredTypes}
use Rattle.kit_checks.specs.World.{world_of}
use Rattle.kit_checks.specs.declared.rule.Rule.{Rule}
use Rattle.kit_ruled_views.specs.Operations.{operations_below}
use Rattle.kit_ruled_views.specs.Programs.{IsProgramOf}
use Rattle.kit_ruled_views.specs.TreePasses.{IsTreeAfter}
use Rattle.kit_optimiser.specs.Passed.{pass_of}
use Rattle.kit_ops.specs.declared.pass.KitPass.{KitPass}
use Rattle.kit_execution.specs.Numberings.{NumbersTextsApart}
use Rattle.kit_ruled_views.specs.Ruled.{HasOwnNames}
use Rattle.irkit_running.specs.Outcomes.{RunGives}
use Rattle.irkit_refusals.specs.Texts.{IsAcceptedAs}

-- The tree is that of a module of the context, and keeps all rules. The last two fields hold of the tree of each
-- operation of a context: no two operations, blocks or definitions in it have one handle, and values have the types that
-- it says.
pub record IsModule (s : KitContext) (t : KitTree) : Type 0 where
  pub rules : (r : Rule) → KeptEverywhere (world_of s) t r
  pub names : HasOwnNames t
  pub types : HasDeclaredTypes (type_at s.program) t

-- the passes, one after another, make the second tree of the first, a tree of the context, each on a sound tree, as `run`
-- makes them; names of functions have these numbers
abbrev pub IsMadeBy : List KitPass → KitContext → (List ℕ → ℕ) → KitTree → KitTree → Type 0
IsMadeBy passes s numbered t u = IsTreeAfter {N = by_handle} (key_at s.types) numbered (map pass_of passes) t u

-- the tree, of a context with these types, has this program
abbrev pub HasProgram : KitContext → (List ℕ → ℕ) → KitTree → FunctionsByPath Place → Type 0
HasProgram s numbered t p = IsProgramOf {N = by_handle} same_value (key_at s.types) numbered t p

-- A module's tree and what passes make of it, and the programs of both.
pub record ArePassed (passes : List KitPass) (t u : KitTree) (p q : FunctionsByPath Place) : Type 0 where
  pub context : KitContext
  pub is_module : IsModule context t
  pub numbered : List ℕ → ℕ
  pub made : IsMadeBy passes context numbered t u
  pub first : HasProgram context numbered t p
  pub last : HasProgram context numbered u q

-- The bytes are accepted as an operation of a context, and its tree has this program.
pub record SaysProgram (numbered : List ℕ → ℕ) (bytes : List ℕ) (p : FunctionsByPath Place) : Type 0 where
  pub context : KitContext
  pub root : Ptr Operation
  pub accepted : IsAcceptedAs bytes context root
  pub is : HasProgram context numbered accepted.0.holds.tree p

-- how many operations are in what they are accepted as, below the module itself
abbrev pub operations_said : {numbered : List ℕ → ℕ} {bytes : List ℕ} {p : FunctionsByPath Place} →
    SaysProgram numbered bytes p → ℕ
operations_said said = operations_below said.accepted.0.holds.tree

-- What `run` reads, and the text that it writes, read again; and the programs that these two say. Names of functions
-- have numbers, different ones different numbers.
pub record AreRun (passes : List KitPass) (bytes text : List ℕ) (p q : FunctionsByPath Place) : Type 0 where
  pub gives : RunGives passes bytes text
  pub numbered : List ℕ → ℕ
  pub numbering : NumbersTextsApart numbered
  pub first : SaysProgram numbered bytes p
  pub last : SaysProgram numbered text q
