-- The programs of a module that a context holds, before and after a list of passes.
use Rattle.std.specs.Prelude.{◌≡◌, ℕ, suc, ◌+◌, List, [], ◌∷◌}
use Rattle.ir_program.specs.Program.{type_at}
use Rattle.ir_program.specs.declared.handles.Operation.{Operation}
use Rattle.ir_program.specs.declared.handles.Ptr.{Ptr}
use Rattle.ir_trees.specs.Stands.{StandsFor}
use Rattle.kit.specs.Context.{KitContext, KitTree}
use Rattle.kit_behaviour.specs.Laws.{AlikeWithin}
use Rattle.kit_behaviour.specs.Machine.{FunctionsByPath}
use Rattle.kit_behaviour.specs.PassLists.{Pass, IsAfter, Goal, SameFaces}
use Rattle.kit_behaviour.specs.Places.{Place}
use Rattle.kit_checks.specs.KitWorld.{HasDeclaredTypes}
use Rattle.kit_ruled_views.specs.Operations.{operations_below}
use Rattle.kit_execution.specs.Laws.{IsProgramIn}
use Rattle.kit_ruled_views.specs.Ruled.{HasOwnNames}
use Rattle.kit_optimiser.specs.Functions.{function_content}

-- in the operation's tree names are distinct, and values have the types that the context says: so it is in each context
abbrev pub IsOrdinary : KitContext → Ptr Operation → Type 0
IsOrdinary s root = (t : KitTree) → StandsFor s.program root t → HasOwnNames t × HasDeclaredTypes (type_at s.program) t

-- A module of a context and what a list of passes left of it, by their programs, under some numbers of names.
pub record PassedPrograms (xs : List Pass) (old new : KitContext) (root : Ptr Operation) (numbered : List ℕ → ℕ)
    : Type 0 where
  -- the module's tree before the passes
  pub before : KitTree
  -- and its program
  pub first : FunctionsByPath Place
  pub is_first : IsProgramIn old root before numbered first
  -- the module's tree after the passes
  pub after : KitTree
  -- and its program
  pub last : FunctionsByPath Place
  pub is_last : IsProgramIn new root after numbered last
  -- the passes, one after another, make the last program of the first
  pub passed : IsAfter xs first last
  -- the two behave alike: neither runs more than so many times as long as the other
  pub factor : ℕ
  pub alike : AlikeWithin factor first last
  -- where they are one pass, neither runs more than one more than the operations of both modules times as long
  pub bound : (x : Pass) → xs ≡ x ∷ [] → AlikeWithin (suc (operations_below before + operations_below after)) first last
  -- what the last of the passes is for is reached
  pub goal : Goal xs first last
  -- the two have functions at the same paths, and these take as many arguments
  pub faces : SameFaces first last
  -- the functions at the same paths carry the same, names and types among it
  pub content : (path : List ℕ) → function_content numbered path after ≡ function_content numbered path before
