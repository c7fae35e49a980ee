-- The statements of the laws.
use Rattle.std.specs.Prelude.{◌≡◌, ℕ, List, ◌++◌, Option}
use Rattle.ir_base.specs.declared.types.TypeHandle.{TypeHandle}
use Rattle.ir_program.specs.declared.handles.Operation.{Operation}
use Rattle.ir_program.specs.declared.handles.Ptr.{Ptr}
use Rattle.ir_trees.specs.Names.{Names}
use Rattle.ir_trees.specs.Stands.{StandsFor}
use Rattle.ir_trees.specs.Trees.{Root}
use Rattle.kit.specs.Context.{KitContext, KitTree}
use Rattle.kit_ops.specs.declared.types.KitType.{KitType}
use Rattle.kit_behaviour.specs.PassLists.{Pass}
use Rattle.kit_ruled_passes.specs.Held.{HoldsModule}
use Rattle.kit_ruled_views.specs.TreePasses.{IsTreeAfter}
use Rattle.kit_optimiser.specs.Passed.{IsOptimised}
use Rattle.kit_execution.specs.Numberings.{NumbersTextsApart}
use Rattle.kit_views.specs.Reading.{kit_contents}
use Rattle.kit_optimiser.specs.Functions.{function_content}
use Rattle.kit_optimiser.specs.Programs.{IsOrdinary, PassedPrograms}

-- a module that a context holds and what a list of passes left of it have programs, of which the passes and the laws on
-- programs tell
abbrev pub OptimisedModulesHavePrograms : Type 0
OptimisedModulesHavePrograms = (xs : List Pass) (old new : KitContext) (root : Ptr Operation) (t : KitTree)
    (numbered : List ℕ → ℕ) → HoldsModule old root → StandsFor old.program root t → IsOrdinary old root →
    IsOptimised xs old new root → IsOrdinary new root → NumbersTextsApart numbered →
    PassedPrograms xs old new root numbered

-- the beginning of a list of passes left one program, the whole list another, of modules with one program; where the
-- rest of the list is run on a module with the first of them, it leaves the second. The contexts may be others each time
abbrev pub OptimisedListsCut : Type 0
OptimisedListsCut = (xs ys : List Pass) (start mid again end other new : KitContext)
    (root root_again root_there : Ptr Operation) (numbered : List ℕ → ℕ)
    (begun : PassedPrograms xs start mid root numbered)
    (whole : PassedPrograms (xs ++ ys) again end root_again numbered)
    (rest : PassedPrograms ys other new root_there numbered) → whole.first ≡ begun.first → rest.first ≡ begun.last →
    rest.last ≡ whole.last

-- a list of passes on the tree of a module keeps functions where they are: a path leads to a function of what they make
-- exactly where it led to one before, and this carries what that carried, the name and the type among it
abbrev pub FunctionsKeepTypes : Names → Type 0
FunctionsKeepTypes N = (leads : TypeHandle → Option KitType) (numbered : List ℕ → ℕ) (xs : List Pass)
    (t r : Root N kit_contents) → IsTreeAfter {N = N} leads numbered xs t r → (path : List ℕ) →
    function_content numbered path r ≡ function_content numbered path t
