-- The word for the path of a function, and what running the function there answers.
use Rattle.std.specs.Prelude.{◌≡◌, ℕ, ◌==◌, List, map, Result, Ok, Err}
use Rattle.std.specs.List.{slice_split}
use Rattle.ir_names.specs.Identifier.{text_of}
use Rattle.ir_names.specs.declared.identifier.Identifier.{Identifier}
use Rattle.ir_program.specs.declared.handles.Operation.{Operation}
use Rattle.ir_program.specs.declared.handles.Ptr.{Ptr}
use Rattle.kit.specs.Context.{KitContext}
use Rattle.kit_flat.specs.declared.outcome.Outcome.{Outcome}
use Rattle.kit_interpreter.specs.Running.{Runs}
use Rattle.kit_interpreter.specs.declared.executing.ExecFault.{ExecFault}
use Rattle.kit_interpreter.specs.declared.executing.ExecFault.TheVariants.{Memory, WrongPath, WrongArguments}

-- the parts of a word between slashes (`/` is 47): the names of a path, outermost first
abbrev pub names_in : List ℕ → List (List ℕ)
names_in word = slice_split (λ b. b == 47) word

-- The word says this path: its parts are the path's names. A word with a part that is empty or no identifier says none.
abbrev pub SaysPath : List ℕ → List Identifier → Type 0
SaysPath word path = map text_of path ≡ names_in word

-- The answer of running the function that a word leads to from the root, on these numbers, for at most so many steps: it is
-- that of the path that the word says, and the path is wrong where no function is at a path that the word says. Without
-- memory nothing is known.
abbrev pub IsAnswerOfRun : KitContext → Ptr Operation → List ℕ → List ℕ → ℕ → Result Outcome ExecFault → Type 0
IsAnswerOfRun s root word xs limit (Ok outcome) =
    (path : List Identifier) × SaysPath word path × Runs s root path xs limit (Ok outcome)
IsAnswerOfRun s root word xs limit (Err Memory) = Unit {0}
IsAnswerOfRun s root word xs limit (Err WrongPath) =
    (path : List Identifier) → SaysPath word path → Runs s root path xs limit (Err WrongPath)
IsAnswerOfRun s root word xs limit (Err WrongArguments) =
    (path : List Identifier) × SaysPath word path × Runs s root path xs limit (Err WrongArguments)
