-- What running a function of a module answers.
use Rattle.std.specs.Prelude.{◌≡◌, ℕ, ◌<◌, ◌^◌, List, Option, Some, None, Result, Ok, Err, length, slice_get}
use Rattle.ir_names.specs.declared.identifier.Identifier.{Identifier}
use Rattle.ir_program.specs.Program.{TypedValue, arguments_at}
use Rattle.ir_program.specs.Replacing.{same_value}
use Rattle.ir_program.specs.declared.handles.Ptr.{Ptr}
use Rattle.ir_program.specs.declared.handles.Operation.{Operation}
use Rattle.ir_program.specs.declared.handles.BasicBlock.{BasicBlock}
use Rattle.kit.specs.Context.{KitContext}
use Rattle.kit_flat.specs.Machine.{run, start}
use Rattle.kit_flat.specs.Shows.{OutcomeShows}
use Rattle.kit_flat.specs.declared.outcome.Outcome.{Outcome}
use Rattle.kit_interpreter.specs.declared.executing.ExecFault.{ExecFault}
use Rattle.kit_interpreter.specs.declared.executing.ExecFault.TheVariants.{Memory, WrongPath, WrongArguments}
use Rattle.kit_places.specs.declared.places.Place.{Place}
use Rattle.kit_places.specs.Store.{body_of, width_at, module_code}
use Rattle.kit_places.specs.Placed.{place_of}
use Rattle.kit_interpreter.specs.Lowering.{ModuleCanRun}

-- the number is below 2 to the power of the width, where there is one
abbrev pub FitsWidth : ℕ → Option ℕ → Type 0
FitsWidth x None = Unit {0}
FitsWidth x (Some w) = x < 2 ^ w

-- as many numbers as there are values, each below 2 to the power of the width of its type
pub record AreFitting (s : KitContext) (ts : List TypedValue) (xs : List ℕ) : Type 0 where
  pub count : length xs ≡ length ts
  pub each : (i x : ℕ) (t : TypedValue) → slice_get xs i ≡ Some x → slice_get ts i ≡ Some t
      → FitsWidth x (width_at s t.ty)

-- the function takes these numbers as the arguments of its entry block
abbrev pub TakesNumbers : KitContext → Ptr Operation → List ℕ → Type 0
TakesNumbers s f xs = (b : Ptr BasicBlock) × (slice_get (body_of s.program f) 0 ≡ Some b)
    × AreFitting s (arguments_at s.program b) xs

-- the module of the function at the path can run: all functions that a run may call are its
abbrev pub PathCanRun : KitContext → Ptr Operation → List Identifier → Type 0
PathCanRun s root path = (p : Place) → place_of s root path ≡ Some p → ModuleCanRun s p.within

-- an outcome is that of at most n steps of the machine from the function's first state; a wrong path leads to no
-- function; and wrong arguments are none that
-- the function takes
abbrev pub Runs : KitContext → Ptr Operation → List Identifier → List ℕ → ℕ → Result Outcome ExecFault → Type 0
Runs s root path xs n (Ok o) =
    (p : Place) × (place_of s root path ≡ Some p) × TakesNumbers s p.function xs
    × OutcomeShows (run same_value (module_code s p.within) n
    (start same_value (module_code s p.within) p.function xs)) o
Runs s root path xs n (Err Memory) = Unit {0}
Runs s root path xs n (Err WrongPath) = place_of s root path ≡ None
Runs s root path xs n (Err WrongArguments) = (p : Place) × (place_of s root path ≡ Some p) × (TakesNumbers s p.function xs → ⊥)
