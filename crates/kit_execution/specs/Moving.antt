-- That a run never comes to a standstill before it is over.
use Rattle.std.specs.Prelude.{◌≡◌, ℕ, Bool, List, [], ◌∷◌, Some, IsSome}
use Rattle.ir_names.specs.declared.identifier.Identifier.{Identifier}
use Rattle.ir_program.specs.Replacing.{same_value}
use Rattle.ir_program.specs.declared.handles.Ptr.{Ptr}
use Rattle.ir_program.specs.declared.handles.Operation.{Operation}
use Rattle.kit.specs.Context.{KitContext}
use Rattle.kit_flat.specs.Machine.{Code, MachineState, Going, Ended, Trapped, MachineEffect, Next, Emits, Enters, Leaves, Traps, Stays, effect, rest_of, run, start}
use Rattle.kit_places.specs.declared.places.Place.{Place}
use Rattle.kit_places.specs.Store.{module_code}
use Rattle.kit_places.specs.Placed.{place_of}

module _ {V B F : Type 0} (same : V → V → Bool) (code : Code V B F) where
  -- the machine has executed an operation, and a function that is called has a block
  abbrev pub HasExecuted : MachineEffect V B F → Type 0
  HasExecuted (Next f) = Unit {0}
  HasExecuted (Emits n f) = Unit {0}
  HasExecuted (Enters g xs) = IsSome (code.entry g)
  HasExecuted (Leaves xs) = Unit {0}
  HasExecuted Traps = Unit {0}
  HasExecuted Stays = ⊥

  -- the run is over, or there is an operation next, and the machine executes it
  abbrev pub Moves : MachineState V B F → Type 0
  Moves (Going [] out) = ⊥
  Moves (Going (f ∷ fs) out) = HasExecuted (effect same code f (rest_of code f))
  Moves (Ended values out) = Unit {0}
  Moves (Trapped out) = Unit {0}

-- however many steps a run of the function at the place makes on whatever numbers, it moves on from there
abbrev pub NeverStays : KitContext → Place → Type 0
NeverStays s p = (xs : List ℕ) (n : ℕ) → Moves same_value (module_code s p.within)
    (run same_value (module_code s p.within) n (start same_value (module_code s p.within) p.function xs))

-- so it is of the function that a path leads to
abbrev pub PathMoves : KitContext → Ptr Operation → List Identifier → Type 0
PathMoves s root path = (p : Place) → place_of s root path ≡ Some p → NeverStays s p
