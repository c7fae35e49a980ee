-- The statements of the laws.
use Rattle.std.specs.Prelude.{◌≡◌, ℕ, List, map, reverse, Option, Some, None, IsSome}
use Rattle.ir_names.specs.Identifier.{text_of}
use Rattle.ir_names.specs.declared.identifier.Identifier.{Identifier}
use Rattle.ir_types.specs.Interned.{key_at}
use Rattle.ir_program.specs.Program.{type_at}
use Rattle.ir_program.specs.Replacing.{same_value}
use Rattle.ir_program.specs.declared.handles.Operation.{Operation}
use Rattle.ir_program.specs.declared.handles.Ptr.{Ptr}
use Rattle.ir_trees.specs.Stands.{by_handle, StandsFor}
use Rattle.kit.specs.Context.{KitContext, KitTree}
use Rattle.kit_behaviour.specs.Machine as program
use Rattle.kit_behaviour.specs.Machine.{FunctionsByPath}
use Rattle.kit_behaviour.specs.Places as flat
use Rattle.kit_checks.specs.KitWorld.{HasDeclaredTypes}
use Rattle.kit_execution.specs.Obeying.{ObeysRules}
use Rattle.kit_flat.specs.Machine as context
use Rattle.kit_places.specs.Placed.{place_of}
use Rattle.kit_places.specs.Store.{module_code}
use Rattle.kit_places.specs.declared.places.Place.{Place}
use Rattle.kit_ruled_views.specs.Programs.{IsProgramOf}
use Rattle.kit_ruled_views.specs.Ruled.{HasOwnNames}
use Rattle.kit_execution.specs.Numberings.{NumbersTextsApart}
use Rattle.kit_execution.specs.Outcomes.{SameOutcome}

-- a path of names, as programs have it: the numbers of the names, the innermost first
abbrev pub program_path : (List ℕ → ℕ) → List Identifier → List ℕ
program_path numbered path = reverse (map (λ x. numbered (text_of x)) path)

-- the module keeps the rules, and the tree is its; in it names are distinct, and each value has the type that it has in
-- the context; different texts have different numbers, and the program is that of the tree
pub record IsProgramIn (s : KitContext) (root : Ptr Operation) (t : KitTree) (numbered : List ℕ → ℕ)
    (p : FunctionsByPath flat.Place) : Type 0 where
  pub obeys : ObeysRules s root
  pub stands : StandsFor s.program root t
  pub names : HasOwnNames t
  pub types : HasDeclaredTypes (type_at s.program) t
  pub numbering : NumbersTextsApart numbered
  pub is : IsProgramOf {N = by_handle} same_value (key_at s.types) numbered t p

-- the run of the function that a path leads to is after as many steps that of its program from the same path
abbrev pub RunsAsProgram : Type 0
RunsAsProgram = (s : KitContext) (root : Ptr Operation) (t : KitTree) (numbered : List ℕ → ℕ)
    (p : FunctionsByPath flat.Place) → IsProgramIn s root t numbered p → (path : List Identifier) (place : Place) →
    place_of s root path ≡ Some place → (xs : List ℕ) (n : ℕ) →
    SameOutcome (context.run same_value (module_code s place.within) n
    (context.start same_value (module_code s place.within) place.function xs))
    (program.run flat.same_place p n (program.start flat.same_place p (program_path numbered path) xs))

-- the program has a function at a path where there is a place, and none where there is none
abbrev pub ExistTogether : {X Y : Type 0} → Option X → Option Y → Type 0
ExistTogether None q = q ≡ None
ExistTogether (Some x) q = IsSome q

-- a path leads to a function of the context where it leads to one of the program
abbrev pub PathsMeet : Type 0
PathsMeet = (s : KitContext) (root : Ptr Operation) (t : KitTree) (numbered : List ℕ → ℕ)
    (p : FunctionsByPath flat.Place) → IsProgramIn s root t numbered p → (path : List Identifier) →
    ExistTogether (place_of s root path) (p (program_path numbered path))

-- there is a numbering of texts
abbrev pub NumberingsExist : Type 0
NumberingsExist = (numbered : List ℕ → ℕ) × NumbersTextsApart numbered
