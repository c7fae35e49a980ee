-- The statements of the laws.
use Rattle.std.specs.Prelude.{◌≡◌, ℕ, Bool, List, ◌++◌, Option}
use Rattle.ir_base.specs.declared.types.TypeHandle.{TypeHandle}
use Rattle.ir_program.specs.declared.handles.Value.{Value}
use Rattle.ir_trees.specs.Names.{Names}
use Rattle.ir_trees.specs.Stands.{by_handle}
use Rattle.ir_trees.specs.Trees.{Root}
use Rattle.kit.specs.Context.{KitTree}
use Rattle.kit_checks.specs.KitWorld.{HasDeclaredTypes, kit_world}
use Rattle.kit_ops.specs.declared.types.KitType.{KitType}
use Rattle.kit_checks.specs.declared.rule.Rule.{Rule}
use Rattle.kit_checks.specs.Faults.{KeptEverywhere}
use Rattle.kit_ruled_views.specs.Ruled.{HasOwnNames, type_or_first}
use Rattle.kit_behaviour.specs.Machine.{FunctionsByPath}
use Rattle.kit_behaviour.specs.ConstantPropagation as constants
use Rattle.kit_behaviour.specs.ConstantPropagation.{used_wanted}
use Rattle.kit_behaviour.specs.DeadValues as dead
use Rattle.kit_behaviour.specs.Laws.{AlikeWithin, EachKeepsRules}
use Rattle.kit_behaviour.specs.PassLists.{Pass, IsAfter, Fit, Goal, SameFaces}
use Rattle.kit_behaviour.specs.Places.{Place}
use Rattle.kit_behaviour.specs.SimplifiedBlocks as blocks
use Rattle.kit_views.specs.FlatView.{IsSameness}
use Rattle.kit_views.specs.Reading.{kit_contents}
use Rattle.kit_ruled_views.specs.Programs.{IsProgramOf, FunctionsAreFlat}
use Rattle.kit_ruled_views.specs.Sound.{IsSound}
use Rattle.kit_ruled_views.specs.TreePasses.{IsDceAlone, IsSccpNamed, IsSimplifiedAlone, IsTreeAfter}

-- a module's tree whose functions have flat views has a program
abbrev pub ProgramsExist : Names → Type 0
ProgramsExist N = (same : N.value → N.value → Bool) (leads : TypeHandle → Option KitType) (numbered : List ℕ → ℕ)
    (t : Root N kit_contents) → FunctionsAreFlat {N = N} leads numbered t →
    (p : FunctionsByPath Place) × IsProgramOf {N = N} same leads numbered t p

-- the functions of a sound module have flat views
abbrev pub SoundIsFlat : Names → Type 0
SoundIsFlat N = (leads : TypeHandle → Option KitType) (numbered : List ℕ → ℕ) (type_at : N.value → TypeHandle)
    (t : Root N kit_contents) → IsSound {N = N} leads numbered type_at t → FunctionsAreFlat {N = N} leads numbered t

-- a module's tree has one program at most
abbrev pub OneProgram : Names → Type 0
OneProgram N = (same : N.value → N.value → Bool) (leads : TypeHandle → Option KitType) (numbered : List ℕ → ℕ)
    (t : Root N kit_contents) (p q : FunctionsByPath Place) → IsProgramOf {N = N} same leads numbered t p →
    IsProgramOf {N = N} same leads numbered t q → p ≡ q

-- a module that keeps the rules, under names that are distinct, is sound by the types that the rules read
abbrev pub RulesMakeSound : Type 0
RulesMakeSound = (leads : TypeHandle → Option KitType) (typed : Value → Option TypeHandle) (numbered : List ℕ → ℕ)
    (t : KitTree) → ((r : Rule) → KeptEverywhere (kit_world leads typed) t r) → HasOwnNames t → HasDeclaredTypes typed t →
    IsSound {N = by_handle} leads numbered (type_or_first typed) t

-- of names of operations, of blocks and of values it is told whether they are the same
pub record AreTold (N : Names) : Type 0 where
  pub operation : N.operation → N.operation → Bool
  pub operations : IsSameness operation
  pub block : N.block → N.block → Bool
  pub blocks : IsSameness block
  pub value : N.value → N.value → Bool
  pub values : IsSameness value

-- the pass on the tree of a module makes a tree whose program is what the pass on programs makes of the program
abbrev pub IsPassOn : (N : Names) → (Root N kit_contents → Root N kit_contents → Type 0) →
    (FunctionsByPath Place → FunctionsByPath Place → Type 0) → Type 0
IsPassOn N Tree Flat = (told : AreTold N) (leads : TypeHandle → Option KitType) (numbered : List ℕ → ℕ)
    (type_at : N.value → TypeHandle) (t after : Root N kit_contents) (p : FunctionsByPath Place) →
    IsSound {N = N} leads numbered type_at t → Tree t after → IsProgramOf {N = N} told.value leads numbered t p →
    (q : FunctionsByPath Place) × IsProgramOf {N = N} told.value leads numbered after q × Flat p q

-- removal of dead values on the tree of a module is removal of dead values on its program
abbrev pub DceIsDce : Names → Type 0
DceIsDce N = IsPassOn N IsDceAlone dead.IsDceOfFunctions

-- constants put into the tree of a module are constants put into its program, for all known values that may get one and
-- that have a use
abbrev pub SccpIsSccp : Names → Type 0
SccpIsSccp N = IsPassOn N IsSccpNamed (constants.IsSccpOfFunctions used_wanted)

-- control flow simplified on the tree of a module is control flow simplified on its program
abbrev pub SimplifyIsSimplify : Names → Type 0
SimplifyIsSimplify N = IsPassOn N IsSimplifiedAlone blocks.IsSimplifyOfFunctions

-- of what a list of passes makes of a tree the program is what the list makes of the tree's program
abbrev pub ListsAreLists : Names → Type 0
ListsAreLists N = (told : AreTold N) (leads : TypeHandle → Option KitType) (numbered : List ℕ → ℕ) (xs : List Pass)
    (t r : Root N kit_contents) (p : FunctionsByPath Place) → IsTreeAfter {N = N} leads numbered xs t r →
    IsProgramOf {N = N} told.value leads numbered t p →
    (q : FunctionsByPath Place) × IsProgramOf {N = N} told.value leads numbered r q × IsAfter xs p q

-- a property of the programs before and after a list of passes on trees, where the first has the property P
abbrev pub OfTheirPrograms : (N : Names) → (FunctionsByPath Place → Type 0) →
    (List Pass → FunctionsByPath Place → FunctionsByPath Place → Type 0) → Type 0
OfTheirPrograms N P Q = (told : AreTold N) (leads : TypeHandle → Option KitType) (numbered : List ℕ → ℕ)
    (xs : List Pass) (t r : Root N kit_contents) (p q : FunctionsByPath Place) → IsTreeAfter {N = N} leads numbered xs t r →
    IsProgramOf {N = N} told.value leads numbered t p → IsProgramOf {N = N} told.value leads numbered r q → P p →
    Q xs p q

-- the programs behave alike, within some factor
abbrev pub TreesAlike : Names → Type 0
TreesAlike N = OfTheirPrograms N Fit (λ xs p q. (c : ℕ) × AlikeWithin c p q)

-- the goal of the last pass is met
abbrev pub TreesGoal : Names → Type 0
TreesGoal N = OfTheirPrograms N EachKeepsRules Goal

-- the paths of functions stay, and how many arguments each takes
abbrev pub TreesKeepFaces : Names → Type 0
TreesKeepFaces N = OfTheirPrograms N EachKeepsRules (λ xs p q. SameFaces p q)

-- what the beginning of a list makes of a tree, and the rest of that, has the program that the whole list makes
abbrev pub TreeListsCut : Names → Type 0
TreeListsCut N = (told : AreTold N) (leads : TypeHandle → Option KitType) (numbered : List ℕ → ℕ) (xs ys : List Pass)
    (t m r s : Root N kit_contents) (p q k : FunctionsByPath Place) → IsTreeAfter {N = N} leads numbered xs t m →
    IsTreeAfter {N = N} leads numbered (xs ++ ys) t r → IsTreeAfter {N = N} leads numbered ys m s →
    IsProgramOf {N = N} told.value leads numbered t p → IsProgramOf {N = N} told.value leads numbered r q →
    IsProgramOf {N = N} told.value leads numbered s k → EachKeepsRules p → q ≡ k
