-- The laws: what the passes do to the behaviour of programs, to the rules, and what they leave. Programs have their
-- values named by their places, but where Name or another type is named.
use Rattle.std.specs.Prelude.{◌≡◌, ◌≤◌, ◌<◌, ℕ, suc, List, ◌++◌, Bool, true, Option}
use Rattle.kit_behaviour.specs.Machine.{Fun, FunctionsByPath, Alike, left_in, size}
use Rattle.kit_behaviour.specs.Facts.{FunctionFacts, Undetermined, Known, AreClosedFacts, AreMostPreciseFacts}
use Rattle.kit_behaviour.specs.Scopes.{In, OpsWith, at_start}
use Rattle.kit_behaviour.specs.Replacement.{replaced}
use Rattle.kit_behaviour.specs.Rules.{Rules, EndsWell, AllEdgesFit, BlocksBelow, OperationsWithin}
use Rattle.kit_behaviour.specs.InsertedConstants.{OldOrNewName, Old, Made, same_name, with_constants, use_of, InsertsKnown}
use Rattle.kit_behaviour.specs.InsertedConstants.{FewPut}
use Rattle.kit_behaviour.specs.ConstantPropagation.{Wants, WantsUsed, used_wanted, IsSccpOfFunctions, propagated, KeepsFunctionFacts}
use Rattle.kit_behaviour.specs.ConstantPropagation.{with_facts, made_of, all_wanted, PropagatesConstants}
use Rattle.kit_behaviour.specs.KnownOperands.{NamesConstant, KnownArePropagated}
use Rattle.kit_behaviour.specs.RemovedValues.{SetMayGo, FewGo, thinned}
use Rattle.kit_behaviour.specs.DeadValues.{NoneDead, IsDeadSet, RemovesDeadValues, IsDceOfFunctions}
use Rattle.kit_behaviour.specs.DecidedBranches.{decided}
use Rattle.kit_behaviour.specs.ForwardedArguments.{MayForward}
use Rattle.kit_behaviour.specs.JoinedBlocks.{JoinsBlocksOf}
use Rattle.kit_behaviour.specs.SimplifiedBlocks.{Merges, IsMerged, SimplifiesFunction, IsSimplifyOfFunctions, IsSimplifiedFunction}
use Rattle.kit_behaviour.specs.SimplifiedNames.{DefinitionsAreApart, SimplifiesNamed}
use Rattle.kit_behaviour.specs.NamedPasses.{RemovesNamed, PropagatesNamed}
use Rattle.kit_behaviour.specs.PassLists.{Pass, IsPass, IsAfter, Fit, IsFinite, Goal, SameFaces}
use Rattle.kit_behaviour.specs.Renaming.{rename_fun}
use Rattle.kit_behaviour.specs.Numbering.{place_fun, HasPlace, NamesAreDefined}
use Rattle.kit_behaviour.specs.Places.{Place, same_place}

-- the two behave alike within c
abbrev pub AlikeWithin : ℕ → FunctionsByPath Place → FunctionsByPath Place → Type 0
AlikeWithin c p q = Alike same_place same_place c p q

-- each function keeps the rules
abbrev pub EachKeepsRules : FunctionsByPath Place → Type 0
EachKeepsRules p = (path : List ℕ) → Rules (p path)

-- 1. passes

-- constant propagation keeps behaviour, whichever known values get constants; neither run is more than c times as
-- long as the other, where no block of the result has c operations or more
abbrev pub SccpAlike : Type 0
SccpAlike =
    (want : Wants) (p q : FunctionsByPath Place) (c : ℕ) → EachKeepsRules p → IsSccpOfFunctions want p q → BlocksBelow c q → AlikeWithin c p q

-- removal of dead values keeps behaviour; neither run is more than c times as long as the other, where no block of the
-- program before has c operations or more
abbrev pub DceAlike : Type 0
DceAlike = (p q : FunctionsByPath Place) (c : ℕ) → EachKeepsRules p → IsDceOfFunctions p q → BlocksBelow c p → AlikeWithin c p q

-- the pass on control flow keeps behaviour; neither run is more than c + 1 times as long as the other, where no
-- function of the program before has more than c blocks
abbrev pub SimplifyAlike : Type 0
SimplifyAlike =
    (p q : FunctionsByPath Place) (c : ℕ) → EachKeepsRules p → IsSimplifyOfFunctions p q → ((path : List ℕ) → size (p path) ≤ c)
    → AlikeWithin (suc c) p q

-- one bound for the three: neither run is more than c + 1 times as long as the other, where no function of either
-- program has more than c operations; so c may be the number of operations of both programs together
abbrev pub PassAlike : Type 0
PassAlike =
    (x : Pass) (p q : FunctionsByPath Place) (c : ℕ) → EachKeepsRules p → IsPass x p q → OperationsWithin c p → OperationsWithin c q
    → AlikeWithin (suc c) p q

-- 2. lists of passes: of the first program alone the rules are asked

-- a program of finitely many functions that keep the rules is fit
abbrev pub FiniteIsFit : Type 0
FiniteIsFit = (p : FunctionsByPath Place) → EachKeepsRules p → IsFinite p → Fit p

-- any list of passes keeps behaviour, within some factor
abbrev pub PassesAlike : Type 0
PassesAlike = (xs : List Pass) (p r : FunctionsByPath Place) → Fit p → IsAfter xs p r → (c : ℕ) × AlikeWithin c p r

-- any list of passes keeps the rules
abbrev pub PassesKeepRules : Type 0
PassesKeepRules = (xs : List Pass) (p r : FunctionsByPath Place) → EachKeepsRules p → IsAfter xs p r → EachKeepsRules r

-- and that there are bounds
abbrev pub PassesKeepBounds : Type 0
PassesKeepBounds = (xs : List Pass) (p r : FunctionsByPath Place) → Fit p → IsAfter xs p r → Fit r

-- any list of passes keeps the paths of functions, and how many arguments each takes
abbrev pub PassesKeepFaces : Type 0
PassesKeepFaces = (xs : List Pass) (p r : FunctionsByPath Place) → EachKeepsRules p → IsAfter xs p r → SameFaces p r

-- each list of passes makes a program of a program that keeps the rules
abbrev pub PassesExist : Type 0
PassesExist = (xs : List Pass) (p : FunctionsByPath Place) → EachKeepsRules p → (r : FunctionsByPath Place) × IsAfter xs p r

-- a list of passes makes one program of a program
abbrev pub OneResult : Type 0
OneResult = (xs : List Pass) (p r s : FunctionsByPath Place) → EachKeepsRules p → IsAfter xs p r → IsAfter xs p s → r ≡ s

-- a list may be cut: the rest of it, on what its beginning made, makes what the whole list makes
abbrev pub ListsCut : Type 0
ListsCut =
    (xs ys : List Pass) (p n r s : FunctionsByPath Place) → EachKeepsRules p → IsAfter xs p n → IsAfter (xs ++ ys) p r
    → IsAfter ys n s → r ≡ s

-- 3. goals: what the passes leave

-- after constant propagation with constants for used values at least, the result has most precise facts, and in
-- blocks that they know to run each operand that they know to be a number is the result of a constant
abbrev pub SccpOfFunctionsGoal : Type 0
SccpOfFunctionsGoal =
    (want : Wants) → WantsUsed want → (p q : FunctionsByPath Place) → EachKeepsRules p → IsSccpOfFunctions want p q → (path : List ℕ)
    → KnownArePropagated (q path)

-- after removal of dead values nothing is dead
abbrev pub DceOfFunctionsGoal : Type 0
DceOfFunctionsGoal = (p q : FunctionsByPath Place) → EachKeepsRules p → IsDceOfFunctions p q → (path : List ℕ) → NoneDead (q path)

-- after the pass on control flow each block is reached, and no block may be joined behind another
abbrev pub SimplifyOfFunctionsGoal : Type 0
SimplifyOfFunctionsGoal = (p q : FunctionsByPath Place) → EachKeepsRules p → IsSimplifyOfFunctions p q → (path : List ℕ) → IsSimplifiedFunction (q path)

-- after a list of passes the goal of its last is met
abbrev pub PassesGoal : Type 0
PassesGoal = (xs : List Pass) (p r : FunctionsByPath Place) → EachKeepsRules p → IsAfter xs p r → Goal xs p r

-- a second removal of dead values changes nothing
abbrev pub DceSettles : Type 0
DceSettles = (p q r : FunctionsByPath Place) → EachKeepsRules p → IsDceOfFunctions p q → IsDceOfFunctions q r → r ≡ q

-- constant propagation with constants for used values alone: a second one changes nothing
abbrev pub LeanSccpSettles : Type 0
LeanSccpSettles =
    (p q r : FunctionsByPath Place) → EachKeepsRules p → IsSccpOfFunctions used_wanted p q → IsSccpOfFunctions used_wanted q r → r ≡ q

-- 4. facts

-- a function that keeps the rules has most precise facts
abbrev pub BestExists : Type 0
BestExists = (f : Option (Fun Place)) → Rules f → (k : FunctionFacts Place) × AreMostPreciseFacts f k

-- a function has a set of dead values
abbrev pub DeadExists : Type 0
DeadExists = (f : Option (Fun Place)) → (d : Place → Bool) × IsDeadSet same_place f d

-- there is one most precise list of facts at most
abbrev pub OneBestOfFunction : Type 0
OneBestOfFunction = (f : Option (Fun Place)) (k l : FunctionFacts Place) → AreMostPreciseFacts f k → AreMostPreciseFacts f l → k ≡ l

-- the most precise facts leave no value undetermined that is in scope in a block known to run
abbrev pub ScopesDetermined : Type 0
ScopesDetermined =
    (f : Option (Fun Place)) (k : FunctionFacts Place) → Rules f → AreMostPreciseFacts f k → (b : ℕ) → k.runs b ≡ true
    → OpsWith (λ a op. (x : Place) → In x a → k.of x ≡ Undetermined → ⊥) (at_start f b) (left_in f b 0)

-- the most precise facts of what constant propagation makes say of each block, and of each value that was there, what
-- the most precise facts said before
abbrev pub FactsStay : Type 0
FactsStay =
    (want : Wants) (f : Option (Fun Place)) (k l : FunctionFacts Place) → Rules f → AreMostPreciseFacts f k
    → AreMostPreciseFacts (propagated want f k) l → KeepsFunctionFacts want f k l

-- the most precise facts of what constant propagation makes, before values are named by their places again: of each
-- value that was there what they were before
abbrev pub ValueFactsKept : Type 0
ValueFactsKept =
    (want : Wants) (f : Option (Fun Place)) (k : FunctionFacts Place) (l : FunctionFacts (OldOrNewName Place)) → Rules f → AreMostPreciseFacts f k
    → AreMostPreciseFacts (with_facts want f k) l → (v : Place) → l.of (Old v) ≡ k.of v

-- and of each block
abbrev pub BlockFactsKept : Type 0
BlockFactsKept =
    (want : Wants) (f : Option (Fun Place)) (k : FunctionFacts Place) (l : FunctionFacts (OldOrNewName Place)) → Rules f → AreMostPreciseFacts f k
    → AreMostPreciseFacts (with_facts want f k) l → (b : ℕ) → l.runs b ≡ k.runs b

-- the use of x, after constants are put in by these facts, names a constant
abbrev pub UseNamesConstant : Wants → Option (Fun Place) → FunctionFacts Place → Place → Type 0
UseNamesConstant want f k x = NamesConstant (with_facts want f k) (use_of (made_of want f k) (Old x))

-- before values are named by their places again: in a block known to run, the use of each value in scope that is
-- wanted and whose number is known names a constant
abbrev pub KnownAreNamed : Type 0
KnownAreNamed =
    (want : Wants) (f : Option (Fun Place)) (k : FunctionFacts Place) → Rules f → AreMostPreciseFacts f k → (b : ℕ) → k.runs b ≡ true
    → OpsWith (λ a op. (x : Place) → In x a → want f x ≡ true → (n : ℕ) → k.of x ≡ Known n → UseNamesConstant want f k x)
    (at_start f b) (left_in f b 0)

-- 5. numbering

-- values named by their places: a function is the same, whatever its names were, as long as distinct names stay so
abbrev pub NumberingForgetsNames : (V W : Type 0) → Type 0
NumberingForgetsNames V W =
    (same : V → V → Bool) (same' : W → W → Bool) (r : V → W) → ((x y : V) → same' (r x) (r y) ≡ same x y)
    → (f : Option (Fun V)) → place_fun same' (rename_fun r f) ≡ place_fun same f

-- the same of names that are told apart as before where they are defined
abbrev pub NumberingForgetsDefined : (V W : Type 0) → Type 0
NumberingForgetsDefined V W =
    (same : V → V → Bool) (same' : W → W → Bool) (r : V → W) (f : Option (Fun V)) → NamesAreDefined same f
    → ((x y : V) → HasPlace same f x → HasPlace same f y → same' (r x) (r y) ≡ same x y)
    → place_fun same' (rename_fun r f) ≡ place_fun same f

-- a function that keeps the rules is its own numbering
abbrev pub NumberingStays : Type 0
NumberingStays = (f : Option (Fun Place)) → Rules f → place_fun same_place f ≡ f

-- 6. steps, of which the passes are made, under their own premises

-- constants put in for values that closed facts know, and uses that name them; c bounds the constants of a block
abbrev pub ConstantsAlike : Type 0
ConstantsAlike =
    (p : FunctionsByPath Place) (k : List ℕ → FunctionFacts Place) (m : List ℕ → Made Place) (c : ℕ) → InsertsKnown p k m → FewPut c m p
    → Alike same_place (same_name same_place) c p (with_constants m p)

-- a set of values removed that nothing needs that stays; c bounds the operations that go from a block
abbrev pub RemovalAlike : Type 0
RemovalAlike =
    (p : FunctionsByPath Place) (d : List ℕ → Place → Bool) (c : ℕ) → ((path : List ℕ) → SetMayGo (d path) (p path)) → FewGo c d p
    → AlikeWithin c p (thinned d p)

-- branches decided by closed facts
abbrev pub DecisionsAlike : Type 0
DecisionsAlike =
    (p : FunctionsByPath Place) (k : List ℕ → FunctionFacts Place) → ((path : List ℕ) → AreClosedFacts (p path) (k path)) → EachKeepsRules p
    → AlikeWithin 1 p (decided k p)

-- uses of arguments replaced by what was forwarded to them
abbrev pub ForwardingAlike : Type 0
ForwardingAlike =
    (p : FunctionsByPath Place) (s : List ℕ → Place → Place) (start : List ℕ → ℕ → List Place)
    → ((path : List ℕ) → MayForward (s path) (start path) (p path)) → AlikeWithin 1 p (replaced s p)

-- blocks joined in chains of at most c further blocks
abbrev pub JoiningAlike : Type 0
JoiningAlike =
    (p q : FunctionsByPath Place) (j : List ℕ → ℕ → Bool) (c : ℕ) → ((path : List ℕ) → JoinsBlocksOf (j path) c (p path) (q path))
    → AlikeWithin (suc c) p q

-- 7. the passes, whatever the names of values are

-- removal of dead values from a function whose names are defined, and which keeps the rules once its values are named
-- by their places, is the removal by places
abbrev pub RemovalByPlace : Type 0 → Type 0
RemovalByPlace V =
    (same : V → V → Bool) → ((x y : V) → same x y ≡ true → x ≡ y) → ((x : V) → same x x ≡ true)
    → (f g : Option (Fun V)) → NamesAreDefined same f → Rules (place_fun same f) → RemovesNamed same f g
    → RemovesDeadValues (place_fun same f) (place_fun same g)

-- the names that are left are defined
abbrev pub RemovalDefines : Type 0 → Type 0
RemovalDefines V =
    (same : V → V → Bool) → ((x y : V) → same x y ≡ true → x ≡ y) → ((x : V) → same x x ≡ true)
    → (f g : Option (Fun V)) → NamesAreDefined same f → Rules (place_fun same f) → RemovesNamed same f g
    → NamesAreDefined same g

-- the same of constant propagation: by places it puts in constants for all known values
abbrev pub PropagationByPlace : Type 0 → Type 0
PropagationByPlace V =
    (same : V → V → Bool) → ((x y : V) → same x y ≡ true → x ≡ y) → ((x : V) → same x x ≡ true)
    → (f : Option (Fun V)) (g : Option (Fun (OldOrNewName V))) → NamesAreDefined same f → Rules (place_fun same f)
    → PropagatesNamed f g → PropagatesConstants all_wanted (place_fun same f) (place_fun (same_name same) g)

-- the names afterwards are defined, those of constants too
abbrev pub PropagationDefines : Type 0 → Type 0
PropagationDefines V =
    (same : V → V → Bool) → ((x y : V) → same x y ≡ true → x ≡ y) → ((x : V) → same x x ≡ true)
    → (f : Option (Fun V)) (g : Option (Fun (OldOrNewName V))) → NamesAreDefined same f → Rules (place_fun same f)
    → PropagatesNamed f g → NamesAreDefined (same_name same) g

-- what joining makes of a function whose names are defined, and which keeps the rules once its values are named by
-- their places, is by places what joining makes of it by places
abbrev pub MergingByPlace : Type 0 → Type 0
MergingByPlace V =
    (same : V → V → Bool) → ((x y : V) → same x y ≡ true → x ≡ y) → ((x : V) → same x x ≡ true)
    → (f g : Option (Fun V)) → NamesAreDefined same f → Rules (place_fun same f) → Merges f g
    → IsMerged (place_fun same f) (place_fun same g)

-- the same of the pass on control flow
abbrev pub SimplifyingByPlace : Type 0 → Type 0
SimplifyingByPlace V =
    (same : V → V → Bool) → ((x y : V) → same x y ≡ true → x ≡ y) → ((x : V) → same x x ≡ true)
    → (f g : Option (Fun V)) → NamesAreDefined same f → Rules (place_fun same f) → SimplifiesNamed f g
    → SimplifiesFunction (place_fun same f) (place_fun same g)

-- the names that are left are defined
abbrev pub SimplifyingDefines : Type 0 → Type 0
SimplifyingDefines V =
    (same : V → V → Bool) → ((x y : V) → same x y ≡ true → x ≡ y) → ((x : V) → same x x ≡ true)
    → (f g : Option (Fun V)) → NamesAreDefined same f → Rules (place_fun same f) → SimplifiesNamed f g → NamesAreDefined same g

-- edges fit after joining
abbrev pub MergingFits : Type 0 → Type 0
MergingFits V =
    (f g : Option (Fun V)) → DefinitionsAreApart f → ((b : ℕ) → b < size f → EndsWell (left_in f b 0))
    → ((b : ℕ) → AllEdgesFit f (left_in f b 0)) → Merges f g → (b : ℕ) → AllEdgesFit g (left_in g b 0)
