-- Removal of dead values, and constant propagation, on a function whose values have any names: these stay as they are.
use Rattle.std.specs.Prelude.{◌≡◌, ◌⊎◌, ◌↔◌, ℕ, Bool, true, List, [], ◌∷◌, Option, Some}
use Rattle.kit_behaviour.specs.DeadValues.{IsDeadSet}
use Rattle.kit_behaviour.specs.Facts.{FunctionFacts, Known, AreMostPreciseFacts}
use Rattle.kit_behaviour.specs.InsertedConstants.{OldOrNewName, Made, put_in, use_of}
use Rattle.kit_behaviour.specs.Machine.{Op, Const, Calc, Emit, Call, Branch, Return, Fun, left_in, arguments_in}
use Rattle.kit_behaviour.specs.RemovedValues.{thin}
use Rattle.kit_behaviour.specs.Replacement.{replace}
use Rattle.kit_behaviour.specs.Scopes.{In}

-- g is f without its dead values
pub record RemovesNamed {V : Type 0} (same : V → V → Bool) (f g : Option (Fun V)) : Type 0 where
  pub set : V → Bool
  pub dead : IsDeadSet same f set
  pub is : g ≡ thin set f

-- the results of arithmetic and of comparisons
abbrev pub calc_defs : {V : Type 0} → List (Op V) → List V
calc_defs [] = []
calc_defs (Calc a w r x y ∷ ops) = r ∷ calc_defs ops
calc_defs (Const r n ∷ ops) = calc_defs ops
calc_defs (Emit x ∷ ops) = calc_defs ops
calc_defs (Call rs c xs ∷ ops) = calc_defs ops
calc_defs (Branch s xs e es ∷ ops) = calc_defs ops
calc_defs (Return xs ∷ ops) = calc_defs ops

-- facts know v to be the number n, and v is an argument, or the result of arithmetic or of a comparison, of a block
-- that they know to run
pub record GetsConstant {V : Type 0} (f : Option (Fun V)) (k : FunctionFacts V) (v : V) (n : ℕ) : Type 0 where
  pub known : k.of v ≡ Known n
  pub block : ℕ
  pub runs : k.runs block ≡ true
  pub place : In v (arguments_in f block) ⊎ In v (calc_defs (left_in f block 0))

-- g is f with constants for all values that its most precise facts know and that may get one, its uses naming them
pub record PropagatesNamed {V : Type 0} (f : Option (Fun V)) (g : Option (Fun (OldOrNewName V))) : Type 0 where
  pub facts : FunctionFacts V
  pub best : AreMostPreciseFacts f facts
  pub made : Made V
  pub gets : (v : V) (n : ℕ) → (made v ≡ Some n) ↔ GetsConstant f facts v n
  pub is : g ≡ replace (use_of made) (put_in made f)
