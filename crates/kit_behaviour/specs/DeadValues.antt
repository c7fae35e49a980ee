-- Dead values: what nothing needs that stays. And the pass that removes them.
use Rattle.std.specs.Prelude.{◌≡◌, ℕ, Bool, true, false, List, [], ◌∷◌, ◌++◌, Option, Some, None, if◌then◌else◌, not}
use Rattle.std.specs.Prelude.{◌&&◌}
use Rattle.kit_behaviour.specs.Machine.{Edge, Op, Const, Calc, Emit, Call, Branch, Return, Block, Fun, FunctionsByPath}
use Rattle.kit_behaviour.specs.Machine.{arguments_in}
use Rattle.kit_behaviour.specs.RemovedValues.{may_trap, thin, thinned}
use Rattle.kit_behaviour.specs.Scopes.{is_in}
use Rattle.kit_behaviour.specs.Places.{Place, same_place}
use Rattle.kit_behaviour.specs.Numbering.{placed, place_fun}

-- of the values gs forwarded to the arguments ts, v is forwarded to arguments of the set d alone
abbrev pub forwards_dead : {V : Type 0} → (V → V → Bool) → (V → Bool) → V → List V → List V → Bool
forwards_dead same d v [] gs = true
forwards_dead same d v (t ∷ ts) [] = true
forwards_dead same d v (t ∷ ts) (g ∷ gs) = (if same v g then d t else true) && forwards_dead same d v ts gs

-- along these edges v is forwarded to arguments of the set alone
abbrev pub edges_dead : {V : Type 0} → (V → V → Bool) → Option (Fun V) → (V → Bool) → V → List (Edge V) → Bool
edges_dead same f d v [] = true
edges_dead same f d v (e ∷ es) = forwards_dead same d v (arguments_in f e.target) e.forwards && edges_dead same f d v es

-- this operation uses v as an operation that goes with the set, or forwards it to arguments of the set, or not at all
abbrev pub use_dead : {V : Type 0} → (V → V → Bool) → Option (Fun V) → (V → Bool) → V → Op V → Bool
use_dead same f d v (Const r n) = true
use_dead same f d v (Calc a w r x y) = if is_in same v (x ∷ y ∷ []) then (if may_trap a then false else d r) else true
use_dead same f d v (Emit x) = not (is_in same v (x ∷ []))
use_dead same f d v (Call rs c xs) = not (is_in same v xs)
use_dead same f d v (Branch s xs e es) = not (is_in same v xs) && edges_dead same f d v (e ∷ es)
use_dead same f d v (Return xs) = not (is_in same v xs)

-- so do these operations
abbrev pub ops_use_dead : {V : Type 0} → (V → V → Bool) → Option (Fun V) → (V → Bool) → V → List (Op V) → Bool
ops_use_dead same f d v [] = true
ops_use_dead same f d v (op ∷ ops) = use_dead same f d v op && ops_use_dead same f d v ops

-- so do the operations of these blocks
abbrev pub blocks_use_dead : {V : Type 0} → (V → V → Bool) → Option (Fun V) → (V → Bool) → V → List (Block V) → Bool
blocks_use_dead same f d v [] = true
blocks_use_dead same f d v (k ∷ ks) = ops_use_dead same f d v k.ops && blocks_use_dead same f d v ks

-- all uses of v in the function are of the set
abbrev pub all_uses_dead : {V : Type 0} → (V → V → Bool) → Option (Fun V) → (V → Bool) → V → Bool
all_uses_dead same None d v = true
all_uses_dead same (Some f) d v = blocks_use_dead same (Some f) d v f

-- the results of operations without side effects: constants, and arithmetic that never traps
abbrev pub pure_results : {V : Type 0} → List (Op V) → List V
pure_results [] = []
pure_results (Const r n ∷ ops) = r ∷ pure_results ops
pure_results (Calc a w r x y ∷ ops) = if may_trap a then pure_results ops else r ∷ pure_results ops
pure_results (Emit x ∷ ops) = pure_results ops
pure_results (Call rs c xs ∷ ops) = pure_results ops
pure_results (Branch s xs e es ∷ ops) = pure_results ops
pure_results (Return xs ∷ ops) = pure_results ops

-- the values that may be dead: arguments, and results of operations without side effects
abbrev pub candidates : {V : Type 0} → List (Block V) → List V
candidates [] = []
candidates (k ∷ ks) = k.arguments ++ (pure_results k.ops ++ candidates ks)

-- v may be dead: it is such a value, and no argument of the entry block
abbrev pub may_die : {V : Type 0} → (V → V → Bool) → Option (Fun V) → V → Bool
may_die same None v = false
may_die same (Some f) v = not (is_in same v (arguments_in (Some f) 0)) && is_in same v (candidates f)

-- the set holds each value that may be dead and all of whose uses are of the set
abbrev pub HoldsDead : {V : Type 0} → (V → V → Bool) → Option (Fun V) → (V → Bool) → Type 0
HoldsDead {V} same f d = (v : V) → may_die same f v && all_uses_dead same f d v ≡ true → d v ≡ true

-- the dead values: the least set that holds so. Arguments that are only forwarded to each other in a loop are not in
-- it, and stay
pub record IsDeadSet {V : Type 0} (same : V → V → Bool) (f : Option (Fun V)) (d : V → Bool) : Type 0 where
  pub holds : HoldsDead same f d
  pub least : (e : V → Bool) → HoldsDead same f e → (v : V) → d v ≡ true → e v ≡ true

-- q is what the pass makes of p: each function without its dead values, then values named by their places again
pub record IsDceOfFunctions (p q : FunctionsByPath Place) : Type 0 where
  pub set : List ℕ → Place → Bool
  pub dead : (path : List ℕ) → IsDeadSet same_place (p path) (set path)
  pub is : (path : List ℕ) → q path ≡ placed same_place (thinned set p) path

-- g is what the pass makes of the function f
pub record RemovesDeadValues (f g : Option (Fun Place)) : Type 0 where
  pub set : Place → Bool
  pub dead : IsDeadSet same_place f set
  pub is : g ≡ place_fun same_place (thin set f)

-- what the pass leaves: nothing is dead, so the empty set holds all that it has to
abbrev pub NoneDead : Option (Fun Place) → Type 0
NoneDead f = HoldsDead same_place f (λ v. false)
