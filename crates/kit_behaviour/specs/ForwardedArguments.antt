-- Values in the place of arguments: before a block is joined, each use of its arguments names what was forwarded to
-- them.
use Rattle.std.specs.Prelude.{◌≡◌, ◌⊎◌, ℕ, List, [], ◌∷◌, ◌++◌, Option}
use Rattle.kit_behaviour.specs.Machine.{AllEdges, Edge, Op, Const, Calc, Emit, Call, Branch, Return, Fun, left_in}
use Rattle.kit_behaviour.specs.Machine.{arguments_in}
use Rattle.kit_behaviour.specs.Scopes.{In, AllIn, OpsWith}

-- x is its own replacement; or x is in scope already, and neither it nor its replacement is bound here (rs are bound,
-- a is in scope)
abbrev pub Untouched : {V : Type 0} → (V → V) → List V → List V → V → Type 0
Untouched s rs a x = (s x ≡ x) ⊎ (In x a × (In x rs → ⊥) × (In (s x) rs → ⊥))

-- each argument is its own replacement, or has that of what is forwarded to it, and this is none of all the
-- arguments; the arguments are distinct
abbrev pub Forwarded : {V : Type 0} → (V → V) → List V → List V → List V → Type 0
Forwarded s all [] gs = Unit {0}
Forwarded s all (t ∷ ts) [] = ⊥
Forwarded s all (t ∷ ts) (g ∷ gs) =
    ((s t ≡ t) ⊎ ((s t ≡ s g) × (In (s g) all → ⊥))) × (In t ts → ⊥) × Forwarded s all ts gs

-- along an edge, what is forwarded is in scope, arguments are replaced by what is forwarded to them, and each value
-- in scope at the target is an argument of it or untouched
abbrev pub EdgeKeeps : {V : Type 0} → Option (Fun V) → (ℕ → List V) → (V → V) → List V → Edge V → Type 0
EdgeKeeps {V} f start s a e =
    AllIn e.forwards a × Forwarded s (arguments_in f e.target) (arguments_in f e.target) e.forwards
    × ((x : V) → In x (start e.target) → In x (arguments_in f e.target) ⊎ Untouched s (arguments_in f e.target) a x)

-- an operation binds no value that stands for another; its edges keep that
abbrev pub OpKeeps : {V : Type 0} → Option (Fun V) → (ℕ → List V) → (V → V) → List V → Op V → Type 0
OpKeeps {V} f start s a (Const r n) = (x : V) → In x (r ∷ a) → Untouched s (r ∷ []) a x
OpKeeps {V} f start s a (Calc o w r x y) = In x a × In y a × ((z : V) → In z (r ∷ a) → Untouched s (r ∷ []) a z)
OpKeeps f start s a (Emit x) = In x a
OpKeeps {V} f start s a (Call rs c xs) = AllIn xs a × ((z : V) → In z (rs ++ a) → Untouched s rs a z)
OpKeeps f start s a (Branch t xs e es) = AllIn xs a × AllEdges (EdgeKeeps f start s a) (e ∷ es)
OpKeeps f start s a (Return xs) = AllIn xs a

-- the replacement s of arguments by what is forwarded to them changes no number that a use reads; start gives the
-- values in scope at the start of each block
pub record MayForward {V : Type 0} (s : V → V) (start : ℕ → List V) (f : Option (Fun V)) : Type 0 where
  pub entry : (x : V) → In x (start 0) → s x ≡ x
  pub blocks : (b : ℕ) → OpsWith (OpKeeps f start s) (start b) (left_in f b 0)
