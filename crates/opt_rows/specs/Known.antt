-- What is known of values: a lattice of three levels, and what is asked where operands are known.
use Rattle.std.specs.Prelude.{◌≡◌, Bool, true, List, [], ◌∷◌, Option, Some, None}
use Rattle.opt_rows.specs.declared.known.Known.{Known}
use Rattle.opt_rows.specs.declared.known.Known.TheVariants.{Undetermined, One, Any}

-- the first lies at or below the second: undetermined is highest, any is lowest, and no constant is below another
abbrev pub AtOrBelow : {A : Type 0} → Known A → Known A → Type 0
AtOrBelow Any y = Unit {0}
AtOrBelow Undetermined Undetermined = Unit {0}
AtOrBelow (One a) Undetermined = Unit {0}
AtOrBelow (One a) (One b) = a ≡ b
AtOrBelow Undetermined (One b) = ⊥
AtOrBelow Undetermined Any = ⊥
AtOrBelow (One a) Any = ⊥

-- what is asked of a kind: nothing, where any operand is undetermined; else which operands are constants, and which
abbrev pub and_known : {A : Type 0} → Known A → Option (List (Option A)) → Option (List (Option A))
and_known Undetermined q = None
and_known (One a) None = None
and_known (One a) (Some xs) = Some (Some a ∷ xs)
and_known Any None = None
and_known Any (Some xs) = Some (None ∷ xs)

abbrev pub asked : {A : Type 0} → List (Known A) → Option (List (Option A))
asked [] = Some []
asked (x ∷ xs) = and_known x (asked xs)

-- what an answer says of a result
abbrev pub answer : {A : Type 0} → Option A → Known A
answer None = Any
answer (Some a) = One a

-- what is known: the blocks that are known to run, and what is known of each value
pub record FactsOf (B V A : Type 0) : Type 0 where
  pub runs : B → Bool
  pub of : V → Known A

-- each value lies at or below what is said of it, as far as both lists go
abbrev pub AllBelow : {V A : Type 0} → (V → Known A) → List V → List (Known A) → Type 0
AllBelow f [] ys = Unit {0}
AllBelow f (v ∷ vs) [] = Unit {0}
AllBelow f (v ∷ vs) (y ∷ ys) = AtOrBelow (f v) y × AllBelow f vs ys

-- each may be any value
abbrev pub AllAny : {V A : Type 0} → (V → Known A) → List V → Type 0
AllAny f [] = Unit {0}
AllAny f (v ∷ vs) = (f v ≡ Any) × AllAny f vs

-- the first facts are at least as precise as the second: fewer blocks run, and each value lies at or above what the second say of it
pub record MorePrecise {B V A : Type 0} (k l : FactsOf B V A) : Type 0 where
  pub fewer : (b : B) → k.runs b ≡ true → l.runs b ≡ true
  pub above : (v : V) → AtOrBelow (l.of v) (k.of v)

-- the second list knows what the first knows, and maybe more
abbrev pub KnowsMore : {A : Type 0} → List (Option A) → List (Option A) → Type 0
KnowsMore [] [] = Unit {0}
KnowsMore [] (y ∷ ys) = ⊥
KnowsMore (x ∷ xs) [] = ⊥
KnowsMore {A} (x ∷ xs) (y ∷ ys) = ((a : A) → x ≡ Some a → y ≡ Some a) × KnowsMore xs ys
