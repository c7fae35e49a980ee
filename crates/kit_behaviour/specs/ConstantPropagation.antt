-- Sparse conditional constant propagation, by the most precise facts.
use Rattle.std.specs.Prelude.{◌≡◌, ℕ, List, Option, Some, Bool, true, None, if◌then◌else◌, slice_get}
use Rattle.kit_behaviour.specs.Machine.{Op, Calc, Fun, FunctionsByPath, left_in}
use Rattle.kit_behaviour.specs.Facts.{Fact, Undetermined, Known, Unknown, FunctionFacts, AreMostPreciseFacts}
use Rattle.kit_behaviour.specs.Replacement.{replace}
use Rattle.kit_behaviour.specs.InsertedConstants.{OldOrNewName, Old, same_name, Made, put_in, use_of, with_constants}
use Rattle.kit_behaviour.specs.Scopes.{is_in}
use Rattle.kit_behaviour.specs.Rules.{uses_in}
use Rattle.kit_behaviour.specs.Numbering.{placed, place_in, place_fun, HasPlace}
use Rattle.kit_behaviour.specs.Places.{Place, Arg, Res, same_place}

-- the number of a known value
abbrev pub number_of : Fact → Option ℕ
number_of (Known n) = Some n
number_of Undetermined = None
number_of Unknown = None

-- the number that an operation's result gets a constant for: arithmetic and comparisons, of a known result; no
-- constant gets one
abbrev pub number_at : Option (Op Place) → Fact → Option ℕ
number_at (Some (Calc a w r x y)) t = number_of t
number_at _ t = None

-- the number of a known value that may get a constant: in blocks known to run, each argument and each result of
-- arithmetic or a comparison
abbrev pub known_at : Option (Fun Place) → FunctionFacts Place → Made Place
known_at f k (Arg b i) = if k.runs b then number_of (k.of (Arg b i)) else None
known_at f k (Res b o i) = if k.runs b then number_at (slice_get (left_in f b 0) o) (k.of (Res b o i)) else None

-- which of these get one, function by function
abbrev pub Wants : Type 0
Wants = Option (Fun Place) → Place → Bool

-- all of them
abbrev pub all_wanted : Wants
all_wanted f v = true

-- those that have a use in the function
abbrev pub used_wanted : Wants
used_wanted f v = is_in same_place v (uses_in f)

-- at least those that have a use
abbrev pub WantsUsed : Wants → Type 0
WantsUsed want = (f : Option (Fun Place)) (v : Place) → is_in same_place v (uses_in f) ≡ true → want f v ≡ true

-- the constants that are put in
abbrev pub made_of : Wants → Option (Fun Place) → FunctionFacts Place → Made Place
made_of want f k v = if want f v then known_at f k v else None

-- the function with these constants put in, its uses naming them, before its values are named by their places again
abbrev pub with_facts : Wants → Option (Fun Place) → FunctionFacts Place → Option (Fun (OldOrNewName Place))
with_facts want f k = replace (use_of (made_of want f k)) (put_in (made_of want f k) f)

-- the pass on a program by facts of each function: the constants put in, then values named by their places again
abbrev pub sccp : Wants → (List ℕ → FunctionFacts Place) → FunctionsByPath Place → FunctionsByPath Place
sccp want k p = placed (same_name same_place) (with_constants (λ path. made_of want (p path) (k path)) p)

-- q is what the pass makes of p: by the most precise facts of each function, with constants for the known values that
-- are wanted
pub record IsSccpOfFunctions (want : Wants) (p q : FunctionsByPath Place) : Type 0 where
  pub facts : List ℕ → FunctionFacts Place
  pub best : (path : List ℕ) → AreMostPreciseFacts (p path) (facts path)
  pub is : (path : List ℕ) → q path ≡ sccp want facts p path

-- the function after the pass
abbrev pub propagated : Wants → Option (Fun Place) → FunctionFacts Place → Option (Fun Place)
propagated want f k = place_fun (same_name same_place) (with_facts want f k)

-- g is what the pass makes of the function f: by its most precise facts
pub record PropagatesConstants (want : Wants) (f g : Option (Fun Place)) : Type 0 where
  pub facts : FunctionFacts Place
  pub best : AreMostPreciseFacts f facts
  pub is : g ≡ propagated want f facts

-- where a value that was there is after the pass
abbrev pub new_place : Wants → Option (Fun Place) → FunctionFacts Place → Place → Place
new_place want f k v = place_in (same_name same_place) (with_facts want f k) (Old v)

-- facts l after the pass say of each block, and of each value that was there, what k said
pub record KeepsFunctionFacts (want : Wants) (f : Option (Fun Place)) (k l : FunctionFacts Place) : Type 0 where
  pub runs : (b : ℕ) → l.runs b ≡ k.runs b
  pub of : (v : Place) → HasPlace same_place f v → l.of (new_place want f k v) ≡ k.of v
