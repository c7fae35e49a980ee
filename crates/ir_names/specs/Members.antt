-- The names of an attribute dictionary, and what stands under them.
use Rattle.std.specs.Prelude.{◌≡◌, ℕ, Bool, true, false, cond, ◌||◌, List, [], ◌∷◌, Option, Some, None, bytes_eq, refl}
use Rattle.std.proofs.Common.{sym}
use Rattle.std.proofs.lemmas.Bool.{true≢false}
use Rattle.std.specs.Cmp.Lexicographic.{nat_list_eq_equiv}
use Rattle.std.specs.List.{list_any, AllByRecursion}
use Rattle.std.specs.Option.{option_eq, is_some}
use Rattle.ir_names.specs.Dictionary.{attribute_at, contains_name}

-- equal texts are among the same names
pub member_congr : (names : List (List ℕ)) (q r : List ℕ) → bytes_eq r q ≡ true → list_any (bytes_eq r) names ≡ list_any (bytes_eq q) names
member_congr [] q r e = refl
member_congr (name ∷ names) q r e = (λ j. nat_list_eq_equiv.congr r q name e j || member_congr names q r e j)

absent_step : (b : Bool) (name : List ℕ) (names : List (List ℕ)) (q : List ℕ) → bytes_eq q name ≡ b → (b || list_any (bytes_eq q) names) ≡ false
    → (list_any (bytes_eq q) names ≡ false → AllByRecursion (λ y. bytes_eq q y ≡ false) names) → AllByRecursion (λ y. bytes_eq q y ≡ false) (name ∷ names)
absent_step true name names q e h next = absurd (true≢false h)
absent_step false name names q e h next = (e, next h)

-- a text that is none of the names
pub apart_from_absent : (names : List (List ℕ)) (q : List ℕ) → list_any (bytes_eq q) names ≡ false → AllByRecursion (λ y. bytes_eq q y ≡ false) names
apart_from_absent [] q h = tt
apart_from_absent (name ∷ names) q h = absent_step (bytes_eq q name) name names q refl h (apart_from_absent names q)

pub absent_from_apart : (names : List (List ℕ)) (q : List ℕ) → AllByRecursion (λ y. bytes_eq q y ≡ false) names → list_any (bytes_eq q) names ≡ false
absent_from_apart [] q h = refl
absent_from_apart (name ∷ names) q h = (λ j. h.0 j || absent_from_apart names q h.1 j)

-- what equals something is something
pub same_members : {X : Type 0} (eq : X → X → Bool) (o p : Option X) → option_eq eq o p ≡ true → is_some o ≡ is_some p
same_members eq None None h = refl
same_members eq None (Some y) h = h
same_members eq (Some x) None h = sym h
same_members eq (Some x) (Some y) h = refl

some_step : {X : Type 0} (b c : Bool) (x : X) (o : Option X) → is_some o ≡ c → is_some (cond b (Some x) o) ≡ (b || c)
some_step true c x o h = refl
some_step false c x o h = h

-- an attribute stands under the names that are there
pub is_some-attribute_at : {X : Type 0} (es : List (List ℕ × X)) (q : List ℕ) → is_some (attribute_at es q) ≡ contains_name es q
is_some-attribute_at [] q = refl
is_some-attribute_at (e ∷ es) q = some_step (bytes_eq q e.0) (contains_name es q) e.1 (attribute_at es q) (is_some-attribute_at es q)
