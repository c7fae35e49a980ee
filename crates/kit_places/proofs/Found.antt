-- The first of a list that passes a test.
use Rattle.std.proofs.Common.{◌≡◌, Bool, true, false, List, [], ◌∷◌, ◌++◌, Option, Some, None, sym, ap, ◌∙◌, if◌then◌else◌}
use Rattle.kit_places.specs.Store.{first_with}

-- one that doesn't pass is passed over
pub skipped : {X : Type 0} (test : X → Bool) (rest next : List X) (x : X) (b : Bool) → rest ≡ x ∷ next → b ≡ test x
    → b ≡ false → first_with test next ≡ first_with test rest
skipped test rest next x b e t f =
    let no : test x ≡ false = sym t ∙ f in
    sym (ap (first_with test) e ∙ ap (λ (c : Bool). if c then Some x else first_with test next) no)

-- one that passes is the first
pub reached : {X : Type 0} (test : X → Bool) (rest next : List X) (x : X) (b : Bool) → rest ≡ x ∷ next → b ≡ test x
    → b ≡ true → first_with test rest ≡ Some x
reached test rest next x b e t f =
    let yes : test x ≡ true = sym t ∙ f in
    ap (first_with test) e ∙ ap (λ (c : Bool). if c then Some x else first_with test next) yes

-- behind others
pub appended : {X : Type 0} (test : X → Bool) (done : List X) (x : X) → test x ≡ false
    → first_with test (done ++ x ∷ []) ≡ first_with test done
appended test [] x f = ap (λ (c : Bool). if c then Some x else None) f
appended test (d ∷ done) x f = ap (λ (r : Option _). if test d then Some d else r) (appended test done x f)

-- where none of the others passes
pub only : {X : Type 0} (test : X → Bool) (done : List X) (x : X) → test x ≡ true → first_with test done ≡ None
    → first_with test (done ++ x ∷ []) ≡ Some x
only test [] x t n = ap (λ (c : Bool). if c then Some x else None) t
only {X} test (d ∷ done) x t n = go (test d) (only test done x t) n
  where
    go : (b : Bool) → (first_with test done ≡ None → first_with test (done ++ x ∷ []) ≡ Some x)
        → (if b then Some d else first_with test done) ≡ None
        → (if b then Some d else first_with test (done ++ x ∷ [])) ≡ Some x
    go true h e = cc
    go false h e = h e

-- where one of the others passes
pub kept : {X : Type 0} (test : X → Bool) (done : List X) (x y : X) → first_with test done ≡ Some y
    → first_with test (done ++ x ∷ []) ≡ Some y
kept test [] x y e = cc
kept {X} test (d ∷ done) x y e = go (test d) (kept test done x y) e
  where
    go : (b : Bool) → (first_with test done ≡ Some y → first_with test (done ++ x ∷ []) ≡ Some y)
        → (if b then Some d else first_with test done) ≡ Some y
        → (if b then Some d else first_with test (done ++ x ∷ [])) ≡ Some y
    go true h e = e
    go false h e = h e
