-- What the places of a row name, once a row of some user was edited.
use Rattle.std.proofs.Common.{◌≡◌, ◌≢◌, ℕ, zero, suc, ◌≤◌, ◌++◌, List, [], ◌∷◌, length, map, insert, remove, set, Option, Some, None, unwrap_or, slice_get, ⊎_elim, refl, sym, ap, ◌∙◌, subst, arith}
use Rattle.std.proofs.lemmas.Bool.{cases_eq}
use Rattle.std.proofs.lemmas.List.{map-append}
use Rattle.ir_entities.specs.Uses.{Uses, PlaceOfUse, key_of, place_of, named_of, SetsPlace, naming}
use Rattle.ir_entities.specs.Placed.{place_at, shifted_up, shifted_down, StandsAlike}
use Rattle.ir_entities.specs.Rows.{IsRowOf, PushesIn, InsertsIn, RemovesIn}
use Rattle.ir_entities.proofs.Placed.{no_place, user_kept}
use Rattle.ir_entities.proofs.RowEdits.{row-distinct, row-used, removed-used}
use Rattle.ir_program.specs.Program.{key_if, named_or}
use Rattle.ir_program.proofs.made.Frames.{map-same}

map-insert : {X Y : Type 0} (f : X → Y) (xs : List X) (k : ℕ) (x : X) → k ≤ length xs → map f (insert xs k x) ≡ insert (map f xs) k (f x)
map-insert f [] zero x h = refl
map-insert f [] (suc k) x h = absurd (omega arith)
map-insert f (y ∷ xs) zero x h = refl
map-insert f (y ∷ xs) (suc k) x h = ap (λ l. f y ∷ l) (map-insert f xs k x (omega arith))

map-remove : {X Y : Type 0} (f : X → Y) (xs : List X) (k : ℕ) → map f (remove xs k) ≡ remove (map f xs) k
map-remove f [] zero = refl
map-remove f [] (suc k) = refl
map-remove f (y ∷ xs) zero = refl
map-remove f (y ∷ xs) (suc k) = ap (λ l. f y ∷ l) (map-remove f xs k)

-- a function that changes at one index only
map-set : {X Y : Type 0} (f g : X → Y) (xs : List X) (k : ℕ) (y : Y)
    → ((x : X) → slice_get xs k ≡ Some x → f x ≡ y)
    → ((j : ℕ) (x : X) → j ≢ k → slice_get xs j ≡ Some x → f x ≡ g x) → map f xs ≡ set (map g xs) k y
map-set f g [] zero y here others = refl
map-set f g [] (suc k) y here others = refl
map-set f g (x ∷ xs) zero y here others = let first : f x ≡ y = here x refl in let rest : map f xs ≡ map g xs = map-same f g xs (λ j z e. others (suc j) z (λ h. omega arith) e) in rw (first, rest) refl
map-set f g (x ∷ xs) (suc k) y here others = let first : f x ≡ g x = others zero x (λ h. omega arith) refl in let rest : map f xs ≡ set (map g xs) k y = map-set f g xs k y here (λ j z n e. others (suc j) z (λ h. n (omega arith)) e) in rw (first, rest) refl

-- a place of another user than i names what it named
abbrev pub KeepsNames : (ℕ → Option PlaceOfUse) → (ℕ → Option PlaceOfUse) → ℕ → Type 0
KeepsNames place new i = (q : ℕ) (x : PlaceOfUse) → place q ≡ Some x → x.user ≢ i → named_of (new q) ≡ Some x.definition

up_named : (i k : ℕ) (o : Option PlaceOfUse) → named_of (shifted_up i k o) ≡ named_of o
up_named i k None = refl
up_named i k (Some x) = refl

down_named : (i k : ℕ) (o : Option PlaceOfUse) → named_of (shifted_down i k o) ≡ named_of o
down_named i k None = refl
down_named i k (Some x) = refl

module _ (place new : ℕ → Option PlaceOfUse) (row rows : List ℕ) (i : ℕ) where
  pub pushed-keeps : (p d : ℕ) → PushesIn place new row rows i p d → KeepsNames place new i
  pushed-keeps p d pushes q x e n = ap named_of (pushes.others q (λ s. no_place x (sym pushes.fresh ∙ (ap place (sym s) ∙ e))) ∙ e)

  pub inserted-keeps : (k p d : ℕ) → InsertsIn place new row rows i k p d → KeepsNames place new i
  inserted-keeps k p d inserts q x e n = ap named_of (inserts.others q (λ s. no_place x (sym inserts.fresh ∙ (ap place (sym s) ∙ e)))) ∙ up_named i k (place q) ∙ ap named_of e

  pub removed-keeps : (k p : ℕ) → IsRowOf place row i → RemovesIn place new row rows i k p → KeepsNames place new i
  removed-keeps k p rowed removes q x e n =
      let its = rowed.held k p removes.stood in
      let other : q ≢ p = λ s. n (user_kept x (place_at its.0 i k) (sym e ∙ (ap place s ∙ its.1))) in
      ap named_of (removes.others q other) ∙ down_named i k (place q) ∙ ap named_of e

-- what places name by their definitions' keys, which stay
module _ {K : Type 0} (none : K) (u w : Uses K) (definitions : w.definitions ≡ u.definitions) where
  key-same : (d : ℕ) → key_of w d ≡ key_of u d
  key-same d = ap (λ ds. key_of (record u { definitions = ds }) d) definitions

  key_if-same : (o : Option ℕ) → key_if w o ≡ key_if u o
  key_if-same None = refl
  key_if-same (Some d) = key-same d

  pub named-same : (x : ℕ) → named_of (place_of w x) ≡ named_of (place_of u x) → named_or none w x ≡ named_or none u x
  named-same x e = ap (λ k. unwrap_or k none) (ap (key_if w) e ∙ key_if-same (named_of (place_of u x)))

  pub named-is : (x d : ℕ) (v : K) → named_of (place_of w x) ≡ Some d → key_of u d ≡ Some v → named_or none w x ≡ v
  named-is x d v e f = ap (λ k. unwrap_or k none) (ap (key_if w) e ∙ (key-same d ∙ f))

  -- the row of another user is seen as it was
  pub others-named : (i j : ℕ) (row : List ℕ) → KeepsNames (place_of u) (place_of w) i → j ≢ i → IsRowOf (place_of u) row j → map (named_or none w) row ≡ map (named_or none u) row
  others-named i j row keeps n rowed = map-same _ _ row (λ k x e. let its = rowed.held k x e in named-same x (keeps x (place_at its.0 j k) its.1 n ∙ sym (ap named_of its.1)))

  module _ (row rows : List ℕ) (i : ℕ) (rowed : IsRowOf (place_of u) row i) where
    used-other : (p : ℕ) → place_of u p ≡ None → (k q : ℕ) → slice_get row k ≡ Some q → q ≢ p
    used-other p fresh k q e s = row-used (place_of u) row i rowed k q e (ap (place_of u) s ∙ fresh)

    -- the row of the user is seen with one item more or less
    pub pushed-named : (p d : ℕ) (v : K) → PushesIn (place_of u) (place_of w) row rows i p d → key_of u d ≡ Some v → map (named_or none w) rows ≡ map (named_or none u) row ++ v ∷ []
    pushed-named p d v pushes e =
        let kept : map (named_or none w) row ≡ map (named_or none u) row = map-same _ _ row (λ k x s. named-same x (ap named_of (pushes.others x (used-other p pushes.fresh k x s)))) in
        let last : named_or none w p ≡ v = named-is p d v (ap named_of pushes.here) e in
        ap (map (named_or none w)) pushes.changed ∙ map-append (named_or none w) row (p ∷ []) ∙ rw (kept, last) refl

    pub inserted-named : (k p d : ℕ) (v : K) → InsertsIn (place_of u) (place_of w) row rows i k p d → key_of u d ≡ Some v → map (named_or none w) rows ≡ insert (map (named_or none u) row) k v
    inserted-named k p d v inserts e =
        let kept : map (named_or none w) row ≡ map (named_or none u) row = map-same _ _ row (λ j x s. named-same x (ap named_of (inserts.others x (used-other p inserts.fresh j x s)) ∙ up_named i k (place_of u x))) in
        let here : named_or none w p ≡ v = named-is p d v (ap named_of inserts.here) e in
        ap (map (named_or none w)) inserts.changed ∙ map-insert (named_or none w) row k p inserts.within ∙ ap (λ xs. insert xs k (named_or none w p)) kept ∙ ap (insert (map (named_or none u) row) k) here

    pub removed-named : (k p : ℕ) → RemovesIn (place_of u) (place_of w) row rows i k p → map (named_or none w) rows ≡ remove (map (named_or none u) row) k
    removed-named k p removes =
        ap (map (named_or none w)) removes.changed
        ∙ map-same _ _ (remove row k) (λ j x s. named-same x (ap named_of (removes.others x (left j x s)) ∙ down_named i k (place_of u x)))
        ∙ map-remove (named_or none u) row k
      where
        left : (j x : ℕ) → slice_get (remove row k) j ≡ Some x → x ≢ p
        left j x s = (removed-used (place_of u) row i rowed k p removes.stood j x s).1

    -- the place at one index names another definition
    pub renamed-named : (k p d : ℕ) (v : K) → slice_get row k ≡ Some p → SetsPlace u w p (naming d (place_of u p)) → key_of u d ≡ Some v → map (named_or none w) row ≡ set (map (named_or none u) row) k v
    renamed-named k p d v stood sets e = map-set _ _ row k v here others
      where
        named_naming : (o : Option PlaceOfUse) (x : PlaceOfUse) → o ≡ Some x → named_of (naming d o) ≡ Some d
        named_naming None x h = absurd (no_place x h)
        named_naming (Some y) x h = refl

        here : (x : ℕ) → slice_get row k ≡ Some x → named_or none w x ≡ v
        here x s =
            let same : x ≡ p = let both : Some x ≡ Some p = sym s ∙ stood in cc in
            let its = rowed.held k p stood in
            ap (named_or none w) same ∙ named-is p d v (ap named_of sets.changed ∙ named_naming (place_of u p) (place_at its.0 i k) its.1) e

        others : (j x : ℕ) → j ≢ k → slice_get row j ≡ Some x → named_or none w x ≡ named_or none u x
        others j x n s = named-same x (ap named_of (sets.others x (λ h. n (row-distinct (place_of u) row i rowed j k x s (stood ∙ ap Some (sym h))))))

-- a place that names another definition stands where it stood, and so do the others
stands-self : (o : Option PlaceOfUse) → StandsAlike o o
stands-self None = refl
stands-self (Some x) = (x.definition, refl)

stands-naming : (d : ℕ) (o : Option PlaceOfUse) → StandsAlike o (naming d o)
stands-naming d None = refl
stands-naming d (Some x) = (d, refl)

pub named-alike : {K : Type 0} (u w : Uses K) (p d : ℕ) → SetsPlace u w p (naming d (place_of u p)) → (q : ℕ) → StandsAlike (place_of u q) (place_of w q)
named-alike u w p d sets q = ⊎_elim
    (λ (e : q ≡ p). subst (λ j. StandsAlike (place_of u j) (place_of w j)) (sym e) (subst (StandsAlike (place_of u p)) (sym sets.changed) (stands-naming d (place_of u p))))
    (λ ne. subst (StandsAlike (place_of u q)) (sym (sets.others q ne)) (stands-self (place_of u q)))
    (cases_eq q p)

pub renamed-keeps : {K : Type 0} (u w : Uses K) (row : List ℕ) (i : ℕ) → IsRowOf (place_of u) row i → (k p d : ℕ) → slice_get row k ≡ Some p → SetsPlace u w p (naming d (place_of u p)) → KeepsNames (place_of u) (place_of w) i
renamed-keeps u w row i rowed k p d stood sets q x e n =
    let its = rowed.held k p stood in
    let other : q ≢ p = λ s. n (user_kept x (place_at its.0 i k) (sym e ∙ (ap (place_of u) s ∙ its.1))) in
    ap named_of (sets.others q other ∙ e)
