-- Sets of blocks that are filled in the order of a region.
use Rattle.std.proofs.Common.{◌≡◌, ◌≢◌, true≢false, ◌⊎◌, inl, inr, ℕ, zero, suc, ◌<◌, Bool, true, List, [], ◌∷◌, ◌++◌, length, Some, slice_get, refl, sym, ap, ◌∙◌, subst, arith, ⊎_elim}
use Rattle.std.proofs.lemmas.Option.{same_Some}
use Rattle.std.specs.Prelude.{map}
use Rattle.std.proofs.lemmas.List.{map-append}
use Rattle.indexmap.specs.IndexSet.{insert_key}
use Rattle.ir_program.specs.Lists.{StandOnce}
use Rattle.ir_program.specs.declared.handles.Ptr.{Ptr}
use Rattle.ir_program.specs.declared.handles.BasicBlock.{BasicBlock}
use Rattle.ir_program.specs.declared.handles.Region.{Region}
use Rattle.ir_program.proofs.used.Renames.{IsTestOf}
use Rattle.ir_trees.specs.Searched.{AreDistinct, Lists}
use Rattle.opt_trees.specs.Occurrences.{Has}
use Rattle.opt_inside.proofs.Lookups.{added}

-- where an item of the front of a list is
has_front : {X : Type 0} (done rest : List X) (x : X) → Has x done → (j : ℕ) × (j < length done)
    × (slice_get (done ++ rest) j ≡ Some x)
has_front [] rest x h = absurd h
has_front (d ∷ done) rest x h = ⊎_elim
    (λ (e : x ≡ d). (0, omega arith, ap Some (sym e)))
    (λ (t : Has x done). let g = has_front done rest x t in (suc g.0, omega (arith, g.1), g.2))
    h

at_end : {X : Type 0} (done rest : List X) (x : X) → slice_get (done ++ x ∷ rest) (length done) ≡ Some x
at_end [] rest x = refl
at_end (d ∷ done) rest x = at_end done rest x

-- the next of distinct items isn't among those before it
pub lacks_next : {X : Type 0} (done rest : List X) (x : X) → AreDistinct (done ++ x ∷ rest) → Has x done → ⊥
lacks_next done rest x distinct h =
    let g = has_front done (x ∷ rest) x h in
    let e : g.0 ≡ length done = distinct g.0 (length done) x g.2 (at_end done rest x) in
    omega (arith, g.1, e)

pub put_next : {X : Type 0} (eq : X → X → Bool) → ((a b : X) → eq a b ≡ true → a ≡ b)
    → (done rest next keys after : List X) (x : X) → AreDistinct (done ++ rest) → rest ≡ x ∷ next → keys ≡ done
    → after ≡ insert_key eq keys x → after ≡ done ++ x ∷ []
put_next eq same done rest next keys after x distinct e k is =
    added eq same done after x
    (λ y i h. ⊎_elim
    (λ (s : y ≡ x). lacks_next done next x (subst (λ l. AreDistinct (done ++ l)) e distinct)
    (subst (λ z. Has z done) s h))
    (λ (n : Has y []). n)
    i)
    (is ∙ ap (λ l. insert_key eq l x) k)

pub once_in : (listed : Ptr Region → List (Ptr BasicBlock)) → StandOnce listed → (r : Ptr Region)
    → AreDistinct (listed r)
once_in listed once r = λ j k x a b. (once x r r j k a b).1

-- what passes a test of sameness is the same
pub tested : {X : Type 0} (same : X → X → Bool) → IsTestOf same → (a b : X) → same a b ≡ true → a ≡ b
tested same test a b e = ⊎_elim (λ (q : a ≡ b). q) (λ (n : a ≢ b). absurd (true≢false (sym e ∙ test.no a b n)))
    (test.decide a b)

-- the next one of a list is listed
pub listed_next : {X : Type 0} (all done rest next : List X) (x : X) → done ++ rest ≡ all → rest ≡ x ∷ next
    → Lists all x
listed_next all done rest next x h e = (
  length done,
  ap (λ l. slice_get l (length done))
      (sym h ∙ ap (λ r. done ++ r) e) ∙ at_end done next x,
)

last_or : {X : Type 0} (row : List X) (y : X) (i : ℕ) (x : X) → slice_get (row ++ y ∷ []) i ≡ Some x
    → (slice_get row i ≡ Some x) ⊎ ((i ≡ length row) × (x ≡ y))
last_or [] y zero x e = inr (refl, same_Some x y (sym e))
last_or [] y (suc i) x e = cc
last_or (d ∷ row) y zero x e = inl e
last_or (d ∷ row) y (suc i) x e = ⊎_elim inl (λ (r : (i ≡ length row) × (x ≡ y)). inr (ap suc r.0, r.1))
    (last_or row y i x e)

-- rows that get one more, of which something holds at each index
pub next_each : {Y : Type 0} (P : ℕ → Y → Type 0) (row row' : List Y) (y : Y) → row' ≡ row ++ y ∷ []
    → ((i : ℕ) (x : Y) → slice_get row i ≡ Some x → P i x) → P (length row) y → (i : ℕ) (x : Y)
    → slice_get row' i ≡ Some x → P i x
next_each {Y} P row row' y e h p i x at = ⊎_elim
    (λ (o : slice_get row i ≡ Some x). h i x o)
    (λ (r : (i ≡ length row) × (x ≡ y)). subst (λ (j : ℕ). P j x) (sym r.0) (subst (P (length row)) (sym r.1) p))
    (last_or row y i x (ap (λ (l : List Y). slice_get l i) (sym e) ∙ at))

-- rows that are filled side by side
pub next_same : {X Y Z : Type 0} (f : X → Z) (g : Y → Z) (done : List X) (x : X) (row row' : List Y) (y : Y)
    → row' ≡ row ++ y ∷ [] → f x ≡ g y → map f done ≡ map g row → map f (done ++ x ∷ []) ≡ map g row'
next_same f g done x row row' y e s h = map-append f done (x ∷ []) ∙ (λ i. h i ++ s i ∷ [])
    ∙ sym (map-append g row (y ∷ [])) ∙ ap (map g) (sym e)
