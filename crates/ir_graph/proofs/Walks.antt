-- Half way through a list whose items an iterator gives one by one.
use Rattle.std.proofs.Common.{◌≡◌, ⊎_elim, List, [], ◌∷◌, ◌++◌, length, sym, ap, ◌∙◌, subst}
use Rattle.std.specs.Prelude.{Contains}
use Rattle.std.proofs.lemmas.List.Elements.{Contains-push_cases}
use Rattle.ir_queries.proofs.Partway.{get-middle}
use Rattle.ir_graph.specs.RegionLaws.{in_place}

module _ {X : Type 0} where
  -- what holds of each item so far and of the next holds of each of them
  pub each_more : (P : X → Type 0) (xs : List X) (x : X) → ((y : X) → Contains xs y → P y) → P x → (y : X) → Contains (xs ++ x ∷ []) y → P y
  each_more P xs x all here y k = ⊎_elim (λ (old : Contains xs y). all y old) (λ (new : x ≡ y). subst P new here) (Contains-push_cases xs x y k)

  -- the next item is one of the list
  pub next_in : (all done rest next : List X) (x : X) → rest ≡ x ∷ next → done ++ rest ≡ all → Contains all x
  next_in all done rest next x steps listed = subst (λ r. Contains r x) (ap (λ r. done ++ r) (sym steps) ∙ listed) (in_place (done ++ x ∷ next) (length done) x (get-middle done next x))
