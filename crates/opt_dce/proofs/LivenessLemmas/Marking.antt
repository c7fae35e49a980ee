-- Marks on numbers.
use Rattle.std.proofs.Common.{◌≡◌, ⊎_elim, ℕ, ◌<◌, Bool, true, false, ◌||◌, List, [], ◌∷◌, Option, Some, None, zero, suc, length, slice_get, refl, sym, ap, subst, ◌∙◌, arith}
use Rattle.std.specs.Prelude.{not, option_map, ◌↔◌}
use Rattle.std.specs.List.{list_any}
use Rattle.std.proofs.lemmas.Option.{slice_get_cases, slice_get_within}
use Rattle.ir_program.specs.Program.{TypedValue, value_in}
use Rattle.ir_program.specs.declared.handles.Value.{Value}
use Rattle.ir_trees.specs.Searched.{AreDistinct}
use Rattle.opt_dce.specs.liveness.Problems.{IsNumberAmong}
use Rattle.opt_dce.specs.liveness.Taken.{HasMarkAt}
use Rattle.opt_dce.proofs.LivenessLemmas.Ground.{none_or}

pub number_marked : {X : Type 0} (keys : List X) (v : X) (o : Option ℕ) (marks : List Bool) → IsNumberAmong keys v o → ((x : ℕ) × (o ≡ Some x) × HasMarkAt marks x) → (x : ℕ) × (slice_get keys x ≡ Some v) × HasMarkAt marks x
number_marked keys v o marks number w = (w.0, number.found w.0 w.1, w.2)

pub marked_number : {X : Type 0} (keys : List X) → AreDistinct keys → (v : X) (o : Option ℕ) (marks : List Bool) → IsNumberAmong keys v o → ((x : ℕ) × (slice_get keys x ≡ Some v) × HasMarkAt marks x) → (x : ℕ) × (o ≡ Some x) × HasMarkAt marks x
marked_number keys once v o marks number w = ⊎_elim
    (λ e. absurd (number.none e (w.0, w.1)))
    (λ x. (x.0, x.1, subst (HasMarkAt marks) (once w.0 x.0 v w.1 (number.found x.0 x.1)) w.2))
    (none_or o)

pub value_within : (ts : List TypedValue) (i : ℕ) (v : Value) → value_in ts i ≡ Some v → i < length ts
value_within ts i v h = ⊎_elim
    (λ e. let gone : value_in ts i ≡ None = ap (option_map (λ (t : TypedValue). t.value)) e in absurd (cc (gone, h)))
    (λ t. slice_get_within ts i t.0 t.1)
    (none_or (slice_get ts i))

-- a search for marks finds one exactly where there is one
pub any_marked : (test : Bool → Bool) → test true ≡ true → test false ≡ false → (xs : List Bool) → (list_any test xs ≡ true) ↔ ((i : ℕ) × HasMarkAt xs i)
any_marked test yes_is no_is [] = (λ e. absurd (cc e), λ w. absurd (cc w.1))
any_marked test yes_is no_is (true ∷ xs) = (λ e. (zero, refl), λ w. ap (λ b. b || list_any test xs) yes_is)
any_marked test yes_is no_is (false ∷ xs) =
    let rest = any_marked test yes_is no_is xs in
    let skip : (test false || list_any test xs) ≡ list_any test xs = ap (λ b. b || list_any test xs) no_is in (
      λ e. let w = rest.0 (sym skip ∙ e) in (suc w.0, w.1),
      λ w. skip ∙ rest.1 (behind w.0 w.1),
    )
  where
    behind : (i : ℕ) → HasMarkAt (false ∷ xs) i → (k : ℕ) × HasMarkAt xs k
    behind zero h = absurd (cc h)
    behind (suc k) h = (k, h)

pub value_there : (ts : List TypedValue) (i : ℕ) → i < length ts → (v : Value) × (value_in ts i ≡ Some v)
value_there ts i lt = ⊎_elim
    (λ w. (w.0.value, ap (option_map (λ (t : TypedValue). t.value)) w.2))
    (λ w. let past = w.0 in absurd (omega arith))
    (slice_get_cases ts i).1

pub not_yes : (b : Bool) → not b ≡ true → b ≡ false
not_yes true e = sym e
not_yes false e = refl

pub yes_not : (b : Bool) → b ≡ false → not b ≡ true
yes_not true e = sym e
yes_not false e = refl
