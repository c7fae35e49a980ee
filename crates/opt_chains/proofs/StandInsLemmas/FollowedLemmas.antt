-- What is followed by numbers is followed in the tree.
use Rattle.std.proofs.Common.{◌≡◌, ⊎_elim, ℕ, ◌<◌, List, length, Option, Some, None, slice_get, refl, sym, ap, ◌∙◌, subst, arith}
use Rattle.ir_program.specs.declared.handles.Value.{Value}
use Rattle.ir_trees.specs.Searched.{Lists}
use Rattle.ir_trees.specs.Stands.{by_handle, in_program, ProgramTree}
use Rattle.opt_rows.specs.Chains.{EndsUpAt as FollowsNumbers, stops as stops_at, goes_on as goes_on_to, StepsAlong as ChasesNumbers, goes as goes_to, goes_by as goes_by_to}
use Rattle.opt_solvers.specs.ChainsFollowed.{AreLinksInRange}
use Rattle.opt_trees.specs.Dialect.{Dialect}
use Rattle.opt_trees.specs.Simplify.{StartingRegions, IsGiven, Follows, stops, goes_on, Chases, goes, goes_by, ComesBack}
use Rattle.opt_chains.specs.stand_ins.Tables.{IsGivenTable, AreNumbersOf, IsEnd}
use Rattle.opt_chains.proofs.StandInsLemmas.TableLemmas.{same_some, in_length, element}

module _ (next : List (Option ℕ)) where
  -- where following begins and ends in range
  pub end_in_range : AreLinksInRange next → (n e : ℕ) → FollowsNumbers next n e → n < length next → e < length next
  end_in_range range _ _ (stops_at n none) less = less
  end_in_range range _ _ (goes_on_to n m e step rest) less = end_in_range range m e rest (range n m step)

  first_step : (n m : ℕ) → ChasesNumbers next n m → (k : ℕ) × (slice_get next n ≡ Some (Some k))
  first_step _ _ (goes_to n m step) = (m, step)
  first_step _ _ (goes_by_to n k m step rest) = (k, step)

module _ (keys : List Value) (given : List (Option Value)) (next : List (Option ℕ)) (numbers : AreNumbersOf keys given next) where
  -- what a number leads to is the number of what is given
  pub step_named : (n m : ℕ) → slice_get next n ≡ Some (Some m) → (u : Value) × (slice_get given n ≡ Some (Some u)) × (slice_get keys m ≡ Some u)
  step_named n m step =
      let less = in_length next n (Some m) step in
      let entry = element given n (omega (arith, less, numbers.len)) in
      let u = ((numbers.each n entry.0 (Some m) entry.1 step) m).0 refl in
      (u.0, entry.1 ∙ ap Some u.1, u.2)

  pub step_there : (n m : ℕ) (u : Value) → slice_get given n ≡ Some (Some u) → slice_get keys m ≡ Some u → slice_get next n ≡ Some (Some m)
  step_there n m u here at =
      let less = in_length given n (Some u) here in
      let number = element next n (omega (arith, less, numbers.len)) in
      let is = ((numbers.each n (Some u) number.0 here number.1) m).1 (u, refl, at) in
      number.1 ∙ ap Some is

  pub steps_in_range : length given ≡ length keys → AreLinksInRange next
  steps_in_range len n m step =
      let s = step_named n m step in
      let less = in_length keys m s.0 s.2 in
      omega (arith, less, len, numbers.len)

module _ {O B A : Type 0} (d : Dialect (in_program O B) A) (place : StartingRegions by_handle) (t : ProgramTree O B) where
  -- following ends at a value to which nothing is given
  pub end_is_last : (v x : Value) → Follows d place t v x → (u : Value) → IsGiven d place t x u → ⊥
  end_is_last _ _ (stops v none) u g = none u g
  end_is_last _ _ (goes_on v w x step rest) u g = end_is_last w x rest u g

  -- what holds of all that is given holds of what is followed
  pub holds_at_end : (P : Value → Type 0) → ((v u : Value) → IsGiven d place t v u → P u) → (v x : Value) → Follows d place t v x → P v → P x
  holds_at_end P each _ _ (stops v none) h = h
  holds_at_end P each _ _ (goes_on v w x step rest) h = holds_at_end P each w x rest (each v w step)

  first_given : (v w : Value) → Chases d place t v w → (u : Value) × IsGiven d place t v u
  first_given _ _ (goes v u step) = (u, step)
  first_given _ _ (goes_by v u x step rest) = (u, step)

  module _ (keys : List Value) (given : List (Option Value)) (table : IsGivenTable keys (IsGiven d place t) given) (one : (v u w : Value) → IsGiven d place t v u → IsGiven d place t v w → u ≡ w) (numbered : (v u : Value) → IsGiven d place t v u → Lists keys v)
      (next : List (Option ℕ)) (numbers : AreNumbersOf keys given next) where
    -- what the table has is given to the value with that number
    given_at : (n : ℕ) (v u : Value) → slice_get keys n ≡ Some v → slice_get given n ≡ Some (Some u) → IsGiven d place t v u
    given_at n v u at here = let s = table.sound n u here in subst (λ z. IsGiven d place t z u) (same_some (slice_get keys n) s.0 v s.1 at) s.2

    exact : (n : ℕ) (v u : Value) → slice_get keys n ≡ Some v → IsGiven d place t v u → slice_get given n ≡ Some (Some u)
    exact n v u at g = let w = table.all n v u at g in w.1 ∙ ap (λ z. Some (Some z)) (one v w.0 u (given_at n v w.0 at w.1) g)

    pub ends_followed : (n e : ℕ) → FollowsNumbers next n e → (v x : Value) → slice_get keys n ≡ Some v → IsEnd keys given e x → Follows d place t v x
    ends_followed _ _ (stops_at n none) v x at end = ⊎_elim
        (λ (here : slice_get given n ≡ Some (Some x)).
        goes_on v x x (given_at n v x at here) (stops x (λ u g. let m = numbered x u g in none m.0 (step_there keys given next numbers n m.0 x here m.1))))
        (λ here.
        subst (λ z. Follows d place t v z) (same_some (slice_get keys n) v x at here.1) (stops v (λ u g. let w = table.all n v u at g in let e : Some None ≡ Some (Some w.0) = sym here.0 ∙ w.1 in cc)))
        end
    ends_followed _ _ (goes_on_to n m e step rest) v x at end =
        let s = step_named keys given next numbers n m step in
        goes_on v s.0 x (given_at n v s.0 at s.1) (ends_followed m e rest s.0 x s.2 end)

    chased : (n m : ℕ) → ChasesNumbers next n m → (v w : Value) → slice_get keys n ≡ Some v → slice_get keys m ≡ Some w → Chases d place t v w
    chased _ _ (goes_to n m step) v w at to =
        let s = step_named keys given next numbers n m step in
        goes v w (subst (λ z. IsGiven d place t v z) (same_some (slice_get keys m) s.0 w s.2 to) (given_at n v s.0 at s.1))
    chased _ _ (goes_by_to n k m step rest) v w at to =
        let s = step_named keys given next numbers n k step in
        goes_by v s.0 w (given_at n v s.0 at s.1) (chased k m rest s.0 w s.2 to)

    pub comes_back : (n : ℕ) → ChasesNumbers next n n → ComesBack d place t
    comes_back n chases =
        let f = first_step next n n chases in
        let s = step_named keys given next numbers n f.0 f.1 in
        let v = table.sound n s.0 s.1 in
        record { argument = v.0; loop = chased n n chases v.0 v.0 v.1 v.1 }

    numbers_chased : (v w : Value) → Chases d place t v w → (n m : ℕ) → slice_get keys n ≡ Some v → slice_get keys m ≡ Some w → ChasesNumbers next n m
    numbers_chased _ _ (goes v w step) n m at to = goes_to n m (step_there keys given next numbers n m w (exact n v w at step) to)
    numbers_chased _ _ (goes_by v u w step rest) n m at to =
        let f = first_given u w rest in
        let k = numbered u f.0 f.1 in
        goes_by_to n k.0 m (step_there keys given next numbers n k.0 u (exact n v u at step) k.1) (numbers_chased u w rest k.0 m k.1 to)

    pub never_back : ((n : ℕ) → ChasesNumbers next n n → ⊥) → ComesBack d place t → ⊥
    never_back never back =
        let f = first_given back.argument back.argument back.loop in
        let n = numbered back.argument f.0 f.1 in
        never n.0 (numbers_chased back.argument back.argument back.loop n.0 n.0 n.1 n.1)
