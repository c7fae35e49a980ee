-- What the outcomes of runs show, by the states of the programs that they are runs of.
use Rattle.std.proofs.Common.{◌≡◌, ℕ, ◌+◌, ◌-◌, ◌*◌, ◌≤◌, Bool, List, sym, ap, ◌∙◌, subst, arith}
use Rattle.kit_behaviour.specs.Machine.{State, Going, Ended, Trapped, FunctionsByPath, FollowsWithin, IsPrefixOf, Shown, out_of, run, start}
use Rattle.kit_behaviour.proofs.Behaviour.RunLemmas.{ended_stays, run-add, run_out, trapped_stays}
use Rattle.kit_behaviour.proofs.Behaviour.SameEffects.{shown_trans}
use Rattle.kit_execution.specs.Outcomes.{SameOutcome}
use Rattle.kit_flat.specs.Machine as machine
use Rattle.kit_flat.specs.Shows.{OutcomeShows}
use Rattle.kit_flat.specs.declared.outcome.Outcome.{Outcome}
use Rattle.kit_flat.specs.declared.outcome.Outcome.TheVariants as outcome
use Rattle.irkit_driver.specs.Executions.{AreSameOutcomes, emissions_of, IsOver, ShowsOutcome}

-- ---- states

module _ {V : Type 0} (same : V → V → Bool) (p : FunctionsByPath V) where
  shown_on : (s : State V) (k : ℕ) → Shown {V = V} {W = V} s (run same p k s)
  shown_on (Going fs out) k = run_out same p k (Going fs out)
  shown_on (Ended ns out) k = ended_stays same p k ns out
  shown_on (Trapped out) k = trapped_stays same p k out

  -- what a run shows it shows after more steps
  pub shown_later : (s : State V) (n m : ℕ) → n ≤ m → Shown {V = V} {W = V} (run same p n s) (run same p m s)
  shown_later s n m less =
      let whole : n + (m - n) ≡ m = omega (arith, less) in
      subst (Shown {V = V} {W = V} (run same p n s)) (sym (run-add same p n (m - n) s) ∙ ap (λ k. run same p k s) whole)
      (shown_on (run same p n s) (m - n))

at_most : (k n m : ℕ) → k ≤ n → n ≤ m → k ≤ m
at_most k n m a b = omega (arith, a, b)

-- what a program shows the one that follows it shows with each limit that is large enough
pub followed : {V : Type 0} (same : V → V → Bool) (c : ℕ) (p q : FunctionsByPath V) → FollowsWithin same same c p q
    → (path xs : List ℕ) (n m : ℕ) → n * c ≤ m
    → Shown {V = V} {W = V} (run same p n (start same p path xs)) (run same q m (start same q path xs))
followed same c p q follows path xs n m less =
    let other = follows path xs n in
    shown_trans same same same (run same p n (start same p path xs)) (run same q other.0 (start same q path xs))
    (run same q m (start same q path xs)) other.2
    (shown_later same q (start same q path xs) other.0 m (at_most other.0 (n * c) m other.1 less))

-- ---- outcomes

-- the state is what the outcome says
abbrev pub Tells : {V : Type 0} → State V → Outcome → Type 0
Tells (Going fs out) (outcome.Limit emissions) = emissions.items ≡ out
Tells (Ended ns out) (outcome.Ended values emissions) = (values.items ≡ ns) × (emissions.items ≡ out)
Tells (Trapped out) (outcome.Trapped emissions) = emissions.items ≡ out
Tells _ _ = ⊥

module _ {V B F W : Type 0} where
  -- what a state of a context says the same state of a program tells
  pub tells : (x : machine.MachineState V B F) (y : State W) (a : Outcome) → SameOutcome x y → OutcomeShows x a
      → Tells {V = W} y a
  tells (machine.Going fs out) (Going gs sent) (outcome.Limit emissions) same is =
      let e = is.1 in
      let at : out ≡ emissions.items = cc in sym at ∙ same
  tells (machine.Going fs out) (Going gs sent) (outcome.Ended values emissions) same is = cc
  tells (machine.Going fs out) (Going gs sent) (outcome.Trapped emissions) same is = cc
  tells (machine.Ended ns out) (Ended ms sent) (outcome.Ended values emissions) same is =
      let first : ns ≡ values.items = cc in
      let at : out ≡ emissions.items = cc in
      (sym first ∙ same.0, sym at ∙ same.1)
  tells (machine.Ended ns out) (Ended ms sent) (outcome.Limit emissions) same is = let e = is.1 in cc
  tells (machine.Ended ns out) (Ended ms sent) (outcome.Trapped emissions) same is = cc
  tells (machine.Trapped out) (Trapped sent) (outcome.Trapped emissions) same is =
      let at : out ≡ emissions.items = cc in sym at ∙ same
  tells (machine.Trapped out) (Trapped sent) (outcome.Limit emissions) same is = let e = is.1 in cc
  tells (machine.Trapped out) (Trapped sent) (outcome.Ended values emissions) same is = cc
  tells (machine.Going fs out) (Ended ms sent) a same is = absurd same
  tells (machine.Going fs out) (Trapped sent) a same is = absurd same
  tells (machine.Ended ns out) (Going gs sent) a same is = absurd same
  tells (machine.Ended ns out) (Trapped sent) a same is = absurd same
  tells (machine.Trapped out) (Going gs sent) a same is = absurd same
  tells (machine.Trapped out) (Ended ms sent) a same is = absurd same

  -- and what a state of a program tells the same state of a context says
  pub told : (x : machine.MachineState V B F) (y : State W) (a : Outcome) → SameOutcome x y → Tells {V = W} y a
      → OutcomeShows x a
  told (machine.Going fs out) (Going gs sent) (outcome.Limit emissions) same h =
      (fs, ap (machine.Going fs) (same ∙ sym h))
  told (machine.Ended ns out) (Ended ms sent) (outcome.Ended values emissions) same h =
      ap (λ l. machine.Ended l out) (same.0 ∙ sym h.0) ∙ ap (machine.Ended values.items) (same.1 ∙ sym h.1)
  told (machine.Trapped out) (Trapped sent) (outcome.Trapped emissions) same h = ap machine.Trapped (same ∙ sym h)
  told (machine.Going fs out) (Going gs sent) (outcome.Ended values emissions) same h = absurd h
  told (machine.Going fs out) (Going gs sent) (outcome.Trapped emissions) same h = absurd h
  told (machine.Ended ns out) (Ended ms sent) (outcome.Limit emissions) same h = absurd h
  told (machine.Ended ns out) (Ended ms sent) (outcome.Trapped emissions) same h = absurd h
  told (machine.Trapped out) (Trapped sent) (outcome.Limit emissions) same h = absurd h
  told (machine.Trapped out) (Trapped sent) (outcome.Ended values emissions) same h = absurd h
  told (machine.Going fs out) (Ended ms sent) a same h = absurd same
  told (machine.Going fs out) (Trapped sent) a same h = absurd same
  told (machine.Ended ns out) (Going gs sent) a same h = absurd same
  told (machine.Ended ns out) (Trapped sent) a same h = absurd same
  told (machine.Trapped out) (Going gs sent) a same h = absurd same
  told (machine.Trapped out) (Ended ms sent) a same h = absurd same

module _ {V : Type 0} where
  -- a state that is over is what is shown of it
  pub over_shown : (s t : State V) (a : Outcome) → IsOver a → Tells {V = V} s a → Shown {V = V} {W = V} s t
      → Tells {V = V} t a
  over_shown (Ended ns out) t (outcome.Ended values emissions) over h shown =
      subst (λ z. Tells {V = V} z (outcome.Ended values emissions)) (sym shown) h
  over_shown (Trapped out) t (outcome.Trapped emissions) over h shown =
      subst (λ z. Tells {V = V} z (outcome.Trapped emissions)) (sym shown) h
  over_shown s t (outcome.Limit emissions) over h shown = absurd over
  over_shown (Going fs out) t (outcome.Ended values emissions) over h shown = absurd h
  over_shown (Going fs out) t (outcome.Trapped emissions) over h shown = absurd h
  over_shown (Ended ns out) t (outcome.Trapped emissions) over h shown = absurd h
  over_shown (Trapped out) t (outcome.Ended values emissions) over h shown = absurd h

  -- outcomes of one state are the same
  pub one_outcome : (s : State V) (a b : Outcome) → Tells {V = V} s a → Tells {V = V} s b → AreSameOutcomes a b
  one_outcome (Going fs out) (outcome.Limit emissions) (outcome.Limit sent) h k = h ∙ sym k
  one_outcome (Ended ns out) (outcome.Ended values emissions) (outcome.Ended others sent) h k =
      (h.0 ∙ sym k.0, h.1 ∙ sym k.1)
  one_outcome (Trapped out) (outcome.Trapped emissions) (outcome.Trapped sent) h k = h ∙ sym k
  one_outcome (Going fs out) (outcome.Limit emissions) (outcome.Ended others sent) h k = absurd k
  one_outcome (Going fs out) (outcome.Limit emissions) (outcome.Trapped sent) h k = absurd k
  one_outcome (Going fs out) (outcome.Ended values emissions) b h k = absurd h
  one_outcome (Going fs out) (outcome.Trapped emissions) b h k = absurd h
  one_outcome (Ended ns out) (outcome.Ended values emissions) (outcome.Limit sent) h k = absurd k
  one_outcome (Ended ns out) (outcome.Ended values emissions) (outcome.Trapped sent) h k = absurd k
  one_outcome (Ended ns out) (outcome.Limit emissions) b h k = absurd h
  one_outcome (Ended ns out) (outcome.Trapped emissions) b h k = absurd h
  one_outcome (Trapped out) (outcome.Trapped emissions) (outcome.Limit sent) h k = absurd k
  one_outcome (Trapped out) (outcome.Trapped emissions) (outcome.Ended others sent) h k = absurd k
  one_outcome (Trapped out) (outcome.Limit emissions) b h k = absurd h
  one_outcome (Trapped out) (outcome.Ended values emissions) b h k = absurd h

  sent_is : (s : State V) (b : Outcome) → Tells {V = V} s b → emissions_of b ≡ out_of s
  sent_is (Going fs out) (outcome.Limit sent) k = k
  sent_is (Ended ns out) (outcome.Ended others sent) k = k.1
  sent_is (Trapped out) (outcome.Trapped sent) k = k
  sent_is (Going fs out) (outcome.Ended others sent) k = absurd k
  sent_is (Going fs out) (outcome.Trapped sent) k = absurd k
  sent_is (Ended ns out) (outcome.Limit sent) k = absurd k
  sent_is (Ended ns out) (outcome.Trapped sent) k = absurd k
  sent_is (Trapped out) (outcome.Limit sent) k = absurd k
  sent_is (Trapped out) (outcome.Ended others sent) k = absurd k

  -- what a state shows its outcome does
  pub shows : (s t : State V) (a b : Outcome) → Tells {V = V} s a → Tells {V = V} t b → Shown {V = V} {W = V} s t
      → ShowsOutcome a b
  shows (Going fs out) t (outcome.Limit emissions) b h k shown =
      subst (λ xs. IsPrefixOf xs (emissions_of b)) (sym h) (subst (IsPrefixOf out) (sym (sent_is t b k)) shown)
  shows (Ended ns out) t (outcome.Ended values emissions) b h k shown =
      one_outcome (Ended ns out) (outcome.Ended values emissions) b h (subst (λ s. Tells {V = V} s b) shown k)
  shows (Trapped out) t (outcome.Trapped emissions) b h k shown =
      one_outcome (Trapped out) (outcome.Trapped emissions) b h (subst (λ s. Tells {V = V} s b) shown k)
  shows (Going fs out) t (outcome.Ended values emissions) b h k shown = absurd h
  shows (Going fs out) t (outcome.Trapped emissions) b h k shown = absurd h
  shows (Ended ns out) t (outcome.Limit emissions) b h k shown = absurd h
  shows (Ended ns out) t (outcome.Trapped emissions) b h k shown = absurd h
  shows (Trapped out) t (outcome.Limit emissions) b h k shown = absurd h
  shows (Trapped out) t (outcome.Ended values emissions) b h k shown = absurd h
