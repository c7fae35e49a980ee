-- Programs that behave alike step by step have the same outcome after as many steps.
use Rattle.std.proofs.Common.{◌≡◌, ℕ, ◌+◌, ◌-◌, ◌*◌, ◌≤◌, Bool, List, [], ◌∷◌, ◌++◌, length, refl, sym, ap, ◌∙◌, subst}
use Rattle.std.proofs.Common.{arith}
use Rattle.std.proofs.lemmas.List.{append-nil, length-append}
use Rattle.kit_behaviour.specs.Machine.{Frame, State, Going, Ended, Trapped, FunctionsByPath, run, start, out_of, IsPrefixOf}
use Rattle.kit_behaviour.specs.Machine.{Shown, Alike}
use Rattle.kit_behaviour.proofs.Behaviour.RunLemmas.{run-add, ended_stays, trapped_stays, run_out, prefix_trans}
use Rattle.kit_flat.specs.Machine as machine
use Rattle.kit_execution.specs.Outcomes.{SameOutcome}

-- both go on, or have ended with the same values, or have trapped; what was emitted is the same
abbrev pub BothSame : {V W : Type 0} → State V → State W → Type 0
BothSame (Going fs out) (Going gs emissions) = out ≡ emissions
BothSame (Ended xs out) (Ended ys emissions) = (xs ≡ ys) × (out ≡ emissions)
BothSame (Trapped out) (Trapped emissions) = out ≡ emissions
BothSame _ _ = ⊥

-- one after the other
pub outcome_on : {V B F U W : Type 0} (x : machine.MachineState V B F) (y : State U) (z : State W) → SameOutcome x y →
    BothSame y z → SameOutcome x z
outcome_on (machine.Going fs out) (Going gs emissions) (Going hs more) a b = a ∙ b
outcome_on (machine.Ended xs out) (Ended ys emissions) (Ended zs more) a b = (a.0 ∙ b.0, a.1 ∙ b.1)
outcome_on (machine.Trapped out) (Trapped emissions) (Trapped more) a b = a ∙ b
outcome_on (machine.Going fs out) (Ended ys emissions) z a b = absurd a
outcome_on (machine.Going fs out) (Trapped emissions) z a b = absurd a
outcome_on (machine.Ended xs out) (Going gs emissions) z a b = absurd a
outcome_on (machine.Ended xs out) (Trapped emissions) z a b = absurd a
outcome_on (machine.Trapped out) (Going gs emissions) z a b = absurd a
outcome_on (machine.Trapped out) (Ended ys emissions) z a b = absurd a
outcome_on (machine.Going fs out) (Going gs emissions) (Ended zs more) a b = absurd b
outcome_on (machine.Going fs out) (Going gs emissions) (Trapped more) a b = absurd b
outcome_on (machine.Ended xs out) (Ended ys emissions) (Going hs more) a b = absurd b
outcome_on (machine.Ended xs out) (Ended ys emissions) (Trapped more) a b = absurd b
outcome_on (machine.Trapped out) (Trapped emissions) (Going hs more) a b = absurd b
outcome_on (machine.Trapped out) (Trapped emissions) (Ended zs more) a b = absurd b

-- a run that goes on isn't over
not_ended : {V : Type 0} (fs : List (Frame V)) (out values emissions : List ℕ) →
    Going fs out ≡ Ended values emissions → ⊥
not_ended fs out values emissions e = cc e

not_trapped : {V : Type 0} (fs : List (Frame V)) (out emissions : List ℕ) → Going fs out ≡ Trapped emissions → ⊥
not_trapped fs out emissions e = cc e

none_left : (xs : List ℕ) → length xs ≡ 0 → xs ≡ []
none_left [] h = refl
none_left (x ∷ xs) h = absurd (omega (arith, h))

-- each is a beginning of the other
both_begin : (xs ys : List ℕ) → IsPrefixOf xs ys → IsPrefixOf ys xs → xs ≡ ys
both_begin xs ys a b =
    let one : length xs + length a.0 ≡ length ys = sym (length-append xs a.0) ∙ ap length a.1 in
    let two : length ys + length b.0 ≡ length xs = sym (length-append ys b.0) ∙ ap length b.1 in
    let none : a.0 ≡ [] = none_left a.0 (omega (arith, one, two)) in
    sym (append-nil xs) ∙ ap (λ l. xs ++ l) (sym none) ∙ a.1

module _ {V : Type 0} (same : V → V → Bool) (p : FunctionsByPath V) (path xs : List ℕ) where
  abbrev after : ℕ → State V
  after n = run same p n (start same p path xs)

  later : (m n : ℕ) → m ≤ n * 1 → after n ≡ run same p (n - m) (after m)
  later m n few =
      let split : n ≡ m + (n - m) = omega (arith, few) in
      ap after split ∙ run-add same p m (n - m) (start same p path xs)

  ended_later : (m n : ℕ) (values out : List ℕ) → m ≤ n * 1 → after m ≡ Ended values out → after n ≡ Ended values out
  ended_later m n values out few is =
      later m n few ∙ ap (run same p (n - m)) is ∙ ended_stays same p (n - m) values out

  trapped_later : (m n : ℕ) (out : List ℕ) → m ≤ n * 1 → after m ≡ Trapped out → after n ≡ Trapped out
  trapped_later m n out few is =
      later m n few ∙ ap (run same p (n - m)) is ∙ trapped_stays same p (n - m) out

  out_later : (m n : ℕ) (out : List ℕ) → m ≤ n * 1 → IsPrefixOf out (out_of (after m)) →
      IsPrefixOf out (out_of (after n))
  out_later m n out few begins =
      subst (λ s. IsPrefixOf out (out_of s)) (sym (later m n few))
      (prefix_trans out (out_of (after m)) (out_of (run same p (n - m) (after m))) begins
      (run_out same p (n - m) (after m)))

module _ {V W : Type 0} (same : V → V → Bool) (other : W → W → Bool) (p : FunctionsByPath V) (q : FunctionsByPath W)
    (alike : Alike same other 1 p q) (path xs : List ℕ) (n : ℕ) where
  abbrev left : State V
  left = run same p n (start same p path xs)

  abbrev right : State W
  right = run other q n (start other q path xs)

  both_same : (x : State V) (y : State W) → left ≡ x → right ≡ y → BothSame x y
  both_same (Ended values out) y e f =
      let a = alike.there path xs n in
      let shown : Shown {V = V} {W = W} (Ended values out) (run other q a.0 (start other q path xs)) =
      subst (λ s. Shown {V = V} {W = W} s (run other q a.0 (start other q path xs))) e a.2 in
      let is : y ≡ Ended values out = sym f ∙ ended_later other q path xs a.0 n values out a.1 shown in
      subst (BothSame {V = V} {W = W} (Ended values out)) (sym is) (refl, refl)
  both_same (Trapped out) y e f =
      let a = alike.there path xs n in
      let shown : Shown {V = V} {W = W} (Trapped out) (run other q a.0 (start other q path xs)) =
      subst (λ s. Shown {V = V} {W = W} s (run other q a.0 (start other q path xs))) e a.2 in
      let is : y ≡ Trapped out = sym f ∙ trapped_later other q path xs a.0 n out a.1 shown in
      subst (BothSame {V = V} {W = W} (Trapped out)) (sym is) refl
  both_same (Going fs out) (Ended values emissions) e f =
      let b = alike.back path xs n in
      let shown : Shown {V = W} {W = V} (Ended values emissions) (run same p b.0 (start same p path xs)) =
      subst (λ s. Shown {V = W} {W = V} s (run same p b.0 (start same p path xs))) f b.2 in
      absurd (not_ended fs out values emissions
      (sym e ∙ ended_later same p path xs b.0 n values emissions b.1 shown))
  both_same (Going fs out) (Trapped emissions) e f =
      let b = alike.back path xs n in
      let shown : Shown {V = W} {W = V} (Trapped emissions) (run same p b.0 (start same p path xs)) =
      subst (λ s. Shown {V = W} {W = V} s (run same p b.0 (start same p path xs))) f b.2 in
      absurd (not_trapped fs out emissions (sym e ∙ trapped_later same p path xs b.0 n emissions b.1 shown))
  both_same (Going fs out) (Going gs emissions) e f =
      let a = alike.there path xs n in
      let b = alike.back path xs n in
      let there : IsPrefixOf out (out_of (run other q a.0 (start other q path xs))) =
      subst (λ s. Shown {V = V} {W = W} s (run other q a.0 (start other q path xs))) e a.2 in
      let back : IsPrefixOf emissions (out_of (run same p b.0 (start same p path xs))) =
      subst (λ s. Shown {V = W} {W = V} s (run same p b.0 (start same p path xs))) f b.2 in
      both_begin out emissions
      (subst (λ s. IsPrefixOf out (out_of s)) f (out_later other q path xs a.0 n out a.1 there))
      (subst (λ s. IsPrefixOf emissions (out_of s)) e (out_later same p path xs b.0 n emissions b.1 back))

  pub outcomes_same : BothSame left right
  outcomes_same = both_same left right refl refl
