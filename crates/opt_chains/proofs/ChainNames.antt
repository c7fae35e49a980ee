-- Steps on numbers and steps on blocks, one by one.
use Rattle.std.proofs.Common.{◌≡◌, ◌⊎◌, inl, inr, ⊎_elim, ℕ, zero, suc, ◌+◌, ◌<◌, List, [], ◌∷◌, ◌++◌, length, Option, Some, None, slice_get, refl, sym, ap, ◌∙◌, subst, arith}
use Rattle.std.proofs.lemmas.List.{length-append}
use Rattle.ir_program.specs.Program.{Program}
use Rattle.ir_program.specs.declared.handles.Ptr.{Ptr}
use Rattle.ir_program.specs.declared.handles.Operation.{Operation}
use Rattle.ir_program.specs.declared.handles.BasicBlock.{BasicBlock}
use Rattle.ir_trees.specs.Searched.{AreDistinct}
use Rattle.ir_trees.specs.Stands.{in_program}
use Rattle.opt_trees.specs.Dialect.{Dialect}
use Rattle.opt_chains.specs.Exits.{IsBareExit}
use Rattle.opt_chains.specs.NamedSteps.{HasExit, IsNamedStep, AreNamedSteps}
use Rattle.opt_chains.specs.declared.chain_exits.Exit.{Exit}
use Rattle.opt_chains.specs.declared.chain_steps.ChainStep.{ChainStep}
use Rattle.opt_chains.specs.declared.merging.Join.{Join}
use Rattle.opt_chains.proofs.ChainHandles.{AreMatched, none_matched, one_matched}
use Rattle.opt_chains.proofs.MergeLists.{none_listed, same_some}

-- what is at an index of a list with one more behind it, and where that is
pub at_more : {X : Type 0} (xs : List X) (x y : X) (k : ℕ) → slice_get (xs ++ x ∷ []) k ≡ Some y → (slice_get xs k ≡ Some y) ⊎ ((y ≡ x) × (k ≡ length xs))
at_more [] x y zero h = let s : Some x ≡ Some y = h in let e : y ≡ x = cc in inr (e, refl)
at_more [] x y (suc k) h = absurd (none_listed k y h)
at_more (z ∷ xs) x y zero h = inl h
at_more (z ∷ xs) x y (suc k) h = ⊎_elim (λ l. inl l) (λ r. inr (r.0, ap suc r.1)) (at_more xs x y k h)

pub below_length : {X : Type 0} (xs : List X) (k : ℕ) (x : X) → slice_get xs k ≡ Some x → k < length xs
below_length [] k x h = absurd (none_listed k x h)
below_length (y ∷ xs) zero x h = omega arith
below_length (y ∷ xs) (suc k) x h = let l = below_length xs k x h in omega (arith, l)

module _ {O B A : Type 0} (d : Dialect (in_program O B) A) (c : Program O B) (keys : List (Ptr BasicBlock)) where
  -- so many of the steps have names
  pub record AreNamedUpTo (ss : List ChainStep) (i : ℕ) (js : List Join) : Type 0 where
    pub len : length js ≡ i
    pub each : (k : ℕ) (s : ChainStep) (j : Join) → slice_get ss k ≡ Some s → slice_get js k ≡ Some j → IsNamedStep d c keys s j

  pub none_named : (ss : List ChainStep) (js : List Join) → js ≡ [] → AreNamedUpTo ss 0 js
  none_named ss js e = record { len = ap length e; each = λ k s j a b. absurd (none_listed k j (ap (λ l. slice_get l k) (sym e) ∙ b)) }

  pub one_named : (ss : List ChainStep) (i : ℕ) (js new : List Join) (s : ChainStep) (j : Join) → AreNamedUpTo ss i js → slice_get ss i ≡ Some s → IsNamedStep d c keys s j → new ≡ js ++ j ∷ [] → AreNamedUpTo ss (i + 1) new
  one_named ss i js new s j has here named is = record {
    len = ap length is ∙ length-append js (j ∷ []) ∙ ap (λ n. n + 1) has.len;
    each = λ k u v a b. ⊎_elim
        (λ l. has.each k u v a l)
        (λ r.
        let index : k ≡ i = r.1 ∙ has.len in
        let step : u ≡ s = same_some (slice_get ss k) u s a (ap (slice_get ss) index ∙ here) in
        subst (λ x. IsNamedStep d c keys u x) (sym r.0) (subst (λ x. IsNamedStep d c keys x j) (sym step) named))
        (at_more js j v k (ap (λ l. slice_get l k) (sym is) ∙ b));
  }

  pub all_named : (ss : List ChainStep) (i : ℕ) (js : List Join) → AreNamedUpTo ss i js → i ≡ length ss → AreNamedSteps d c keys ss js
  all_named ss i js has e = record { len = has.len ∙ e; each = has.each }

  -- the steps are matched one by one
  pub matched_steps : (once : AreDistinct keys) (ss : List ChainStep) (js : List Join) → AreNamedSteps d c keys ss js → AreMatched keys once ss js
  matched_steps once [] [] named = none_matched
  matched_steps once [] (j ∷ js) named = let e : suc (length js) ≡ 0 = named.len in absurd (omega (arith, e))
  matched_steps once (s ∷ ss) [] named = let e : 0 ≡ suc (length ss) = named.len in absurd (omega (arith, e))
  matched_steps once (s ∷ ss) (j ∷ js) named =
      let e : suc (length js) ≡ suc (length ss) = named.len in
      let one = named.each zero s j refl refl in
      one_matched s j ss js one.first one.to (matched_steps once ss js (record { len = omega (arith, e); each = λ k u v a b. named.each (suc k) u v a b }))

  -- a step's name by the exit that is found
  pub step_named : (s : ChainStep) (has : HasExit d c keys s) (first before : Ptr BasicBlock) (o : Option Exit) (e : Exit) → slice_get keys s.first ≡ Some first → slice_get keys s.before ≡ Some before
      → ((p : Ptr Operation) (b : Ptr BasicBlock) → IsBareExit d c before p b → o ≡ Some (record { branch = p; target = b })) → o ≡ Some e → IsNamedStep d c keys s (record { first = first; branch = e.branch; block = e.target })
  step_named s has first before o e at_first at_before all is =
      let same : has.before ≡ before = same_some (slice_get keys s.before) has.before before has.before_is at_before in
      let found : e ≡ record { branch = has.branch; target = has.target } = same_some o e (record { branch = has.branch; target = has.target }) is (all has.branch has.target (subst (λ z. IsBareExit d c z has.branch has.target) same has.exit)) in
      subst (λ (x : Exit). IsNamedStep d c keys s (record { first = first; branch = x.branch; block = x.target })) (sym found) (record {
        first = at_first;
        to = has.target_is;
        exit = λ z at. subst (λ x. IsBareExit d c x has.branch has.target) (same_some (slice_get keys s.before) has.before z has.before_is at) has.exit;
      })

  pub exit_there : (s : ChainStep) (has : HasExit d c keys s) (before : Ptr BasicBlock) (o : Option Exit) → slice_get keys s.before ≡ Some before
      → ((p : Ptr Operation) (b : Ptr BasicBlock) → IsBareExit d c before p b → o ≡ Some (record { branch = p; target = b })) → o ≡ None → ⊥
  exit_there s has before o at all none =
      let same : has.before ≡ before = same_some (slice_get keys s.before) has.before before has.before_is at in
      let found = all has.branch has.target (subst (λ z. IsBareExit d c z has.branch has.target) same has.exit) in
      let f : None ≡ Some (record { branch = has.branch; target = has.target }) = sym none ∙ found in
      cc
