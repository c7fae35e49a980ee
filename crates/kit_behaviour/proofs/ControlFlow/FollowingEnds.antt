-- An argument of a chain's later block stands for a value: following what is forwarded to it ends.
use Rattle.std.proofs.Common.{◌≡◌, ◌⊎◌, ⊎_elim, ℕ, zero, suc, Bool, true, false, List, [], ◌∷◌, length, Option, Some, None, refl, sym, ap, ◌∙◌, subst, arith}
use Rattle.std.specs.Prelude.{slice_get, if◌then◌else◌, unwrap_or}
use Rattle.kit_behaviour.specs.Machine.{Fun, left_in, arguments_in}
use Rattle.kit_behaviour.specs.Scopes.{In, AllIn, all_defs, entry_values, at_start, SameLength}
use Rattle.kit_behaviour.specs.Rules.{Rules}
use Rattle.kit_behaviour.specs.Places.{Place, Arg, Res}
use Rattle.kit_behaviour.specs.SimplifiedBlocks.{Reached, edges_in, IsJoinedSet, Depth, top, below, forwarded_to}
use Rattle.kit_behaviour.proofs.ControlFlow.PlacesJoined.{forward, Follows, stop, more}
use Rattle.kit_behaviour.proofs.Propagation.ScopeLemmas.{in_split}
use Rattle.kit_behaviour.proofs.Numbering.NumberingRules.{slice_in}
use Rattle.kit_behaviour.proofs.Numbering.RuleLemmas.{rules_scoped}
use Rattle.kit_behaviour.proofs.ControlFlow.ChainLemmas.{gives_unique, last_in, last_scope, edge_in, entry_free, reached_depth}
use Rattle.kit_behaviour.proofs.ControlFlow.ForwardingPremises.{in_from, IsRes, defs_res}

module _ (f : Option (Fun Place)) (rules : Rules f) (j : ℕ → Bool) (taken : IsJoinedSet f j) where
  abbrev fwd : Place → Option Place
  fwd = forward j f

  abbrev Ends : Place → Type 0
  Ends v = (u : Place) × Follows fwd v u

  ends_here : (v : Place) → fwd v ≡ None → Ends v
  ends_here v e = (v, stop v v e refl)

  free_ends : (t i : ℕ) → j t ≡ false → Ends (Arg t i)
  free_ends t i e = ends_here (Arg t i) (ap (λ b. if b then Some (unwrap_or (slice_get (forwarded_to t (edges_in f)) i) (Arg 0 0)) else None) e)

  res_ends : (v : Place) (b : ℕ) → IsRes b v → Ends v
  res_ends v b r = ends_here v (ap fwd r.2)

  on : (t i : ℕ) (x : Place) → j t ≡ true → unwrap_or (slice_get (forwarded_to t (edges_in f)) i) (Arg 0 0) ≡ x → Ends x → Ends (Arg t i)
  on t i x e w h =
      (h.0, more (Arg t i) x h.0 (ap (λ b. if b then Some (unwrap_or (slice_get (forwarded_to t (edges_in f)) i) (Arg 0 0)) else None) e ∙ ap Some w) h.1)

  arg_of : (b : ℕ) (x : Place) → In x (arguments_in f b) → (i : ℕ) × (x ≡ Arg b i)
  arg_of b x h = let r = in_from (Arg b) 0 (length (arguments_in f b)) x (subst (In x) (rules.args b) h) in (r.0, r.1)

  entry_ends : (x : Place) → In x (entry_values f) → Ends x
  entry_ends x i =
      ⊎_elim
      (λ l. let a = arg_of 0 x l in subst Ends (sym a.1) (free_ends 0 a.0 (entry_free f j taken)))
      (λ r. res_ends x 0 (defs_res 0 0 (left_in f 0 0) (rules.names 0) x r))
      (in_split x (arguments_in f 0) (all_defs (left_in f 0 0)) i)

  all_in : (q : Place) (qs c : List Place) → In q qs → AllIn qs c → In q c
  all_in q [] c i h = absurd i
  all_in q (y ∷ ys) c i h = ⊎_elim (λ e. subst (λ z. In z c) (sym e) h.0) (λ k. all_in q ys c k h.1) i

  -- in a block at some depth
  deep_ends : (t m : ℕ) → Depth f j t m → (i : ℕ) → Ends (Arg t i)
  deep_ends t m (top b n e z) i = free_ends t i e
  deep_ends t m (below p t2 k n jn z d) i = by_value (slice_get (forwarded_to t (edges_in f)) i) refl (deep_ends p k d)
    where
      from_start : (b : ℕ) (x : Place) → ((i2 : ℕ) → Ends (Arg b i2)) → In x (at_start f b) → Ends x
      from_start zero x ih r = let a = arg_of 0 x r in subst Ends (sym a.1) (ih a.0)
      from_start (suc b) x ih r =
          ⊎_elim
          (λ l. let a = arg_of (suc b) x l in subst Ends (sym a.1) (ih a.0))
          (λ l. entry_ends x l)
          (in_split x (arguments_in f (suc b)) (entry_values f) r)

      scope : (x : Place) → ((i2 : ℕ) → Ends (Arg p i2)) → In x (all_defs (left_in f p 0)) ⊎ In x (at_start f p) → Ends x
      scope x ih h =
          ⊎_elim
          (λ l. res_ends x p (defs_res p 0 (left_in f p 0) (rules.names p) x l))
          (λ r. from_start p x ih r)
          h

      given : (x : Place) → ((i2 : ℕ) → Ends (Arg p i2)) → In x (forwarded_to t (edges_in f)) → Ends x
      given x ih h =
          let m = last_scope f (at_start f p) (left_in f p 0) jn.edge (rules_scoped f rules p) jn.last in
          let e = gives_unique t jn.edge (edges_in f) (omega (arith, jn.single)) (edge_in f jn.edge p (last_in (left_in f p 0) jn.edge jn.last)) jn.target in
          scope x ih (m.2 x (all_in x jn.edge.forwards m.0 (subst (In x) e h) m.1.0))

      by_value : (o : Option Place) → slice_get (forwarded_to t (edges_in f)) i ≡ o → ((i2 : ℕ) → Ends (Arg p i2)) → Ends (Arg t i)
      by_value None e ih = on t i (Arg 0 0) (taken.back p t jn) (ap (λ o. unwrap_or o (Arg 0 0)) e) (free_ends 0 0 (entry_free f j taken))
      by_value (Some x) e ih = on t i x (taken.back p t jn) (ap (λ o. unwrap_or o (Arg 0 0)) e) (given x ih (slice_in x (forwarded_to t (edges_in f)) i e))

  none_given : (gs : List Place) → SameLength [] gs → gs ≡ []
  none_given [] h = refl
  none_given (g ∷ gs) h = absurd h

  -- of each value
  pub follow_ends : ((b : ℕ) → (arguments_in f b ≡ []) ⊎ Reached f b) → (v : Place) → Ends v
  follow_ends lives (Res b o i) = ends_here (Res b o i) refl
  follow_ends lives (Arg t i) = by_test (j t) refl (lives t)
    where
      by_test : (b : Bool) → j t ≡ b → (arguments_in f t ≡ []) ⊎ Reached f t → Ends (Arg t i)
      by_test false e l = free_ends t i e
      by_test true e l =
          ⊎_elim
          (λ n.
          let h = taken.there t e in
          let m = last_scope f (at_start f h.0) (left_in f h.0 0) h.1.edge (rules_scoped f rules h.0) h.1.last in
          let g = gives_unique t h.1.edge (edges_in f) (omega (arith, h.1.single)) (edge_in f h.1.edge h.0 (last_in (left_in f h.0 0) h.1.edge h.1.last)) h.1.target in
          let z : forwarded_to t (edges_in f) ≡ [] = g ∙ none_given h.1.edge.forwards (subst (λ ts. SameLength ts h.1.edge.forwards) (ap (arguments_in f) h.1.target ∙ n) m.1.2) in
          on t i (Arg 0 0) e (ap (λ l. unwrap_or (slice_get l i) (Arg 0 0)) z) (free_ends 0 0 (entry_free f j taken)))
          (λ r. let d = reached_depth f j taken t r in deep_ends t d.0 d.1 i)
          l
