-- A step of the reader, over plain lists.
use Rattle.std.proofs.Common.{true, false, ◌≡◌, ℕ, suc, ◌+◌, ◌<◌, List, [], ◌∷◌, ◌++◌, Some, None, slice_get, length, Option, sym, subst, ap, ◌∙◌, arith, add-one, ◌⊎◌, inl, inr, Bool, cond, Result, Ok, Err, IfOk, OnOk, IsTrue}
use Rattle.std.proofs.lemmas.Option.{slice_get_within}
use Rattle.ir_grammar.specs.declared.grammar.Action.{Action}
use Rattle.ir_grammar.specs.declared.grammar.Symbol.{Symbol}
use Rattle.ir_grammar.specs.declared.grammar.Symbol.TheVariants.{Sign, Part, Act}
use Rattle.ir_grammar.specs.declared.grammar.Event.{Event}
use Rattle.ir_grammar.specs.declared.grammar.Event.TheVariants.{Took, Did}
use Rattle.ir_grammar.specs.declared.grammar.Rule.{Rule}
use Rattle.ir_grammar.specs.declared.grammar.Grammar.{Grammar}
use Rattle.ir_grammar.specs.Grammar.{accepts}
use Rattle.ir_grammar.specs.Table.{pick, closing_of, BeginsAtColumn, IsFine, AreKnownSymbols, height, IsPredictive}
use Rattle.ir_grammar.specs.Reading.{IsPrefix, tooks}
use Rattle.ir_grammar.specs.Run.{LeadsToStack, LeadsAt, Closes, IsStuck, Advances, Grows, IsDepth}
use Rattle.ir_grammar.proofs.Depths.{depth_took}
use Rattle.ir_grammar.proofs.Derivations.{known_append, fine_expanded, height_expanded, leads_expanded, leads_acted, leads_shifted, stuck_part, stuck_sign}
use Rattle.ir_grammar.proofs.Closing.{begins_append, closes_acted, closes_expanded}

-- what may still be closed, or goes on
abbrev pub IsOn : Grammar → (ℕ → List ℕ → Type 0) → List Event → List Symbol → ℕ → Type 0
IsOn g P did stack c = ((root : ℕ) (done : List ℕ) → P root done → Closes g root done did stack) ⊎ BeginsAtColumn g stack c

-- ---- where a token is taken, or none

-- the old events grow where it is
pub token_grows : {E : Type 0} (r : Result Bool E) (first did did' : List Event) → IsPrefix first did
    → IfOk r (λ yes. did' ≡ cond yes (did ++ Took ∷ []) did) → IfOk r (λ yes. IsTrue yes → Grows first did')
token_grows (Ok true) first did did' p e = λ _. (p.0, e ∙ ap (λ x. x ++ Took ∷ []) p.1)
token_grows (Ok false) first did did' p e = λ t. cc
token_grows (Err x) first did did' p e = e

-- what is said of the symbols before is said of those behind
pub token_symbols : {E : Type 0} (P : List Symbol → Type 0) (r : Result Bool E) (stack rest after : List Symbol) → P stack → P rest
    → IfOk r (λ yes. after ≡ cond yes rest stack) → OnOk r (P after)
token_symbols P (Ok true) stack rest after h t u = subst P (sym u) t
token_symbols P (Ok false) stack rest after h t u = subst P (sym u) h
token_symbols P (Err x) stack rest after h t u = u

pub token_depth : {E : Type 0} (r : Result Bool E) (many n : ℕ) (did did' : List Event) (d : Option ℕ) → tooks did ≡ n → IsDepth many n did d
    → IfOk r (λ yes. did' ≡ cond yes (did ++ Took ∷ []) did) → OnOk r (IsDepth many n did' d)
token_depth (Ok true) many n did did' d took h e = rw e (depth_took many n did d (omega (arith, took)) h)
token_depth (Ok false) many n did did' d took h e = rw e h
token_depth (Err x) many n did did' d took h e = e

module _ (g : Grammar) (ok : IsPredictive g) where
  -- the table's rule is the rule that is read
  pub rule_at : (n c p : ℕ) (r : Rule) → pick g n c ≡ Some p → slice_get g.rules.items p ≡ Some r → r.part ≡ n
  rule_at n c p r t e =
      let k = ok.picked n c p t in
      let same : k.0 ≡ r = cc in
      ap (λ x. x.part) (sym same) ∙ k.2

  pub rule_within : (n c p : ℕ) → pick g n c ≡ Some p → p < length g.rules.items
  rule_within n c p t = let k = ok.picked n c p t in slice_get_within g.rules.items p k.0 k.1

  -- the table's rule in the place of a part: what is kept
  pub step_leads : (root : ℕ) (done : List ℕ) (did : List Event) (s rest s' : List Symbol) (n c p : ℕ) (r : Rule) → s ≡ Part n ∷ rest → pick g n c ≡ Some p → slice_get g.rules.items p ≡ Some r
      → s' ≡ r.body.items ++ rest → IsFine g s → LeadsAt g root done did s c → LeadsAt g root done did s' c
  step_leads root done did s rest s' n c p r top t e new fine l =
      rw new (leads_expanded g ok root done did n p rest c r (rw top at fine) t e (rule_at n c p r t e) (rw top at l))

  pub step_fine : (s rest s' : List Symbol) (n p : ℕ) (r : Rule) → s ≡ Part n ∷ rest → r.part ≡ n → slice_get g.rules.items p ≡ Some r
      → s' ≡ r.body.items ++ rest → IsFine g s → IsFine g s'
  step_fine s rest s' n p r top q e new fine =
      rw new (fine_expanded g ok p r rest e (rw q (rw top at fine)))

  pub step_known : (s rest s' : List Symbol) (n p : ℕ) (r : Rule) → s ≡ Part n ∷ rest → slice_get g.rules.items p ≡ Some r
      → s' ≡ r.body.items ++ rest → AreKnownSymbols g s → AreKnownSymbols g s'
  step_known s rest s' n p r top e new known =
      let k = rw top at known in
      rw new (known_append g r.body.items rest (ok.rules p r e).known k.1)

  pub step_lower : (s rest s' : List Symbol) (n p : ℕ) (r : Rule) → s ≡ Part n ∷ rest → r.part ≡ n → slice_get g.rules.items p ≡ Some r
      → s' ≡ r.body.items ++ rest → height g s' < height g s
  step_lower s rest s' n p r top q e new =
      rw (new, top, ← q) (height_expanded g ok p r rest e)

  pub stuck_at : (root : ℕ) (done : List ℕ) (did : List Event) (s rest : List Symbol) (n c : ℕ) → s ≡ Part n ∷ rest → pick g n c ≡ None → IsFine g s
      → LeadsAt g root done did s c → IsStuck g root done c
  stuck_at root done did s rest n c top t fine l = stuck_part g ok root done did n rest c (rw top at fine) t (rw top at l)

  -- something done
  pub step_acted : (root : ℕ) (done : List ℕ) (did did' : List Event) (s rest : List Symbol) (a : Action) (c : ℕ) → s ≡ Act a ∷ rest → did' ≡ did ++ Did a ∷ []
      → LeadsAt g root done did s c → LeadsAt g root done did' rest c
  step_acted root done did did' s rest a c top more l = rw more (leads_acted g ok root done did a rest c (rw top at l))

  -- another token than the one that comes
  pub stuck_token : (root : ℕ) (done : List ℕ) (did : List Event) (s k : ℕ) (stack rest : List Symbol) → stack ≡ Sign s ∷ rest → accepts g s k ≡ false
      → LeadsAt g root done did stack (k + 1) → IsStuck g root done (suc k)
  stuck_token root done did s k stack rest top no' l =
      stuck_sign g ok root done did s (suc k) rest (λ j e a. let same : j ≡ k = omega arith in let b : accepts g s k ≡ true = rw same at a in cc) (rw (← add-one k) (rw top at l))

  -- the token that comes
  pub step_shifted : (root : ℕ) (done : List ℕ) (did did' : List Event) (s k : ℕ) (stack rest : List Symbol) → stack ≡ Sign s ∷ rest → did' ≡ did ++ Took ∷ [] → accepts g s k ≡ true
      → LeadsAt g root done did stack (k + 1) → LeadsToStack g root (done ++ k ∷ []) did' rest
  step_shifted root done did did' s k stack rest top more yes' l =
      rw more (leads_shifted g ok root done did s k rest yes' (rw (← add-one k) (rw top at l)))

  pub on_acted : (P : ℕ → List ℕ → Type 0) (did did' : List Event) (s rest : List Symbol) (a : Action) (c : ℕ) → s ≡ Act a ∷ rest → did' ≡ did ++ Did a ∷ [] → IsOn g P did s c → IsOn g P did' rest c
  on_acted P did did' s rest a c top more (inl f) = inl (λ root done p. rw more (closes_acted g ok root done did a rest (rw top at (f root done p))))
  on_acted P did did' s rest a c top more (inr b) = let h = rw top at b in inr h.1

  pub on_expanded : (P : ℕ → List ℕ → Type 0) (did : List Event) (s rest s' : List Symbol) (n c p : ℕ) (r : Rule) → s ≡ Part n ∷ rest → pick g n c ≡ Some p → slice_get g.rules.items p ≡ Some r
      → s' ≡ r.body.items ++ rest → IsFine g s → IsOn g P did s c → IsOn g P did s' c
  on_expanded P did s rest s' n c p r top t e new fine on = go (ok.picked n c p t).3 on
    where
      go : (closing_of (slice_get g.parts.items n) ≡ Some p) ⊎ BeginsAtColumn g (ok.picked n c p t).0.body.items c → IsOn g P did s c → IsOn g P did s' c
      go (inr b) h =
          let x = ok.picked n c p t in
          let same : x.0 ≡ r = cc in
          inr (rw new (begins_append g r.body.items rest c (subst (λ y. BeginsAtColumn g y.body.items c) same b)))
      go (inl k) (inl f) = inl (λ root done q. rw new (closes_expanded g ok root done did n p rest r (rw top at fine) k e (rule_at n c p r t e) (rw top at (f root done q))))
      go (inl k) (inr b) = let y = rw top at b in absurd (y.2 (let two : pick g n c ≡ Some y.0 = y.1 in cc))

  -- what doesn't go on is to be closed
  pub off_part : (P : ℕ → List ℕ → Type 0) (did : List Event) (s rest : List Symbol) (n c : ℕ) → s ≡ Part n ∷ rest → pick g n c ≡ None → IsOn g P did s c → (root : ℕ) (done : List ℕ) → P root done → Closes g root done did s
  off_part P did s rest n c top t (inl f) = f
  off_part P did s rest n c top t (inr b) = let y = rw top at b in let two = y.1 in absurd (cc)

  pub off_sign : (P : ℕ → List ℕ → Type 0) (did : List Event) (s rest : List Symbol) (i k : ℕ) → s ≡ Sign i ∷ rest → accepts g i k ≡ false → IsOn g P did s (k + 1) → (root : ℕ) (done : List ℕ) → P root done → Closes g root done did s
  off_sign P did s rest i k top no' (inl f) = f
  off_sign P did s rest i k top no' (inr b) =
      let y = rw top at b in
      let same : y.0 ≡ k = omega (arith, y.1) in
      let z : accepts g i k ≡ true = rw same at y.2 in
      absurd (cc)

  pub token_advances : {E : Type 0} (P : ℕ → List ℕ → Type 0) (r : Result Bool E) (did did' : List Event) (i k : ℕ) (s rest after : List Symbol) → s ≡ Sign i ∷ rest
      → IsOn g P did s (k + 1) → ((root : ℕ) (done : List ℕ) → P root done → LeadsAt g root done did s (k + 1))
      → IfOk r (λ yes. yes ≡ accepts g i k) → IfOk r (λ yes. after ≡ cond yes rest s) → IfOk r (λ yes. did' ≡ cond yes (did ++ Took ∷ []) did)
      → IfOk r (λ yes. (root : ℕ) (done : List ℕ) → P root done → Advances g root done k yes did' after)
  token_advances P (Ok true) did did' i k s rest after top on leads a u e = λ root done h. rw u (step_shifted root done did did' i k s rest top e (sym a) (leads root done h))
  token_advances P (Ok false) did did' i k s rest after top on leads a u e = λ root done h. (stuck_token root done did i k s rest top (sym a) (leads root done h), rw (u, e) (off_sign P did s rest i k top (sym a) on root done h))
  token_advances P (Err x) did did' i k s rest after top on leads a u e = a

  pub off_end : (P : ℕ → List ℕ → Type 0) (did : List Event) (c : ℕ) → IsOn g P did [] c → (root : ℕ) (done : List ℕ) → P root done → Closes g root done did []
  off_end P did c (inl f) = f
  off_end P did c (inr b) = absurd b

  -- a closing rule in the place of a part
  pub closing_at : (n p : ℕ) (r : Rule) → closing_of (slice_get g.parts.items n) ≡ Some p → slice_get g.rules.items p ≡ Some r → r.part ≡ n
  closing_at n p r t e =
      let k = ok.closed n p t in
      let same : k.0 ≡ r = cc in
      ap (λ x. x.part) (sym same) ∙ k.2

  pub closing_within : (n p : ℕ) → closing_of (slice_get g.parts.items n) ≡ Some p → p < length g.rules.items
  closing_within n p t = let k = ok.closed n p t in slice_get_within g.rules.items p k.0 k.1
