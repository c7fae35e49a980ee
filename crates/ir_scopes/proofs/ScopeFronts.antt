-- Faults of scopes in a front of what reading does.
use Rattle.std.proofs.Common.{◌≡◌, ℕ, suc, zero, ◌+◌, ◌<◌, ◌≤◌, Bool, true, false, cond, List, [], ◌∷◌, ◌++◌, length, Option, Some, None, option_map, slice_get, refl, sym, subst, ap, ◌∙◌, arith, ◌⊎◌, inl, inr, append_assoc, nat_eq}
use Rattle.std.proofs.lemmas.Option.{slice_get_within}
use Rattle.std.proofs.lemmas.Bool.{eq-eqb, cases_lt}
use Rattle.ir_tokens.specs.declared.faults.Fault.{Fault}
use Rattle.ir_tokens.specs.Faults.{FaultPrecedes, IsNamed}
use Rattle.ir_grammar.specs.declared.grammar.Action.TheVariants.{Result, Argument, Label, Operand, BeginSuccessor, Operation, EndOperation, BeginRegion, EndRegion}
use Rattle.ir_grammar.specs.declared.grammar.Event.{Event}
use Rattle.ir_grammar.specs.declared.grammar.Event.TheVariants.{Took, Did}
use Rattle.ir_scopes.specs.declared.sites.Closing.{Closing}
use Rattle.ir_scopes.specs.declared.sites.Frame.{Frame}
use Rattle.ir_scopes.specs.declared.sites.Site.{Site}
use Rattle.ir_grammar.specs.Reading.{tooks}
use Rattle.ir_scopes.specs.Scopes.{EventPlace, beginning, behind, last_token, outside, operation_frame, region_frame, rest, here_behind_operation, here_behind_region, may_end, defined, mentioned, labelled, label_mentioned, ended, each, Names, IsAgain, IsUnresolvedName, HasNameFault, HasScopeFault, is_around_root, opened_below_root, root_openings, fault_not_isolated, IsRootFault}
use Rattle.ir_scopes.proofs.ListEnds.{get_more}
use Rattle.ir_scopes.proofs.Apart.{get_append}
use Rattle.ir_scopes.proofs.Walks.{these, same_names}

none : {X : Type 0} {A : Type 0} (s : X) → None ≡ Some s → A
none s h = cc

one : {X : Type 0} (x s : X) (i : ℕ) → slice_get (x ∷ []) i ≡ Some s → x ≡ s
one x s zero h = cc
one x s (suc i) h = none s h

-- ---- what one event makes, by its place

-- what an event makes is in the scope of its place, at the last token
abbrev pub IsMadeHere : (Frame → ℕ) → (EventPlace → Event → List Site) → Type 0
IsMadeHere scope f = (at : EventPlace) (e : Event) (i : ℕ) (s : Site) → slice_get (f at e) i ≡ Some s → (s.scope ≡ scope at.here) × (s.token ≡ last_token at)

defined_at : IsMadeHere (λ f. f.values) defined
defined_at at Took i s h = none s h
defined_at at (Did Result) i s h = let o = sym (one _ s i h) in (ap (λ x. x.scope) o, ap (λ x. x.token) o)
defined_at at (Did Argument) i s h = let o = sym (one _ s i h) in (ap (λ x. x.scope) o, ap (λ x. x.token) o)
defined_at at (Did _) i s h = none s h

pub mentioned_at : IsMadeHere (λ f. f.values) mentioned
mentioned_at at Took i s h = none s h
mentioned_at at (Did Operand) i s h = let o = sym (one _ s i h) in (ap (λ x. x.scope) o, ap (λ x. x.token) o)
mentioned_at at (Did _) i s h = none s h

labelled_at : IsMadeHere (λ f. f.labels) labelled
labelled_at at Took i s h = none s h
labelled_at at (Did Label) i s h = let o = sym (one _ s i h) in (ap (λ x. x.scope) o, ap (λ x. x.token) o)
labelled_at at (Did _) i s h = none s h

pub label_mentioned_at : IsMadeHere (λ f. f.labels) label_mentioned
label_mentioned_at at Took i s h = none s h
label_mentioned_at at (Did BeginSuccessor) i s h = let o = sym (one _ s i h) in (ap (λ x. x.scope) o, ap (λ x. x.token) o)
label_mentioned_at at (Did _) i s h = none s h

ended_at : (x : Closing) (next i : ℕ) (c : Closing) → slice_get (ended x next) i ≡ Some c → (c ≡ x) × (next ≡ x.scope → ⊥)
ended_at x next i c h = go (nat_eq next x.scope) refl h
  where
    go : (b : Bool) → nat_eq next x.scope ≡ b → slice_get (cond b [] (x ∷ [])) i ≡ Some c → (c ≡ x) × (next ≡ x.scope → ⊥)
    go true e k = none c k
    go false e k = (sym (one _ c i k), λ same. (let wrong : true ≡ false = sym (eq-eqb next x.scope same) ∙ e in cc))

-- ---- the scopes of one sort of names

-- This part of a frame is a scope. Outside of all operations it is given by the number of events; an operation stays in that
-- around it; a region opens one or stays in that around it.
pub record IsScopePart (scope : Frame → ℕ) : Type 0 where
  pub outside : (n : ℕ) → scope (outside n) ≡ n
  pub operation : (b : Bool) (f : Frame) → scope (operation_frame b f) ≡ scope f
  pub region : (at : EventPlace) → (scope (region_frame at) ≡ at.events + 1) ⊎ (scope (region_frame at) ≡ scope at.here)

pub values_part : IsScopePart (λ f. f.values)
values_part = record { outside = λ n. refl; operation = λ b f. refl; region = λ at. opens at.here.isolated (at.events + 1) at.here.values }
  where
    opens : (b : Bool) (x y : ℕ) → (cond b x y ≡ x) ⊎ (cond b x y ≡ y)
    opens true x y = inl refl
    opens false x y = inr refl

pub labels_part : IsScopePart (λ f. f.labels)
labels_part = record { outside = λ n. refl; operation = λ b f. refl; region = λ at. inl refl }

-- ---- scopes that have ended

module _ (scope : Frame → ℕ) where
  -- none of these frames is in the scope
  abbrev NoneIn : ℕ → List Frame → Type 0
  NoneIn s [] = Unit {0}
  NoneIn s (f ∷ fs) = (scope f ≡ s → ⊥) × NoneIn s fs

  -- the scope has begun, and nothing that is open is in it
  record IsPast (s : ℕ) (at : EventPlace) : Type 0 where
    old : s ≤ at.events
    here : scope at.here ≡ s → ⊥
    around : NoneIn s at.around

  -- these frames are in the same scope or in ones begun earlier, from this one on
  abbrev pub Descends : ℕ → List Frame → Type 0
  Descends n [] = Unit {0}
  Descends n (f ∷ fs) = (scope f ≤ n) × Descends (scope f) fs

  pub record IsOrdered (at : EventPlace) : Type 0 where
    pub here : scope at.here ≤ at.events
    pub around : Descends (scope at.here) at.around

  none_below : (s n : ℕ) (fs : List Frame) → n < s → Descends n fs → NoneIn s fs
  none_below s n [] lt h = tt
  none_below s n (f ∷ fs) lt h = (λ e. omega (arith, h.0), none_below s (scope f) fs (omega (arith, h.0)) h.1)

module _ (scope : Frame → ℕ) (part : IsScopePart scope) (isolated : ℕ → Bool) where
  pub ordered_next : (at : EventPlace) (e : Event) → IsOrdered scope at → IsOrdered scope (behind isolated at e)
  ordered_next at Took o = record { here = let h = o.here in omega arith; around = o.around }
  ordered_next at (Did (Operation n)) o =
      let same = part.operation (isolated n) at.here in record { here = let h = o.here in omega (arith, same); around = (omega (arith, same), o.around) }
  ordered_next at (Did EndOperation) o = go at.around o.around
    where
      go : (fs : List Frame) → Descends scope (scope at.here) fs → IsOrdered scope (record { events = at.events + 1; tokens = at.tokens; here = here_behind_operation at.events fs; around = rest fs })
      go [] d = record { here = omega (arith, part.outside (at.events + 1)); around = tt }
      go (f ∷ []) d = record { here = omega (arith, part.outside (at.events + 1)); around = tt }
      go (f ∷ g ∷ fs) d = record { here = let h = o.here in omega (arith, d.0); around = d.1 }
  ordered_next at (Did BeginRegion) o = elim (part.region at) [
    | inl e ↦ record { here = omega (arith, e); around = (let h = o.here in omega (arith, e), o.around) }
    | inr e ↦ record { here = let h = o.here in omega (arith, e); around = (omega (arith, e), o.around) }
  ]
  ordered_next at (Did EndRegion) o = go at.around o.around
    where
      go : (fs : List Frame) → Descends scope (scope at.here) fs → IsOrdered scope (record { events = at.events + 1; tokens = at.tokens; here = here_behind_region at.here fs; around = rest fs })
      go [] d = record { here = let h = o.here in omega arith; around = tt }
      go (f ∷ fs) d = record { here = let h = o.here in omega (arith, d.0); around = d.1 }
  ordered_next at (Did _) o = record { here = let h = o.here in omega arith; around = o.around }

  past_next : (s : ℕ) (at : EventPlace) (e : Event) → IsPast scope s at → IsPast scope s (behind isolated at e)
  past_next s at Took p = record { old = let h = p.old in omega arith; here = p.here; around = p.around }
  past_next s at (Did (Operation n)) p = record { old = let h = p.old in omega arith; here = λ e. p.here (sym (part.operation (isolated n) at.here) ∙ e); around = (p.here, p.around) }
  past_next s at (Did EndOperation) p = go at.around p.around
    where
      fresh : scope (outside (at.events + 1)) ≡ s → ⊥
      fresh e = let h = p.old in omega (arith, e, part.outside (at.events + 1))

      go : (fs : List Frame) → NoneIn scope s fs → IsPast scope s (record { events = at.events + 1; tokens = at.tokens; here = here_behind_operation at.events fs; around = rest fs })
      go [] d = record { old = let h = p.old in omega arith; here = fresh; around = tt }
      go (f ∷ []) d = record { old = let h = p.old in omega arith; here = fresh; around = tt }
      go (f ∷ g ∷ fs) d = record { old = let h = p.old in omega arith; here = d.0; around = d.1 }
  past_next s at (Did BeginRegion) p = record { old = let h = p.old in omega arith; here = apart (part.region at); around = (p.here, p.around) }
    where
      apart : (scope (region_frame at) ≡ at.events + 1) ⊎ (scope (region_frame at) ≡ scope at.here) → scope (region_frame at) ≡ s → ⊥
      apart (inl new) e = let h = p.old in omega (arith, e, new)
      apart (inr same) e = p.here (sym same ∙ e)
  past_next s at (Did EndRegion) p = go at.around p.around
    where
      go : (fs : List Frame) → NoneIn scope s fs → IsPast scope s (record { events = at.events + 1; tokens = at.tokens; here = here_behind_region at.here fs; around = rest fs })
      go [] d = record { old = let h = p.old in omega arith; here = p.here; around = tt }
      go (f ∷ fs) d = record { old = let h = p.old in omega arith; here = d.0; around = d.1 }
  past_next s at (Did _) p = record { old = let h = p.old in omega arith; here = p.here; around = p.around }

  -- ---- one list of events behind another

  arrived : EventPlace → List Event → EventPlace
  arrived at [] = at
  arrived at (e ∷ es) = arrived (behind isolated at e) es

  each_append : {A : Type 0} (f : EventPlace → Event → List A) (at : EventPlace) (a b : List Event) → each isolated f at (a ++ b) ≡ each isolated f at a ++ each isolated f (arrived at a) b
  unfolding arrived
  each_append f at [] b = refl
  each_append f at (e ∷ a) b =
      ap (λ x. f at e ++ x) (each_append f (behind isolated at e) a b) ∙ sym (append_assoc (f at e) (each isolated f (behind isolated at e) a) (each isolated f (arrived (behind isolated at e) a) b))

  arrived_tokens : (at : EventPlace) (a : List Event) → (arrived at a).tokens ≡ at.tokens + tooks a
  unfolding arrived
  arrived_tokens at [] = omega arith
  arrived_tokens at (Took ∷ a) = let r = arrived_tokens (behind isolated at Took) a in omega (arith, r)
  arrived_tokens at (Did x ∷ a) = arrived_tokens (behind isolated at (Did x)) a

  tokens_next : (at : EventPlace) (e : Event) → at.tokens ≤ (behind isolated at e).tokens
  tokens_next at Took = omega arith
  tokens_next at (Did a) = omega arith

  -- what is made from a place on is at its last token or later
  each_from : {A : Type 0} (f : EventPlace → Event → List A) (token : A → ℕ) → ((at : EventPlace) (e : Event) (i : ℕ) (x : A) → slice_get (f at e) i ≡ Some x → token x ≡ last_token at)
      → (at : EventPlace) (es : List Event) (i : ℕ) (x : A) → slice_get (each isolated f at es) i ≡ Some x → at.tokens ≤ token x + 1
  each_from f token here at [] i x h = none x h
  each_from f token here at (e ∷ es) i x h = elim (get_append (f at e) (each isolated f (behind isolated at e) es) i x h) [
    | inl y ↦ omega (arith, here at e i x y)
    | inr y ↦ omega (arith, each_from f token here (behind isolated at e) es y.0 x y.2, tokens_next at e)
  ]

  past_all : (s : ℕ) (at : EventPlace) (es : List Event) → IsPast scope s at → IsPast scope s (arrived at es)
  unfolding arrived
  past_all s at [] p = p
  past_all s at (e ∷ es) p = past_all s (behind isolated at e) es (past_next s at e p)

  -- nothing is made in a scope that has ended
  none_past : (f : EventPlace → Event → List Site) → IsMadeHere scope f
      → (s : ℕ) (at : EventPlace) (es : List Event) → IsPast scope s at → (i : ℕ) (x : Site) → slice_get (each isolated f at es) i ≡ Some x → x.scope ≡ s → ⊥
  none_past f here s at [] p i x h is = none x h
  none_past f here s at (e ∷ es) p i x h is = elim (get_append (f at e) (each isolated f (behind isolated at e) es) i x h) [
    | inl y ↦ p.here (sym (here at e i x y).0 ∙ is)
    | inr y ↦ none_past f here s (behind isolated at e) es (past_next s at e p) y.0 x y.2 is
  ]

  -- ---- ends of scopes

  module _ (place : Frame → ℕ) where
    -- the end of the scope in which a place is
    abbrev pub end : EventPlace → Closing
    end at = record { scope = scope at.here; met = last_token at; place = place at.here }

    -- the scope that an event ends
    abbrev pub ends : EventPlace → Event → List Closing
    ends at e = cond (may_end e) (ended (end at) (scope (behind isolated at e).here)) []

    -- it has ended behind the event
    closed_past : (at : EventPlace) (e : Event) → IsOrdered scope at → (i : ℕ) (c : Closing) → slice_get (ends at e) i ≡ Some c → IsPast scope c.scope (behind isolated at e)
    closed_past at Took o i c h = none c h
    closed_past at (Did EndOperation) o i c h = go at.around o.around (ended_at (end at) (scope (here_behind_operation at.events at.around)) i c h)
      where
        go : (fs : List Frame) → Descends scope (scope at.here) fs → (c ≡ end at) × (scope (here_behind_operation at.events fs) ≡ scope at.here → ⊥)
            → IsPast scope c.scope (record { events = at.events + 1; tokens = at.tokens; here = here_behind_operation at.events fs; around = rest fs })
        go [] d k = let is : c.scope ≡ scope at.here = ap (λ x. x.scope) k.0 in record { old = let h = o.here in omega (arith, is); here = λ e. k.1 (e ∙ is); around = tt }
        go (f ∷ []) d k = let is : c.scope ≡ scope at.here = ap (λ x. x.scope) k.0 in record { old = let h = o.here in omega (arith, is); here = λ e. k.1 (e ∙ is); around = tt }
        go (f ∷ g ∷ fs) d k =
            let is : c.scope ≡ scope at.here = ap (λ x. x.scope) k.0 in
            let less : scope f < c.scope = omega (arith, d.0, is, k.1) in
            record { old = let h = o.here in omega (arith, is); here = λ e. k.1 (e ∙ is); around = none_below scope c.scope (scope f) (g ∷ fs) less d.1 }
    closed_past at (Did EndRegion) o i c h = go at.around o.around (ended_at (end at) (scope (here_behind_region at.here at.around)) i c h)
      where
        go : (fs : List Frame) → Descends scope (scope at.here) fs → (c ≡ end at) × (scope (here_behind_region at.here fs) ≡ scope at.here → ⊥)
            → IsPast scope c.scope (record { events = at.events + 1; tokens = at.tokens; here = here_behind_region at.here fs; around = rest fs })
        go [] d k = absurd (k.1 refl)
        go (f ∷ fs) d k =
            let is : c.scope ≡ scope at.here = ap (λ x. x.scope) k.0 in
            let less : scope f < c.scope = omega (arith, d.0, is, k.1) in
            record { old = let h = o.here in omega (arith, is); here = λ e. k.1 (e ∙ is); around = none_below scope c.scope (scope f) fs less d.1 }
    closed_past at (Did _) o i c h = none c h

    closed_met : (at : EventPlace) (e : Event) (i : ℕ) (c : Closing) → slice_get (ends at e) i ≡ Some c → c.met ≡ last_token at
    closed_met at Took i c h = none c h
    closed_met at (Did EndOperation) i c h = ap (λ x. x.met) (ended_at (end at) (scope (here_behind_operation at.events at.around)) i c h).0
    closed_met at (Did EndRegion) i c h = ap (λ x. x.met) (ended_at (end at) (scope (here_behind_region at.here at.around)) i c h).0
    closed_met at (Did _) i c h = none c h

    -- the scopes that have ended by the end of events
    all_past : (at : EventPlace) (es : List Event) → IsOrdered scope at → (i : ℕ) (c : Closing) → slice_get (each isolated ends at es) i ≡ Some c → IsPast scope c.scope (arrived at es)
    unfolding arrived
    all_past at [] o i c h = none c h
    all_past at (e ∷ es) o i c h = elim (get_append (ends at e) (each isolated ends (behind isolated at e) es) i c h) [
      | inl y ↦ past_all c.scope (behind isolated at e) es (closed_past at e o i c y)
      | inr y ↦ all_past (behind isolated at e) es (ordered_next at e o) y.0 c y.2
    ]

-- ---- rows over lists that go on

module _ (names : List ℕ) where
  again_stays : (xs ys : List Site) (f : Fault) → IsAgain names xs f → IsAgain names (xs ++ ys) f
  again_stays xs ys f h = (h.0, h.1, h.2, h.3, get_more xs ys h.1 h.2 h.4, (h.5.0, get_more xs ys h.0 h.5.0 h.5.1, h.5.2), h.6)

  again_later : (n : ℕ) (xs ys : List Site) (f : Fault) → ((i : ℕ) (x : Site) → slice_get ys i ≡ Some x → n ≤ x.token + 1) → IsAgain names (xs ++ ys) f → IsAgain names xs f ⊎ (n ≤ f.met + 1)
  again_later n xs ys f low h = go (get_append xs ys h.1 h.2 h.4) (get_append xs ys h.0 h.5.0 h.5.1)
    where
      go : (slice_get xs h.1 ≡ Some h.2) ⊎ ((j : ℕ) × (h.1 ≡ length xs + j) × (slice_get ys j ≡ Some h.2)) → (slice_get xs h.0 ≡ Some h.5.0) ⊎ ((j : ℕ) × (h.0 ≡ length xs + j) × (slice_get ys j ≡ Some h.5.0))
          → IsAgain names xs f ⊎ (n ≤ f.met + 1)
      go (inl a) (inl b) = inl (h.0, h.1, h.2, h.3, a, (h.5.0, b, h.5.2), h.6)
      go (inl a) (inr b) = let within = slice_get_within xs h.1 h.2 a in absurd (omega (arith, h.3, b.1))
      go (inr a) b = inr (let met : f.met ≡ h.2.token = ap (λ g. g.met) h.6 in omega (arith, low a.0 h.2 a.2))

  module _ (ds es ms ns : List Site) (cs bs : List Closing) where
    lacking_stays : (f : Fault) → ((i : ℕ) (c : Closing) → slice_get cs i ≡ Some c → (k : ℕ) (x : Site) → slice_get es k ≡ Some x → x.scope ≡ c.scope → ⊥)
        → IsUnresolvedName names ds ms cs f → IsUnresolvedName names (ds ++ es) (ms ++ ns) (cs ++ bs) f
    lacking_stays f past h =
        let lacks = h.3 in (
          h.0,
          h.1,
          get_more cs bs h.0 h.1 h.2,
          (
            lacks.0,
            lacks.1,
            get_more ms ns lacks.0 lacks.1 lacks.2,
            lacks.3,
            λ j means. elim (get_append ds es j means.0 means.1) [
              | inl x ↦ lacks.4 j (means.0, x, means.2)
              | inr x ↦ past h.0 h.1 h.2 x.0 means.0 x.2 (means.2.0 ∙ lacks.3)
            ],
          ),
          h.4,
        )

    lacking_later : (n : ℕ) (f : Fault) → ((i : ℕ) (c : Closing) → slice_get cs i ≡ Some c → (k : ℕ) (x : Site) → slice_get ns k ≡ Some x → x.scope ≡ c.scope → ⊥)
        → ((i : ℕ) (c : Closing) → slice_get bs i ≡ Some c → n ≤ c.met + 1)
        → IsUnresolvedName names (ds ++ es) (ms ++ ns) (cs ++ bs) f → IsUnresolvedName names ds ms cs f ⊎ (n ≤ f.met + 1)
    lacking_later n f past low h = go (get_append cs bs h.0 h.1 h.2) (get_append ms ns h.3.0 h.3.1 h.3.2)
      where
        go : (slice_get cs h.0 ≡ Some h.1) ⊎ ((j : ℕ) × (h.0 ≡ length cs + j) × (slice_get bs j ≡ Some h.1)) → (slice_get ms h.3.0 ≡ Some h.3.1) ⊎ ((j : ℕ) × (h.3.0 ≡ length ms + j) × (slice_get ns j ≡ Some h.3.1))
            → IsUnresolvedName names ds ms cs f ⊎ (n ≤ f.met + 1)
        go (inl a) (inl b) = inl (h.0, h.1, a, (h.3.0, h.3.1, b, h.3.3, λ j means. h.3.4 j (means.0, get_more ds es j means.0 means.1, means.2)), h.4)
        go (inl a) (inr b) = absurd (past h.0 h.1 a b.0 h.3.1 b.2 h.3.3)
        go (inr a) b = inr (let met : f.met ≡ h.1.met = ap (λ g. g.met) h.4 in omega (arith, low a.0 h.1 a.2))

-- ---- regions of the root

opened_at : (at : EventPlace) (e : Event) (i k : ℕ) → slice_get (opened_below_root at e) i ≡ Some k → k ≡ last_token at
opened_at at Took i k h = none k h
opened_at at (Did BeginRegion) i k h = go (is_around_root at.around) at.here.isolated h
  where
    go : (b c : Bool) → slice_get (cond b (cond c [] (last_token at ∷ [])) []) i ≡ Some k → k ≡ last_token at
    go true true h = none k h
    go true false h = sym (one _ k i h)
    go false c h = none k h
opened_at at (Did _) i k h = none k h

module _ (isolated : ℕ → Bool) where
  openings_from : (at : EventPlace) (es : List Event) (i k : ℕ) → slice_get (each isolated opened_below_root at es) i ≡ Some k → at.tokens ≤ k + 1
  openings_from at es i k h = each_from (λ f. f.labels) labels_part isolated opened_below_root (λ x. x) opened_at at es i k h

  -- they open one after the other
  first_opening : (at : EventPlace) (es : List Event) (i k first : ℕ) → slice_get (each isolated opened_below_root at es) 0 ≡ Some first → slice_get (each isolated opened_below_root at es) i ≡ Some k → first ≤ k
  first_opening at [] i k first f h = none k h
  first_opening at (e ∷ es) i k first f h = go
      (get_append (opened_below_root at e) (each isolated opened_below_root (behind isolated at e) es) 0 first f)
      (get_append (opened_below_root at e) (each isolated opened_below_root (behind isolated at e) es) i k h)
      (λ j l x y. first_opening (behind isolated at e) es j l first x y)
    where
      go : (slice_get (opened_below_root at e) 0 ≡ Some first)
          ⊎ ((j : ℕ) × (0 ≡ length (opened_below_root at e) + j) × (slice_get (each isolated opened_below_root (behind isolated at e) es) j ≡ Some first))
          → (slice_get (opened_below_root at e) i ≡ Some k)
          ⊎ ((j : ℕ) × (i ≡ length (opened_below_root at e) + j) × (slice_get (each isolated opened_below_root (behind isolated at e) es) j ≡ Some k))
          → ((j l : ℕ) → slice_get (each isolated opened_below_root (behind isolated at e) es) 0 ≡ Some first → slice_get (each isolated opened_below_root (behind isolated at e) es) j ≡ Some l → first ≤ l) → first ≤ k
      go (inl x) (inl y) later = let a = opened_at at e 0 first x in let b = opened_at at e i k y in omega arith
      go (inl x) (inr y) later =
          let a = opened_at at e 0 first x in
          let b = openings_from (behind isolated at e) es y.0 k y.2 in
          let c = tokens_next (λ f. f.labels) labels_part isolated at e in
          omega arith
      go (inr x) (inl y) later = let w = slice_get_within (opened_below_root at e) i k y in let z = x.1 in absurd (omega arith)
      go (inr x) (inr y) later =
          let z : x.0 ≡ 0 = (let s = x.1 in omega arith) in
          later y.0 k (subst (λ j. slice_get (each isolated opened_below_root (behind isolated at e) es) j ≡ Some first) z x.2) y.2

  -- of faults that are met at these tokens, the first is named
  pub root_named : (es : List Event) → IsNamed (IsRootFault isolated es) (option_map fault_not_isolated (slice_get (root_openings isolated es) 0))
  root_named es = go (slice_get (root_openings isolated es) 0) refl
    where
      in_order : (j k : ℕ) → j ≤ k → FaultPrecedes (fault_not_isolated j) (fault_not_isolated k)
      in_order j k le = met (cases_lt j k)
        where
          met : (j < k) ⊎ (k ≤ j) → FaultPrecedes (fault_not_isolated j) (fault_not_isolated k)
          met (inl x) = inl x
          met (inr x) = inr (omega arith, inr (refl, omega arith))

      go : (o : Option ℕ) → slice_get (root_openings isolated es) 0 ≡ o → IsNamed (IsRootFault isolated es) (option_map fault_not_isolated o)
      go None e = λ f h. no_first (root_openings isolated es) h.0 h.1 e h.2
        where
          no_first : (ks : List ℕ) (i k : ℕ) → slice_get ks 0 ≡ None → slice_get ks i ≡ Some k → ⊥
          no_first [] i k e h = none k h
          no_first (x ∷ ks) i k e h = cc
      go (Some first) e = ((0, first, e, refl), λ g h. subst (FaultPrecedes (fault_not_isolated first)) (sym h.3) (in_order first h.1 (first_opening beginning es h.0 h.1 first e h.2)))

module _ (isolated : ℕ → Bool) (names : List ℕ) (a b : List Event) where
  -- ---- the root

  root_split : root_openings isolated (a ++ b) ≡ root_openings isolated a ++ each isolated opened_below_root (arrived (λ f. f.labels) labels_part isolated beginning a) b
  root_split = each_append (λ f. f.labels) labels_part isolated opened_below_root beginning a b

  root_stays : (f : Fault) → IsRootFault isolated a f → IsRootFault isolated (a ++ b) f
  root_stays f h = (h.0, h.1, subst (λ ks. slice_get ks h.0 ≡ Some h.1) (sym root_split) (get_more (root_openings isolated a) (each isolated opened_below_root (arrived (λ f. f.labels) labels_part isolated beginning a) b) h.0 h.1 h.2), h.3)

  root_later : (f : Fault) → IsRootFault isolated (a ++ b) f → IsRootFault isolated a f ⊎ (tooks a ≤ f.met + 1)
  root_later f h = elim (get_append (root_openings isolated a) (each isolated opened_below_root (arrived (λ f. f.labels) labels_part isolated beginning a) b) h.0 h.1 (subst (λ ks. slice_get ks h.0 ≡ Some h.1) root_split h.2)) [
    | inl x ↦ inl (h.0, h.1, x, h.3)
    | inr y ↦ inr
        (let low = openings_from isolated (arrived (λ f. f.labels) labels_part isolated beginning a) b y.0 h.1 y.2 in
        let taken = arrived_tokens (λ f. f.labels) labels_part isolated beginning a in
        let met : f.met ≡ h.1 = ap (λ g. g.met) h.3 in
        omega arith)
  ]

  -- ---- names of one sort

  module _ (scope place : Frame → ℕ) (part : IsScopePart scope) (f g : EventPlace → Event → List Site) (f_here : IsMadeHere scope f) (g_here : IsMadeHere scope g) where
    abbrev close : EventPlace → Event → List Closing
    close = ends scope part isolated place

    -- the names in events: those that f defines, and those that g mentions
    abbrev named_in : List Event → Names
    named_in es = record { definitions = each isolated f beginning es; mentions = each isolated g beginning es; closings = each isolated close beginning es }

    there : EventPlace
    there = arrived scope part isolated beginning a

    more : {A : Type 0} (h : EventPlace → Event → List A) → List A
    more h = each isolated h there b

    begun : IsOrdered scope beginning
    begun = record { here = omega (arith, part.outside 0); around = tt }

    split : {A : Type 0} (h : EventPlace → Event → List A) → each isolated h beginning (a ++ b) ≡ each isolated h beginning a ++ more h
    unfolding there more
    split h = each_append scope part isolated h beginning a b

    past : (h : EventPlace → Event → List Site) → IsMadeHere scope h
        → (i : ℕ) (c : Closing) → slice_get (each isolated close beginning a) i ≡ Some c → (k : ℕ) (x : Site) → slice_get (more h) k ≡ Some x → x.scope ≡ c.scope → ⊥
    unfolding there more
    past h here i c ended k x = none_past scope part isolated h here c.scope there b (all_past scope part isolated place beginning a begun i c ended) k x

    low : {A : Type 0} (h : EventPlace → Event → List A) (token : A → ℕ) → ((at : EventPlace) (e : Event) (i : ℕ) (x : A) → slice_get (h at e) i ≡ Some x → token x ≡ last_token at)
        → (i : ℕ) (x : A) → slice_get (more h) i ≡ Some x → tooks a ≤ token x + 1
    unfolding there more
    low h token here i x k = let r = each_from scope part isolated h token here there b i x k in let t = arrived_tokens scope part isolated beginning a in omega arith

    -- the names in both are those of one behind those of the other
    abbrev both : Names
    both = these (each isolated f beginning a ++ more f) (each isolated g beginning a ++ more g) (each isolated close beginning a ++ more close)

    split_names : named_in (a ++ b) ≡ both
    split_names = same_names (split f) (split g) (split close)

    name_stays : (x : Fault) → HasNameFault names (named_in a) x → HasNameFault names (named_in (a ++ b)) x
    name_stays x h = subst (λ n. HasNameFault names n x) (sym split_names) (go h)
      where
        go : HasNameFault names (named_in a) x → HasNameFault names both x
        go (inl h) = inl (again_stays names (each isolated f beginning a) (more f) x h)
        go (inr h) = inr (lacking_stays names (each isolated f beginning a) (more f) (each isolated g beginning a) (more g) (each isolated close beginning a) (more close) x (past f f_here) h)

    name_later : (x : Fault) → HasNameFault names (named_in (a ++ b)) x → HasNameFault names (named_in a) x ⊎ (tooks a ≤ x.met + 1)
    name_later x h = go (subst (λ n. HasNameFault names n x) split_names h)
      where
        go : HasNameFault names both x
            → HasNameFault names (named_in a) x ⊎ (tooks a ≤ x.met + 1)
        go (inl h) = elim (again_later names (tooks a) (each isolated f beginning a) (more f) x (low f (λ y. y.token) (λ at e i y k. (f_here at e i y k).1)) h) [ inl y ↦ inl (inl y) | inr y ↦ inr y ]
        go (inr h) = elim (lacking_later names (each isolated f beginning a) (more f) (each isolated g beginning a) (more g) (each isolated close beginning a) (more close) (tooks a) x (past g g_here)
            (low close (λ c. c.met) (closed_met scope part isolated place)) h) [ inl y ↦ inl (inr y) | inr y ↦ inr y ]

  -- ---- all of them

  pub stays : (f : Fault) → HasScopeFault isolated names a f → HasScopeFault isolated names (a ++ b) f
  stays f (inl h) = inl (name_stays (λ x. x.values) (λ x. x.values_opened) values_part defined mentioned defined_at mentioned_at f h)
  stays f (inr (inl h)) = inr (inl (name_stays (λ x. x.labels) (λ x. x.labels_opened) labels_part labelled label_mentioned labelled_at label_mentioned_at f h))
  stays f (inr (inr h)) = inr (inr (root_stays f h))

  pub later : (f : Fault) → HasScopeFault isolated names (a ++ b) f → HasScopeFault isolated names a f ⊎ (tooks a ≤ f.met + 1)
  later f (inl h) = elim (name_later (λ x. x.values) (λ x. x.values_opened) values_part defined mentioned defined_at mentioned_at f h) [ inl x ↦ inl (inl x) | inr x ↦ inr x ]
  later f (inr (inl h)) = elim (name_later (λ x. x.labels) (λ x. x.labels_opened) labels_part labelled label_mentioned labelled_at label_mentioned_at f h) [ inl x ↦ inl (inr (inl x)) | inr x ↦ inr x ]
  later f (inr (inr h)) = elim (root_later f h) [ inl x ↦ inl (inr (inr x)) | inr x ↦ inr x ]
