-- In a whole text the scope of each mention of a value or a block ends.
use Rattle.std.proofs.Common.{◌≡◌, ℕ, suc, ◌+◌, nat_eq, Bool, true, false, cond, ◌&&◌, List, [], ◌∷◌, ◌++◌, map, Some, None, slice_get, refl, sym, subst, ap, ◌∙◌, arith, ◌⊎◌, inl, inr}
use Rattle.std.proofs.lemmas.Bool.{cases_eq}
use Rattle.std.proofs.lemmas.Bool.Decides.{nat_tests}
use Rattle.ir_grammar.specs.declared.grammar.Action.{Action}
use Rattle.ir_grammar.specs.declared.grammar.Action.TheVariants.{Result, Operation, EndOperation, BeginRegion, EndRegion, Begin, End}
use Rattle.ir_grammar.specs.declared.grammar.Event.{Event}
use Rattle.ir_grammar.specs.declared.grammar.Event.TheVariants.{Took, Did}
use Rattle.ir_scopes.specs.declared.sites.Closing.{Closing}
use Rattle.ir_scopes.specs.declared.sites.Frame.{Frame}
use Rattle.ir_scopes.specs.declared.sites.Site.{Site}
use Rattle.ir_grammar.specs.Nesting.{Position, at_root, behind_root_results, at_end, in_operation, in_operands, in_successor, in_region, in_header, in_argument, in_block, behind_results, in_value, in_list, in_item, in_choice, Move, goes_to, goes_in, goes_out, nowhere, end_move, move, NestsBy}
use Rattle.ir_forest.specs.Progress.{Leads}
use Rattle.ir_scopes.specs.Scopes.{EventPlace, beginning, behind, rest, here_behind_operation, here_behind_region, mentioned, label_mentioned, ended, each, mentions, closings, label_mentions, label_closings}
use Rattle.ir_scopes.proofs.Apart.{get_append}
use Rattle.ir_print.specs.declared.format.ValueSort.{ValueSort}
use Rattle.ir_print.specs.declared.format.ValueSort.TheVariants as sorts
use Rattle.ir_scopes.proofs.ScopeFronts.{IsMadeHere, mentioned_at, label_mentioned_at, IsScopePart, values_part, labels_part, IsOrdered, ordered_next, end, ends}

none : {X : Type 0} {A : Type 0} (s : X) → None ≡ Some s → A
none s h = cc

-- ---- what is open at positions

-- what a position is in: before all, behind all, in an operation, in a region, or in a part of these
data Inside : Type 0 where
  before_all behind_all operations regions parts : Inside

abbrev inside : Position → Inside
inside at_root = before_all
inside behind_root_results = before_all
inside at_end = behind_all
inside in_operation = operations
inside in_region = regions
inside _ = parts

same : Inside → Inside → Bool
same before_all before_all = true
same behind_all behind_all = true
same operations operations = true
same regions regions = true
same parts parts = true
same _ _ = false

wrong_same : {A : Type 0} → false ≡ true → A
wrong_same h = cc

same_is : (x y : Inside) → same x y ≡ true → x ≡ y
unfolding same
same_is before_all before_all h = refl
same_is behind_all behind_all h = refl
same_is operations operations h = refl
same_is regions regions h = refl
same_is parts parts h = refl
same_is _ _ h = wrong_same h

both_true : (a b : Bool) → a && b ≡ true → (a ≡ true) × (b ≡ true)
both_true true true h = (refl, refl)
both_true true false h = wrong_same h
both_true false b h = wrong_same h

abbrev WithFrame : List Frame → (Frame → List Frame → Type 0) → Type 0
WithFrame [] R = ⊥
WithFrame (g ∷ gs) R = R g gs

changes : Action → Bool
changes (Operation n) = true
changes EndOperation = true
changes BeginRegion = true
changes EndRegion = true
changes _ = false

wrong_change : {A : Type 0} → true ≡ false → A
wrong_change h = cc

later_get : {X : Type 0} (xs ys : List X) (k : ℕ) (s : X) → slice_get ys k ≡ Some s → (j : ℕ) × (slice_get (xs ++ ys) j ≡ Some s)
later_get [] ys k s h = (k, h)
later_get (x ∷ xs) ys k s h = let r = later_get xs ys k s h in (suc r.0, r.1)

first_get : {X : Type 0} (xs ys : List X) (s : X) → slice_get xs 0 ≡ Some s → slice_get (xs ++ ys) 0 ≡ Some s
first_get [] ys s h = none s h
first_get (x ∷ xs) ys s h = h

-- a scope ends where what follows is in another
ends_now : (x : Closing) (next : ℕ) → (next ≡ x.scope → ⊥) → (c : Closing) × (slice_get (ended x next) 0 ≡ Some c) × (c.scope ≡ x.scope)
ends_now x next apart = go (nat_eq next x.scope) (grind (arith, nat_tests, apart))
  where
    go : (b : Bool) → b ≡ false → (c : Closing) × (slice_get (cond b [] (x ∷ [])) 0 ≡ Some c) × (c.scope ≡ x.scope)
    go false e = (x, refl, refl)
    go true e = wrong_change e

-- moves that leave the frames as they are
is_neutral : Position → Move → Bool
is_neutral p (goes_to next) = same (inside next) (inside p)
is_neutral p (goes_in inner next) = same (inside inner) parts && same (inside next) (inside p)
is_neutral p goes_out = same (inside p) parts
is_neutral p nowhere = true

neutral_end : (sort s : ValueSort) → is_neutral (in_value sort) (end_move sort s) ≡ true
unfolding same is_neutral
neutral_end sorts.«Type» sorts.«Type» = refl
neutral_end sorts.«Type» sorts.Attribute = refl
neutral_end sorts.Attribute sorts.«Type» = refl
neutral_end sorts.Attribute sorts.Attribute = refl

neutral : (a : Action) (p : Position) → changes a ≡ false → is_neutral p (move p a) ≡ true
unfolding same changes is_neutral
neutral (Operation n) p h = wrong_change h
neutral EndOperation p h = wrong_change h
neutral BeginRegion p h = wrong_change h
neutral EndRegion p h = wrong_change h
neutral _ at_root h = refl
neutral _ behind_root_results h = refl
neutral _ at_end h = refl
neutral _ in_operation h = refl
neutral _ in_operands h = refl
neutral _ in_successor h = refl
neutral _ in_region h = refl
neutral _ in_header h = refl
neutral (Begin sorts.«Type» kind) in_argument h = refl
neutral _ in_argument h = refl
neutral _ in_block h = refl
neutral _ behind_results h = refl
neutral (End s) (in_value sort) h = neutral_end sort s
neutral _ (in_value sort) h = refl
neutral _ in_list h = refl
neutral _ in_item h = refl
neutral _ in_choice h = refl

-- ---- the scopes of one sort of names

module _ (scope : Frame → ℕ) where
  -- the frames of what is open, by what the positions are in: the last is outside of all operations, and the root's has its scope
  abbrev RootFits : Inside → Inside → Frame → List Frame → Type 0
  RootFits operations behind_all f (g ∷ []) = scope f ≡ scope g
  RootFits _ _ f _ = ⊥

  abbrev StepFits : Inside → Frame → List Frame → (Frame → List Frame → Type 0) → Type 0
  StepFits operations f fs R = WithFrame fs (λ g gs. (scope f ≡ scope g) × R g gs)
  StepFits regions f fs R = WithFrame fs R
  StepFits parts f fs R = R f fs
  StepFits _ f fs R = ⊥

  abbrev Fits : Inside → Inside → List Inside → Frame → List Frame → Type 0
  Fits k q [] f fs = RootFits k q f fs
  Fits k q (r ∷ rs) f fs = StepFits k f fs (λ g gs. Fits q r rs g gs)

  fits_some : (rs : List Inside) (k q : Inside) (f : Frame) → Fits k q rs f [] → ⊥
  fits_some [] operations behind_all f h = h
  fits_some [] operations _ f h = h
  fits_some [] _ _ f h = h
  fits_some (r ∷ rs) operations q f h = h
  fits_some (r ∷ rs) regions q f h = h
  fits_some (r ∷ rs) parts q f h = fits_some rs q r f h
  fits_some (r ∷ rs) before_all q f h = h
  fits_some (r ∷ rs) behind_all q f h = h

  fits_not_before : (rs : List Inside) (q : Inside) (f : Frame) (fs : List Frame) → Fits before_all q rs f fs → ⊥
  fits_not_before [] q f fs h = h
  fits_not_before (r ∷ rs) q f fs h = h

  -- ---- moves that leave the frames as they are

  stay : (mv : Move) (p q : Position) (qs : List Position) (f : Frame) (fs : List Frame) (R : Position → List Position → Type 0) → is_neutral p mv ≡ true
      → Fits (inside p) (inside q) (map inside qs) f fs → NestsBy mv (q ∷ qs) R
      → (p' : Position) × (q' : Position) × (qs' : List Position) × Fits (inside p') (inside q') (map inside qs') f fs × R p' (q' ∷ qs')
  unfolding is_neutral
  stay (goes_to next) p q qs f fs R e fit h = (next, q, qs, subst (λ k. Fits k (inside q) (map inside qs) f fs) (sym (same_is (inside next) (inside p) e)) fit, h)
  stay (goes_in inner next) p q qs f fs R e fit h =
      let b = both_true (same (inside inner) parts) (same (inside next) (inside p)) e in (
        inner,
        next,
        q ∷ qs,
        subst (λ k. StepFits k f fs (λ g gs. Fits (inside next) (inside q) (map inside qs) g gs)) (sym (same_is (inside inner) parts b.0))
            (subst (λ k. Fits k (inside q) (map inside qs) f fs) (sym (same_is (inside next) (inside p) b.1)) fit),
        h,
      )
  stay goes_out p q [] f fs R e fit h = absurd (subst (λ k. RootFits k (inside q) f fs) (same_is (inside p) parts e) fit)
  stay goes_out p q (r ∷ rs) f fs R e fit h = (q, r, rs, subst (λ k. StepFits k f fs (λ g gs. Fits (inside q) (inside r) (map inside rs) g gs)) (same_is (inside p) parts e) fit, h)
  stay nowhere p q qs f fs R e fit h = absurd h

  -- ---- scopes that are open

  abbrev HasScope : ℕ → Frame → List Frame → Type 0
  HasScope v f [] = scope f ≡ v
  HasScope v f (g ∷ gs) = (scope f ≡ v) ⊎ HasScope v g gs

  has_here : (v : ℕ) (f : Frame) (fs : List Frame) → scope f ≡ v → HasScope v f fs
  has_here v f [] e = e
  has_here v f (g ∷ gs) e = inl e

module _ (scope place : Frame → ℕ) (part : IsScopePart scope) (isolated : ℕ → Bool) where
  abbrev end_at : EventPlace → Closing
  end_at = end scope part isolated place

  -- the end of a scope that an event makes
  abbrev closes_at : EventPlace → Event → List Closing
  closes_at = ends scope part isolated place

  -- the scope ends in what follows
  abbrev Closes : EventPlace → List Event → ℕ → Type 0
  Closes at es v = (k : ℕ) × (c : Closing) × (slice_get (each isolated closes_at at es) k ≡ Some c) × (c.scope ≡ v)

  abbrev ClosesNow : EventPlace → Event → ℕ → Type 0
  ClosesNow at e v = (c : Closing) × (slice_get (closes_at at e) 0 ≡ Some c) × (c.scope ≡ v)

  later : (at : EventPlace) (e : Event) (es : List Event) (v : ℕ) → Closes (behind isolated at e) es v → Closes at (e ∷ es) v
  later at e es v h = let r = later_get (closes_at at e) (each isolated closes_at (behind isolated at e) es) h.0 h.1 h.2 in (r.0, h.1, r.1, h.3)

  now : (at : EventPlace) (e : Event) (es : List Event) (v : ℕ) → ClosesNow at e v → Closes at (e ∷ es) v
  now at e es v h = (0, h.0, first_get (closes_at at e) (each isolated closes_at (behind isolated at e) es) h.0 h.1, h.2)

  -- where what follows an event goes on, inside of the root
  abbrev Goes : Position → Position → List Position → EventPlace → List Event → Type 0
  Goes p q qs at es = Fits scope (inside p) (inside q) (map inside qs) at.here at.around × Leads p (q ∷ qs) es at_end []

  -- behind an event: what is open stays so or ends, or all ends
  abbrev Advances : EventPlace → Event → List Event → Type 0
  Advances at e es =
      ((p : Position) × (q : Position) × (qs : List Position) × Goes p q qs (behind isolated at e) es
      × ((v : ℕ) → HasScope scope v at.here at.around → HasScope scope v (behind isolated at e).here (behind isolated at e).around ⊎ ClosesNow at e v))
      ⊎ (Leads at_end [] es at_end [] × ((v : ℕ) → HasScope scope v at.here at.around → ClosesNow at e v))

  begins_operation : (p : Position) (n : ℕ) (around : List Position) (R : Position → List Position → Type 0) → NestsBy (move p (Operation n)) around R
      → (next : Position) × ((inside next ≡ inside p) ⊎ (inside p ≡ before_all)) × R in_operation (next ∷ around)
  begins_operation at_root n around R h = (at_end, inr refl, h)
  begins_operation behind_root_results n around R h = (at_end, inr refl, h)
  begins_operation in_block n around R h = (in_block, inl refl, h)
  begins_operation behind_results n around R h = (in_block, inl refl, h)
  begins_operation _ n around R h = absurd h

  begins_region : (p : Position) (around : List Position) (R : Position → List Position → Type 0) → NestsBy (move p BeginRegion) around R
      → (inside p ≡ operations) × R in_region (in_operation ∷ around)
  begins_region in_operation around R h = (refl, h)
  begins_region _ around R h = absurd h

  ends_operation : (p q : Position) (qs : List Position) (R : Position → List Position → Type 0) → NestsBy (move p EndOperation) (q ∷ qs) R → (inside p ≡ operations) × R q qs
  ends_operation in_operation q qs R h = (refl, h)
  ends_operation _ q qs R h = absurd h

  ends_region : (p q : Position) (qs : List Position) (R : Position → List Position → Type 0) → NestsBy (move p EndRegion) (q ∷ qs) R → (inside p ≡ regions) × R q qs
  ends_region in_region q qs R h = (refl, h)
  ends_region _ q qs R h = absurd h

  is_end : (q : Position) → inside q ≡ behind_all → q ≡ at_end
  is_end at_end h = refl
  is_end at_root h = let wrong : before_all ≡ behind_all = h in cc
  is_end behind_root_results h = let wrong : before_all ≡ behind_all = h in cc
  is_end in_operation h = let wrong : operations ≡ behind_all = h in cc
  is_end in_region h = let wrong : regions ≡ behind_all = h in cc
  is_end _ h = let wrong : parts ≡ behind_all = h in cc

  root_fits : (q : Inside) (f : Frame) (fs : List Frame) → RootFits scope operations q f fs → (q ≡ behind_all) × (g : Frame) × (fs ≡ g ∷ []) × (scope f ≡ scope g)
  root_fits behind_all f (g ∷ []) h = (refl, g, refl, h)
  root_fits behind_all f [] h = absurd h
  root_fits behind_all f (g ∷ k ∷ gs) h = absurd h
  root_fits before_all f fs h = absurd h
  root_fits operations f fs h = absurd h
  root_fits regions f fs h = absurd h
  root_fits parts f fs h = absurd h

  -- the place behind the end of an operation, with these frames around
  abbrev behind_operation : EventPlace → List Frame → EventPlace
  behind_operation at fs = record { events = at.events + 1; tokens = at.tokens; here = here_behind_operation at.events fs; around = rest fs }

  abbrev behind_region : EventPlace → List Frame → EventPlace
  behind_region at fs = record { events = at.events + 1; tokens = at.tokens; here = here_behind_region at.here fs; around = rest fs }

  end_of_operation : (at : EventPlace) (es : List Event) (q : Position) (qs : List Position) → Fits scope operations (inside q) (map inside qs) at.here at.around → IsOrdered scope at → Leads q qs es at_end []
      → Advances at (Did EndOperation) es
  end_of_operation at es q [] fit o h = inr (subst (λ z. Leads z [] es at_end []) (is_end q r.0) h, λ v has. closing v (only at.around v has r.2))
    where
      r : (inside q ≡ behind_all) × (g : Frame) × (at.around ≡ g ∷ []) × (scope at.here ≡ scope g)
      r = root_fits (inside q) at.here at.around fit

      only : (fs : List Frame) (v : ℕ) → HasScope scope v at.here fs → fs ≡ r.1 ∷ [] → scope at.here ≡ v
      only fs v has e = elim (subst (HasScope scope v at.here) e has) [ inl x ↦ x | inr x ↦ r.3 ∙ x ]

      closing : (v : ℕ) → scope at.here ≡ v → ClosesNow at (Did EndOperation) v
      closing v e =
          let old = o.here in
          let new : scope (here_behind_operation at.events at.around) ≡ at.events + 1 = ap (λ fs. scope (here_behind_operation at.events fs)) r.2 ∙ part.outside (at.events + 1) in
          let c = ends_now (end_at at) (scope (here_behind_operation at.events at.around)) (λ x. omega (arith, x, new, old)) in
          (c.0, c.1, c.2 ∙ e)
  end_of_operation at es q (r ∷ rs) fit o h = inl (q, r, rs, (go at.around fit, h), λ v has. inl (keep v at.around fit has))
    where
      go : (fs : List Frame) → WithFrame fs (λ g gs. (scope at.here ≡ scope g) × Fits scope (inside q) (inside r) (map inside rs) g gs)
          → Fits scope (inside q) (inside r) (map inside rs) (here_behind_operation at.events fs) (rest fs)
      go [] x = absurd x
      go (g ∷ []) x = absurd (fits_some scope (map inside rs) (inside q) (inside r) g x.1)
      go (g ∷ k ∷ gs) x = x.1

      keep : (v : ℕ) (fs : List Frame) → WithFrame fs (λ g gs. (scope at.here ≡ scope g) × Fits scope (inside q) (inside r) (map inside rs) g gs) → HasScope scope v at.here fs
          → HasScope scope v (here_behind_operation at.events fs) (rest fs)
      keep v [] x has = absurd x
      keep v (g ∷ []) x has = absurd (fits_some scope (map inside rs) (inside q) (inside r) g x.1)
      keep v (g ∷ k ∷ gs) x (inl e) = inl (sym x.0 ∙ e)
      keep v (g ∷ k ∷ gs) x (inr e) = e

  end_of_region : (at : EventPlace) (es : List Event) (q : Position) (qs : List Position) → Fits scope regions (inside q) (map inside qs) at.here at.around → Leads q qs es at_end []
      → Advances at (Did EndRegion) es
  end_of_region at es q [] fit h = absurd fit
  end_of_region at es q (r ∷ rs) fit h = inl (q, r, rs, (go at.around fit, h), λ v has. keep v at.around fit has)
    where
      go : (fs : List Frame) → WithFrame fs (λ g gs. Fits scope (inside q) (inside r) (map inside rs) g gs)
          → Fits scope (inside q) (inside r) (map inside rs) (here_behind_region at.here fs) (rest fs)
      go [] x = absurd x
      go (g ∷ gs) x = x

      keep : (v : ℕ) (fs : List Frame) → WithFrame fs (λ g gs. Fits scope (inside q) (inside r) (map inside rs) g gs) → HasScope scope v at.here fs
          → HasScope scope v (here_behind_region at.here fs) (rest fs) ⊎ ((c : Closing) × (slice_get (ended (end_at at) (scope (here_behind_region at.here fs))) 0 ≡ Some c) × (c.scope ≡ v))
      keep v [] x has = absurd x
      keep v (g ∷ gs) x (inr e) = inl e
      keep v (g ∷ gs) x (inl e) = elim (cases_eq (scope g) (scope at.here)) [
        | inl y ↦ inl (has_here scope v g gs (y ∙ e))
        | inr y ↦ inr (let c = ends_now (end_at at) (scope g) y in (c.0, c.1, c.2 ∙ e))
      ]

  advances : (a : Action) (at : EventPlace) (es : List Event) (p q : Position) (qs : List Position) → Fits scope (inside p) (inside q) (map inside qs) at.here at.around → IsOrdered scope at
      → NestsBy (move p a) (q ∷ qs) (λ next more. Leads next more es at_end []) → Advances at (Did a) es
  unfolding changes
  advances (Operation n) at es p q qs fit o h =
      let b = begins_operation p n (q ∷ qs) (λ next more. Leads next more es at_end []) h in
      elim b.1 [
        | inl e ↦ inl (in_operation, b.0, q ∷ qs, ((part.operation (isolated n) at.here, subst (λ k. Fits scope k (inside q) (map inside qs) at.here at.around) (sym e) fit), b.2), λ v has. inl (inr has))
        | inr e ↦ absurd (fits_not_before scope (map inside qs) (inside q) at.here at.around (subst (λ k. Fits scope k (inside q) (map inside qs) at.here at.around) e fit))
      ]
  advances BeginRegion at es p q qs fit o h =
      let b = begins_region p (q ∷ qs) (λ next more. Leads next more es at_end []) h in
      inl (in_region, in_operation, q ∷ qs, (subst (λ k. Fits scope k (inside q) (map inside qs) at.here at.around) b.0 fit, b.1), λ v has. inl (inr has))
  advances EndOperation at es p q qs fit o h =
      let b = ends_operation p q qs (λ next more. Leads next more es at_end []) h in
      end_of_operation at es q qs (subst (λ k. Fits scope k (inside q) (map inside qs) at.here at.around) b.0 fit) o b.1
  advances EndRegion at es p q qs fit o h =
      let b = ends_region p q qs (λ next more. Leads next more es at_end []) h in
      end_of_region at es q qs (subst (λ k. Fits scope k (inside q) (map inside qs) at.here at.around) b.0 fit) b.1
  advances a at es p q qs fit o h =
      let s = stay scope (move p a) p q qs at.here at.around (λ next more. Leads next more es at_end []) (neutral a p refl) fit h in
      inl (s.0, s.1, s.2, (s.3, s.4), λ v has. inl has)

  -- what is open ends
  closes : (es : List Event) (at : EventPlace) (p q : Position) (qs : List Position) → Fits scope (inside p) (inside q) (map inside qs) at.here at.around → IsOrdered scope at
      → Leads p (q ∷ qs) es at_end [] → (v : ℕ) → HasScope scope v at.here at.around → Closes at es v
  closes [] at p q qs fit o h v has = let wrong : q ∷ qs ≡ [] = h.1 in cc
  closes (Took ∷ es) at p q qs fit o h v has = later at Took es v (closes es (behind isolated at Took) p q qs fit (ordered_next scope part isolated at Took o) h v has)
  closes (Did a ∷ es) at p q qs fit o h v has = go (advances a at es p q qs fit o h) (λ p' q' qs' fit' h' has'. closes es (behind isolated at (Did a)) p' q' qs' fit' (ordered_next scope part isolated at (Did a) o) h' v has')
    where
      go : Advances at (Did a) es
          → ((p' q' : Position) (qs' : List Position) → Fits scope (inside p') (inside q') (map inside qs') (behind isolated at (Did a)).here (behind isolated at (Did a)).around
          → Leads p' (q' ∷ qs') es at_end [] → HasScope scope v (behind isolated at (Did a)).here (behind isolated at (Did a)).around → Closes (behind isolated at (Did a)) es v)
          → Closes at (Did a ∷ es) v
      go (inl x) again = elim (x.4 v has) [
        | inl y ↦ later at (Did a) es v (again x.0 x.1 x.2 x.3.0 x.3.1 y)
        | inr y ↦ now at (Did a) es v y
      ]
      go (inr x) again = now at (Did a) es v (x.1 v has)

  -- ---- mentions

  -- events mention names in the scope of their places, but tokens, results and what begins an operation mention none
  record IsMention (mention : EventPlace → Event → List Site) : Type 0 where
    made : IsMadeHere scope mention
    took : (at : EventPlace) → mention at Took ≡ []
    result : (at : EventPlace) → mention at (Did Result) ≡ []
    operation : (n : ℕ) (at : EventPlace) → mention at (Did (Operation n)) ≡ []

  module _ (mention : EventPlace → Event → List Site) (is : IsMention mention) where
    -- the scope of each mention ends
    abbrev Ends : EventPlace → List Event → Type 0
    Ends at es = (i : ℕ) (m : Site) → slice_get (each isolated mention at es) i ≡ Some m → Closes at es m.scope

    -- where an event mentions nothing, all is mentioned behind it
    behind_silent : (at : EventPlace) (e : Event) (es : List Event) → mention at e ≡ [] → Ends (behind isolated at e) es → Ends at (e ∷ es)
    behind_silent at e es silent ends i m x =
        later at e es m.scope (ends i m (subst (λ xs. slice_get (xs ++ each isolated mention (behind isolated at e) es) i ≡ Some m) silent x))

    -- behind all nothing is mentioned
    quiet : (es : List Event) (at : EventPlace) → Leads at_end [] es at_end [] → Ends at es
    quiet [] at h i m x = none m x
    quiet (Took ∷ es) at h i m x = behind_silent at Took es (is.took at) (quiet es (behind isolated at Took) h) i m x
    quiet (Did a ∷ es) at h i m x = absurd h

    inner : (es : List Event) (at : EventPlace) (p q : Position) (qs : List Position) → Fits scope (inside p) (inside q) (map inside qs) at.here at.around → IsOrdered scope at
        → Leads p (q ∷ qs) es at_end [] → Ends at es
    inner [] at p q qs fit o h i m x = none m x
    inner (Took ∷ es) at p q qs fit o h i m x = behind_silent at Took es (is.took at) (inner es (behind isolated at Took) p q qs fit (ordered_next scope part isolated at Took o) h) i m x
    inner (Did a ∷ es) at p q qs fit o h i m x = elim (get_append (mention at (Did a)) (each isolated mention (behind isolated at (Did a)) es) i m x) [
      | inl y ↦ closes (Did a ∷ es) at p q qs fit o h m.scope (has_here scope m.scope at.here at.around (sym (is.made at (Did a) i m y).0))
      | inr y ↦ later at (Did a) es m.scope (go (advances a at es p q qs fit o h)
          (λ p' q' qs' fit' h'. inner es (behind isolated at (Did a)) p' q' qs' fit' (ordered_next scope part isolated at (Did a) o) h') y.0 m y.2)
    ]
      where
        go : Advances at (Did a) es
            → ((p' q' : Position) (qs' : List Position) → Fits scope (inside p') (inside q') (map inside qs') (behind isolated at (Did a)).here (behind isolated at (Did a)).around
            → Leads p' (q' ∷ qs') es at_end [] → Ends (behind isolated at (Did a)) es)
            → Ends (behind isolated at (Did a)) es
        go (inl z) again = again z.0 z.1 z.2 z.3.0 z.3.1
        go (inr z) again = quiet es (behind isolated at (Did a)) z.0

    abbrev root_at : Bool → Position
    root_at false = at_root
    root_at true = behind_root_results

    -- in the root
    rooted : (n : ℕ) (es : List Event) (at : EventPlace) → at.around ≡ [] → IsOrdered scope at → Leads in_operation (at_end ∷ []) es at_end [] → Ends at (Did (Operation n) ∷ es)
    rooted n es at e o h = behind_silent at (Did (Operation n)) es (is.operation n at)
        (inner es (behind isolated at (Did (Operation n))) in_operation at_end []
        (subst (λ gs. RootFits scope operations behind_all (behind isolated at (Did (Operation n))).here (at.here ∷ gs)) (sym e) (part.operation (isolated n) at.here))
        (ordered_next scope part isolated at (Did (Operation n)) o) h)

    outer : (es : List Event) (at : EventPlace) (b : Bool) → at.around ≡ [] → IsOrdered scope at → Leads (root_at b) [] es at_end [] → Ends at es
    outer [] at b e o h i m x = none m x
    outer (Took ∷ es) at b e o h i m x = behind_silent at Took es (is.took at) (outer es (behind isolated at Took) b e (ordered_next scope part isolated at Took o) h) i m x
    outer (Did Result ∷ es) at false e o h i m x = behind_silent at (Did Result) es (is.result at) (outer es (behind isolated at (Did Result)) true e (ordered_next scope part isolated at (Did Result) o) h) i m x
    outer (Did Result ∷ es) at true e o h i m x = behind_silent at (Did Result) es (is.result at) (outer es (behind isolated at (Did Result)) true e (ordered_next scope part isolated at (Did Result) o) h) i m x
    outer (Did (Operation n) ∷ es) at false e o h i m x = rooted n es at e o h i m x
    outer (Did (Operation n) ∷ es) at true e o h i m x = rooted n es at e o h i m x
    outer (Did _ ∷ es) at false e o h i m x = absurd h
    outer (Did _ ∷ es) at true e o h i m x = absurd h

    all_end : (es : List Event) → Leads at_root [] es at_end [] → Ends beginning es
    all_end es h = outer es beginning false refl (record { here = omega (arith, part.outside 0); around = tt }) h

-- in a whole text the scope of each mention of a value ends
pub mentions_end : (isolated : ℕ → Bool) (es : List Event) → Leads at_root [] es at_end [] → (i : ℕ) (m : Site) → slice_get (mentions isolated es) i ≡ Some m
    → (k : ℕ) × (c : Closing) × (slice_get (closings isolated es) k ≡ Some c) × (c.scope ≡ m.scope)
mentions_end isolated es h = all_end (λ f. f.values) (λ f. f.values_opened) values_part isolated mentioned
    (record { made = mentioned_at; took = λ at. refl; result = λ at. refl; operation = λ n at. refl }) es h

-- and so does that of each mention of a block
pub label_mentions_end : (isolated : ℕ → Bool) (es : List Event) → Leads at_root [] es at_end [] → (i : ℕ) (m : Site) → slice_get (label_mentions isolated es) i ≡ Some m
    → (k : ℕ) × (c : Closing) × (slice_get (label_closings isolated es) k ≡ Some c) × (c.scope ≡ m.scope)
label_mentions_end isolated es h = all_end (λ f. f.labels) (λ f. f.labels_opened) labels_part isolated label_mentioned
    (record { made = label_mentioned_at; took = λ at. refl; result = λ at. refl; operation = λ n at. refl }) es h
