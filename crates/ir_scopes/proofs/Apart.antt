-- Where each name of a value or a block has a token of its own, no two names have one token.
use Rattle.std.proofs.Common.{◌≡◌, ℕ, suc, zero, ◌+◌, ◌<◌, ◌≤◌, Bool, true, false, List, [], ◌∷◌, ◌++◌, length, Some, None, slice_get, refl, sym, subst, ap, ◌∙◌, arith, ◌⊎◌, inl, inr}
use Rattle.std.specs.Bool.{MatchBool}
use Rattle.ir_grammar.specs.declared.grammar.Action.TheVariants.{Result, Argument, Label, Operand, BeginSuccessor}
use Rattle.ir_grammar.specs.declared.grammar.Event.{Event}
use Rattle.ir_grammar.specs.declared.grammar.Event.TheVariants.{Took, Did}
use Rattle.ir_scopes.specs.declared.sites.Site.{Site}
use Rattle.ir_scopes.specs.Scopes.{EventPlace, beginning, behind, last_token, defined, mentioned, labelled, label_mentioned, each, value_names, label_names, IsNameOf, HaveDistinctTokens, SitesAreApart, NamesAreApart}
use Rattle.ir_grammar.specs.Nesting.{names_value_or_block, OwnTokens}

-- ---- what one event makes

-- the event names a value or a block, at the last token
abbrev NamesHere : EventPlace → Event → Site → Type 0
NamesHere at Took s = ⊥
NamesHere at (Did a) s = (names_value_or_block a ≡ true) × (s.token ≡ last_token at)

one : (x s : Site) (i : ℕ) → slice_get (x ∷ []) i ≡ Some s → (i ≡ 0) × (x ≡ s)
one x s zero h = (refl, cc)
one x s (suc i) h = let wrong : None ≡ Some s = h in cc

none : {A : Type 0} (s : Site) → None ≡ Some s → A
none s h = cc

pub defined_here : (at : EventPlace) (e : Event) (i : ℕ) (s : Site) → slice_get (defined at e) i ≡ Some s → (i ≡ 0) × NamesHere at e s
defined_here at Took i s h = none s h
defined_here at (Did Result) i s h = let o = one _ s i h in (o.0, (refl, sym (ap (λ x. x.token) o.1)))
defined_here at (Did Argument) i s h = let o = one _ s i h in (o.0, (refl, sym (ap (λ x. x.token) o.1)))
defined_here at (Did _) i s h = none s h

pub mentioned_here : (at : EventPlace) (e : Event) (i : ℕ) (s : Site) → slice_get (mentioned at e) i ≡ Some s → (i ≡ 0) × NamesHere at e s
mentioned_here at Took i s h = none s h
mentioned_here at (Did Operand) i s h = let o = one _ s i h in (o.0, (refl, sym (ap (λ x. x.token) o.1)))
mentioned_here at (Did _) i s h = none s h

labelled_here : (at : EventPlace) (e : Event) (i : ℕ) (s : Site) → slice_get (labelled at e) i ≡ Some s → (i ≡ 0) × NamesHere at e s
labelled_here at Took i s h = none s h
labelled_here at (Did Label) i s h = let o = one _ s i h in (o.0, (refl, sym (ap (λ x. x.token) o.1)))
labelled_here at (Did _) i s h = none s h

label_mentioned_here : (at : EventPlace) (e : Event) (i : ℕ) (s : Site) → slice_get (label_mentioned at e) i ≡ Some s → (i ≡ 0) × NamesHere at e s
label_mentioned_here at Took i s h = none s h
label_mentioned_here at (Did BeginSuccessor) i s h = let o = one _ s i h in (o.0, (refl, sym (ap (λ x. x.token) o.1)))
label_mentioned_here at (Did _) i s h = none s h

-- no event makes a name of both sorts
abbrev AreOther : (EventPlace → Event → List Site) → (EventPlace → Event → List Site) → Type 0
AreOther f g = (at : EventPlace) (e : Event) (i j : ℕ) (s t : Site) → slice_get (f at e) i ≡ Some s → slice_get (g at e) j ≡ Some t → ⊥

defined_or_mentioned : AreOther defined mentioned
defined_or_mentioned at Took i j s t h k = none s h
defined_or_mentioned at (Did Result) i j s t h k = none t k
defined_or_mentioned at (Did Argument) i j s t h k = none t k
defined_or_mentioned at (Did _) i j s t h k = none s h

defined_or_labelled : AreOther defined labelled
defined_or_labelled at Took i j s t h k = none s h
defined_or_labelled at (Did Result) i j s t h k = none t k
defined_or_labelled at (Did Argument) i j s t h k = none t k
defined_or_labelled at (Did _) i j s t h k = none s h

mentioned_or_labelled : AreOther mentioned labelled
mentioned_or_labelled at Took i j s t h k = none s h
mentioned_or_labelled at (Did Operand) i j s t h k = none t k
mentioned_or_labelled at (Did _) i j s t h k = none s h

defined_or_label_mentioned : AreOther defined label_mentioned
defined_or_label_mentioned at Took i j s t h k = none s h
defined_or_label_mentioned at (Did Result) i j s t h k = none t k
defined_or_label_mentioned at (Did Argument) i j s t h k = none t k
defined_or_label_mentioned at (Did _) i j s t h k = none s h

mentioned_or_label_mentioned : AreOther mentioned label_mentioned
mentioned_or_label_mentioned at Took i j s t h k = none s h
mentioned_or_label_mentioned at (Did Operand) i j s t h k = none t k
mentioned_or_label_mentioned at (Did _) i j s t h k = none s h

labelled_or_label_mentioned : AreOther labelled label_mentioned
labelled_or_label_mentioned at Took i j s t h k = none s h
labelled_or_label_mentioned at (Did Label) i j s t h k = none t k
labelled_or_label_mentioned at (Did _) i j s t h k = none s h

-- ---- lists one behind the other

pub get_append : {X : Type 0} (xs ys : List X) (i : ℕ) (s : X) → slice_get (xs ++ ys) i ≡ Some s → (slice_get xs i ≡ Some s) ⊎ ((j : ℕ) × (i ≡ length xs + j) × (slice_get ys j ≡ Some s))
get_append [] ys i s h = inr (i, omega arith, h)
get_append (x ∷ xs) ys zero s h = inl h
get_append (x ∷ xs) ys (suc i) s h = elim (get_append xs ys i s h) [ inl e ↦ inl e | inr e ↦ inr (e.0, omega (arith, e.1), e.2) ]

-- ---- later names have later tokens

abbrev Low : Bool → EventPlace → ℕ → Type 0
Low true at k = at.tokens ≤ k + 1
Low false at k = at.tokens ≤ k

-- a token that names none yet has been taken
abbrev Fresh : Bool → EventPlace → Type 0
Fresh true at = 0 < at.tokens
Fresh false at = Unit {0}

low_weaker : (fresh : Bool) (at : EventPlace) (k : ℕ) → Low false at k → Low fresh at k
low_weaker true at k h = omega arith
low_weaker false at k h = h

module _ (isolated : ℕ → Bool) where
  after_event : (fresh : Bool) (at : EventPlace) (e : Event) (es : List Event) → Fresh fresh at → OwnTokens fresh (e ∷ es)
      → (next : Bool) × OwnTokens next es × Fresh next (behind isolated at e)
      × ((k : ℕ) → Low next (behind isolated at e) k → Low fresh at k)
      × ((s : Site) → NamesHere at e s → (fresh ≡ true) × ((k : ℕ) → Low next (behind isolated at e) k → s.token < k))
  after_event fresh at Took es f own = (true, own, omega arith, (λ k h. low_weaker fresh at k (let l : at.tokens + 1 ≤ k + 1 = h in omega arith)), λ s h. absurd h)
  after_event fresh at (Did a) es f own = go (names_value_or_block a) refl own
    where
      go : (b : Bool) → names_value_or_block a ≡ b → MatchBool b ((fresh ≡ true) × OwnTokens false es) (OwnTokens fresh es)
          → (next : Bool) × OwnTokens next es × Fresh next (behind isolated at (Did a))
          × ((k : ℕ) → Low next (behind isolated at (Did a)) k → Low fresh at k)
          × ((s : Site) → NamesHere at (Did a) s → (fresh ≡ true) × ((k : ℕ) → Low next (behind isolated at (Did a)) k → s.token < k))
      go true e h = (false, h.1, tt, (λ k l. low_weaker fresh at k l), λ s n. (h.0, λ k l. (let some : 0 < at.tokens = subst (λ z. Fresh z at) h.0 f in let low : at.tokens ≤ k = l in omega (arith, n.1))))
      go false e h = (fresh, h, kept fresh f, (λ k l. lower fresh k l), λ s n. absurd (let wrong : true ≡ false = sym n.0 ∙ e in cc))
        where
          kept : (z : Bool) → Fresh z at → Fresh z (behind isolated at (Did a))
          kept true h = h
          kept false h = h

          lower : (z : Bool) (k : ℕ) → Low z (behind isolated at (Did a)) k → Low z at k
          lower true k h = h
          lower false k h = h

  module _ (f : EventPlace → Event → List Site) (here : (at : EventPlace) (e : Event) (i : ℕ) (s : Site) → slice_get (f at e) i ≡ Some s → (i ≡ 0) × NamesHere at e s) where
    each_low : (fresh : Bool) (at : EventPlace) (es : List Event) → Fresh fresh at → OwnTokens fresh es → (i : ℕ) (s : Site) → slice_get (each isolated f at es) i ≡ Some s → Low fresh at s.token
    each_low fresh at [] n own i s h = none s h
    each_low fresh at (e ∷ es) n own i s h =
        let go = after_event fresh at e es n own in
        elim (get_append (f at e) (each isolated f (behind isolated at e) es) i s h) [
          | inl x ↦ (let p = (here at e i s x).1 in let q = (go.4 s p).0 in subst (λ z. Low z at s.token) (sym q) (last at e s p))
          | inr x ↦ go.3 s.token (each_low go.0 (behind isolated at e) es go.2 go.1 x.0 s x.2)
        ]
      where
        last : (at : EventPlace) (e : Event) (s : Site) → NamesHere at e s → at.tokens ≤ s.token + 1
        last at Took s p = absurd p
        last at (Did a) s p = omega (arith, p.1)

    -- two names with one token are one
    pub each_distinct : (fresh : Bool) (at : EventPlace) (es : List Event) → Fresh fresh at → OwnTokens fresh es → HaveDistinctTokens (each isolated f at es)
    each_distinct fresh at [] n own i j s t h k e = none s h
    each_distinct fresh at (e ∷ es) n own i j s t h k same =
        let rest = each isolated f (behind isolated at e) es in
        go (get_append (f at e) rest i s h) (get_append (f at e) rest j t k) (λ l m x y. each_distinct next.0 (behind isolated at e) es next.2 next.1 l m s t x y same)
      where
        next : (b : Bool) × OwnTokens b es × Fresh b (behind isolated at e)
            × ((k : ℕ) → Low b (behind isolated at e) k → Low fresh at k)
            × ((s : Site) → NamesHere at e s → (fresh ≡ true) × ((k : ℕ) → Low b (behind isolated at e) k → s.token < k))
        next = after_event fresh at e es n own

        go : (slice_get (f at e) i ≡ Some s) ⊎ ((j : ℕ) × (i ≡ length (f at e) + j) × (slice_get (each isolated f (behind isolated at e) es) j ≡ Some s))
            → (slice_get (f at e) j ≡ Some t) ⊎ ((l : ℕ) × (j ≡ length (f at e) + l) × (slice_get (each isolated f (behind isolated at e) es) l ≡ Some t))
            → ((l m : ℕ) → slice_get (each isolated f (behind isolated at e) es) l ≡ Some s → slice_get (each isolated f (behind isolated at e) es) m ≡ Some t → l ≡ m) → i ≡ j
        go (inl x) (inl y) again = (here at e i s x).0 ∙ sym (here at e j t y).0
        go (inl x) (inr y) again =
            let lt = (next.4 s (here at e i s x).1).1 t.token (each_low next.0 (behind isolated at e) es next.2 next.1 y.0 t y.2) in absurd (omega arith)
        go (inr x) (inl y) again =
            let lt = (next.4 t (here at e j t y).1).1 s.token (each_low next.0 (behind isolated at e) es next.2 next.1 x.0 s x.2) in absurd (omega arith)
        go (inr x) (inr y) again = let same' = again x.0 y.0 x.2 y.2 in omega (arith, x.1, y.1)

  module _ (f g : EventPlace → Event → List Site) (f_here : (at : EventPlace) (e : Event) (i : ℕ) (s : Site) → slice_get (f at e) i ≡ Some s → (i ≡ 0) × NamesHere at e s)
      (g_here : (at : EventPlace) (e : Event) (i : ℕ) (s : Site) → slice_get (g at e) i ≡ Some s → (i ≡ 0) × NamesHere at e s) (other : AreOther f g) where
    -- names of two sorts have different tokens
    each_both : (fresh : Bool) (at : EventPlace) (es : List Event) → Fresh fresh at → OwnTokens fresh es → (i j : ℕ) (s t : Site) → slice_get (each isolated f at es) i ≡ Some s → slice_get (each isolated g at es) j ≡ Some t
        → s.token ≡ t.token → ⊥
    each_both fresh at [] n own i j s t h k same = none s h
    each_both fresh at (e ∷ es) n own i j s t h k same =
        go (get_append (f at e) (each isolated f (behind isolated at e) es) i s h) (get_append (g at e) (each isolated g (behind isolated at e) es) j t k)
        (λ l m x y. each_both next.0 (behind isolated at e) es next.2 next.1 l m s t x y same)
      where
        next : (b : Bool) × OwnTokens b es × Fresh b (behind isolated at e)
            × ((k : ℕ) → Low b (behind isolated at e) k → Low fresh at k)
            × ((s : Site) → NamesHere at e s → (fresh ≡ true) × ((k : ℕ) → Low b (behind isolated at e) k → s.token < k))
        next = after_event fresh at e es n own

        go : (slice_get (f at e) i ≡ Some s) ⊎ ((j : ℕ) × (i ≡ length (f at e) + j) × (slice_get (each isolated f (behind isolated at e) es) j ≡ Some s))
            → (slice_get (g at e) j ≡ Some t) ⊎ ((l : ℕ) × (j ≡ length (g at e) + l) × (slice_get (each isolated g (behind isolated at e) es) l ≡ Some t))
            → ((l m : ℕ) → slice_get (each isolated f (behind isolated at e) es) l ≡ Some s → slice_get (each isolated g (behind isolated at e) es) m ≡ Some t → ⊥) → ⊥
        go (inl x) (inl y) again = other at e i j s t x y
        go (inl x) (inr y) again =
            let lt = (next.4 s (f_here at e i s x).1).1 t.token (each_low g g_here next.0 (behind isolated at e) es next.2 next.1 y.0 t y.2) in omega arith
        go (inr x) (inl y) again =
            let lt = (next.4 t (g_here at e j t y).1).1 s.token (each_low f f_here next.0 (behind isolated at e) es next.2 next.1 x.0 s x.2) in omega arith
        go (inr x) (inr y) again = again x.0 y.0 x.2 y.2

  module _ (es : List Event) (own : OwnTokens false es) where
    values_apart : SitesAreApart (each isolated defined beginning es) (each isolated mentioned beginning es)
    values_apart = record {
      definitions = each_distinct defined defined_here false beginning es tt own;
      mentions = each_distinct mentioned mentioned_here false beginning es tt own;
      both = each_both defined mentioned defined_here mentioned_here defined_or_mentioned false beginning es tt own;
    }

    labels_apart : SitesAreApart (each isolated labelled beginning es) (each isolated label_mentioned beginning es)
    labels_apart = record {
      definitions = each_distinct labelled labelled_here false beginning es tt own;
      mentions = each_distinct label_mentioned label_mentioned_here false beginning es tt own;
      both = each_both labelled label_mentioned labelled_here label_mentioned_here labelled_or_label_mentioned false beginning es tt own;
    }

    value_or_label : (s t : Site) → IsNameOf (value_names isolated es) s → IsNameOf (label_names isolated es) t → s.token ≡ t.token → ⊥
    value_or_label s t (inl x) (inl y) = each_both defined labelled defined_here labelled_here defined_or_labelled false beginning es tt own x.0 y.0 s t x.1 y.1
    value_or_label s t (inl x) (inr y) = each_both defined label_mentioned defined_here label_mentioned_here defined_or_label_mentioned false beginning es tt own x.0 y.0 s t x.1 y.1
    value_or_label s t (inr x) (inl y) = each_both mentioned labelled mentioned_here labelled_here mentioned_or_labelled false beginning es tt own x.0 y.0 s t x.1 y.1
    value_or_label s t (inr x) (inr y) =
        each_both mentioned label_mentioned mentioned_here label_mentioned_here mentioned_or_label_mentioned false beginning es tt own x.0 y.0 s t x.1 y.1

    pub are_apart : NamesAreApart (value_names isolated es) (label_names isolated es)
    are_apart = record { values = values_apart; labels = labels_apart; both = value_or_label }
