-- How many parts are open, and where one begins that is too deep.
use Rattle.std.proofs.Common.{true, false, ◌≡◌, ℕ, ◌+◌, ◌-◌, ◌≤◌, List, [], ◌∷◌, ◌++◌, Option, Some, None, is_some, refl, sym, subst, ap, ◌∙◌, arith, ◌⊎◌, inl, inr}
use Rattle.ir_grammar.specs.declared.grammar.Action.{Action}
use Rattle.ir_grammar.specs.declared.grammar.Event.{Event}
use Rattle.ir_grammar.specs.declared.grammar.Event.TheVariants.{Took, Did}
use Rattle.ir_grammar.specs.Reading.{OpensMore, OpensAt, IsFirstDeep, tooks, opens, closes, depth_at, depth_after}
use Rattle.ir_grammar.specs.Run.{IsDepth}
use Rattle.ir_grammar.proofs.Derivations.{tooks_append}

-- what is met later has a later token
pub opens_from : (many n d : ℕ) (es : List Event) (k : ℕ) → OpensAt many n d es k → n - 1 ≤ k
opens_from many n d [] k h = absurd h
opens_from many n d (Took ∷ es) k h = let r = opens_from many (n + 1) d es k h in omega arith
opens_from many n d (Did a ∷ es) k (inl h) = omega arith
opens_from many n d (Did a ∷ es) k (inr h) = opens_from many n (depth_at d a) es k h

-- where too much is open, it is open at a token
pub opens_more : (many n d : ℕ) (es : List Event) → OpensMore many d es → (k : ℕ) × OpensAt many n d es k
opens_more many n d [] h = absurd h
opens_more many n d (Took ∷ es) h = opens_more many (n + 1) d es h
opens_more many n d (Did a ∷ es) (inl h) = (n - 1, inl (h.0, h.1, refl))
opens_more many n d (Did a ∷ es) (inr h) = let r = opens_more many n (depth_at d a) es h in (r.0, inr r.1)

opens_some : (many n d : ℕ) (es : List Event) (k : ℕ) → OpensAt many n d es k → OpensMore many d es
opens_some many n d [] k h = h
opens_some many n d (Took ∷ es) k h = opens_some many (n + 1) d es k h
opens_some many n d (Did a ∷ es) k (inl h) = inl (h.0, h.1)
opens_some many n d (Did a ∷ es) k (inr h) = inr (opens_some many n (depth_at d a) es k h)

-- ---- a front of events

pub opens_stays : (many n d : ℕ) (a b : List Event) (k : ℕ) → OpensAt many n d a k → OpensAt many n d (a ++ b) k
opens_stays many n d [] b k h = absurd h
opens_stays many n d (Took ∷ a) b k h = opens_stays many (n + 1) d a b k h
opens_stays many n d (Did x ∷ a) b k (inl h) = inl h
opens_stays many n d (Did x ∷ a) b k (inr h) = inr (opens_stays many n (depth_at d x) a b k h)

pub opens_later : (many n d : ℕ) (a b : List Event) (k : ℕ) → OpensAt many n d (a ++ b) k → OpensAt many n d a k ⊎ (n + tooks a ≤ k + 1)
opens_later many n d [] b k h = let r = opens_from many n d b k h in inr (omega arith)
opens_later many n d (Took ∷ a) b k h = elim (opens_later many (n + 1) d a b k h) [ inl x ↦ inl x | inr y ↦ inr (omega arith) ]
opens_later many n d (Did x ∷ a) b k (inl h) = inl (inl h)
opens_later many n d (Did x ∷ a) b k (inr h) = elim (opens_later many n (depth_at d x) a b k h) [ inl y ↦ inl (inr y) | inr y ↦ inr y ]

-- nothing opens at a token that is taken
opens_before : (many n d : ℕ) (a : List Event) (k : ℕ) → OpensAt many n d (a ++ Took ∷ []) k → OpensAt many n d a k
opens_before many n d [] k h = h
opens_before many n d (Took ∷ a) k h = opens_before many (n + 1) d a k h
opens_before many n d (Did x ∷ a) k (inl h) = inl h
opens_before many n d (Did x ∷ a) k (inr h) = inr (opens_before many n (depth_at d x) a k h)

-- a last action opens too much where so many parts are open
opens_last : (many n d : ℕ) (a : List Event) (x : Action) (k : ℕ) → k ≡ n + tooks a - 1 → opens x ≡ true → many ≤ depth_after d a → OpensAt many n d (a ++ Did x ∷ []) k
opens_last many n d [] x k e o le = inl (o, le, omega (arith, e))
opens_last many n d (Took ∷ a) x k e o le = opens_last many (n + 1) d a x k (omega (arith, e)) o le
opens_last many n d (Did y ∷ a) x k e o le = inr (opens_last many n (depth_at d y) a x k e o le)

opens_only : (many n d : ℕ) (a : List Event) (x : Action) (k : ℕ) → OpensAt many n d (a ++ Did x ∷ []) k → OpensAt many n d a k ⊎ ((opens x ≡ true) × (many ≤ depth_after d a))
opens_only many n d [] x k (inl h) = inr (h.0, h.1)
opens_only many n d [] x k (inr h) = absurd h
opens_only many n d (Took ∷ a) x k h = opens_only many (n + 1) d a x k h
opens_only many n d (Did y ∷ a) x k (inl h) = inl (inl h)
opens_only many n d (Did y ∷ a) x k (inr h) = elim (opens_only many n (depth_at d y) a x k h) [ inl z ↦ inl (inr z) | inr z ↦ inr z ]

-- where a part is too deep before a token that is taken, too much was open before it
pub deep_before : (many k : ℕ) (old new : List Event) → new ≡ old ++ Took ∷ [] → IsFirstDeep many new (Some k) → OpensMore many 0 old
deep_before many k old new e h = let at = rw e at h in opens_some many 0 0 old k (opens_before many 0 0 old k at.0)

-- ---- the depth

depth_append : (d : ℕ) (a b : List Event) → depth_after d (a ++ b) ≡ depth_after (depth_after d a) b
depth_append d [] b = refl
depth_append d (Took ∷ a) b = depth_append d a b
depth_append d (Did x ∷ a) b = depth_append (depth_at d x) a b

-- too deep stays too deep, whatever comes
pub deep_append : (many n : ℕ) (a b : List Event) → n ≤ tooks a → IsFirstDeep many a (Some (n - 1)) → IsFirstDeep many (a ++ b) (Some (n - 1))
deep_append many n a b le h =
    (opens_stays many 0 0 a b (n - 1) h.0, λ j x. elim (opens_later many 0 0 a b j x) [ inl y ↦ h.1 j y | inr y ↦ omega arith ])

-- a token doesn't change it
pub depth_took : (many n : ℕ) (es : List Event) (d : Option ℕ) → n ≤ tooks es → IsDepth many n es d → IsDepth many n (es ++ Took ∷ []) d
depth_took many n es None le h = deep_append many n es (Took ∷ []) le h
depth_took many n es (Some d) le h = (h.0, h.1 ∙ sym (depth_append 0 es (Took ∷ [])), λ k x. h.2 k (opens_before many 0 0 es k x))

pub tooks_acted : (es : List Event) (a : Action) (n : ℕ) → tooks es ≡ n → tooks (es ++ Did a ∷ []) ≡ n
tooks_acted es a n e = tooks_append es (Did a ∷ []) ∙ omega (arith, e)

-- what is said of the events' tokens is said of their number
pub depth_acted : (many n : ℕ) (es : List Event) (a : Action) (d after : Option ℕ) → tooks es ≡ n
    → ((done : List Event) → IsDepth many (tooks done) done d → IsDepth many (tooks done) (done ++ Did a ∷ []) after)
    → IsDepth many n es d → IsDepth many n (es ++ Did a ∷ []) after
depth_acted many n es a d after e step h = subst (λ k. IsDepth many k (es ++ Did a ∷ []) after) e (step es (subst (λ k. IsDepth many k es d) (sym e) h))

-- where none is known, a part is too deep
pub depth_none : (many n : ℕ) (es : List Event) (d : Option ℕ) → is_some d ≡ false → IsDepth many n es d → IsFirstDeep many es (Some (n - 1))
depth_none many n es None none h = h
depth_none many n es (Some d) none h = cc

-- where one is known, none is, whatever comes next
pub depth_some : (many n m : ℕ) (es : List Event) (d : Option ℕ) → is_some d ≡ true → IsDepth many n es d → IsDepth many m es d
depth_some many n m es None some h = cc
depth_some many n m es (Some d) some h = h

-- where one more is too many
pub depth_passes : (many : ℕ) (es : List Event) (d : ℕ) (a : Action) → IsDepth many (tooks es) es (Some d) → opens a ≡ true → many ≤ d → IsDepth many (tooks es) (es ++ Did a ∷ []) None
depth_passes many es d a h o le =
    (opens_last many 0 0 es a (tooks es - 1) (omega arith) o (rw (← h.1) le), λ j x. elim (opens_later many 0 0 es (Did a ∷ []) j x) [ inl y ↦ absurd (h.2 j y) | inr y ↦ omega arith ])

-- where it isn't
pub depth_did : (many n : ℕ) (es : List Event) (d after : ℕ) (a : Action) → IsDepth many n es (Some d) → (opens a ≡ true → many ≤ d → ⊥) → after ≤ many → after ≡ depth_at d a
    → IsDepth many n (es ++ Did a ∷ []) (Some after)
depth_did many n es d after a h low le e = (
  le,
  e ∙ (ap (λ n. depth_at n a) h.1 ∙ sym (depth_append 0 es (Did a ∷ []))),
  λ k x. elim (opens_only many 0 0 es a k x) [ inl y ↦ h.2 k y | inr y ↦ low y.0 (rw h.1 y.1) ],
)

pub depth_opened : (d : ℕ) (a : Action) → opens a ≡ true → d + 1 ≡ depth_at d a
depth_opened d a o = rw o refl

pub depth_closed : (d : ℕ) (a : Action) → opens a ≡ false → closes a ≡ true → d - 1 ≡ depth_at d a
depth_closed d a o e = rw (o, e) refl

pub depth_left : (d : ℕ) (a : Action) → opens a ≡ false → closes a ≡ false → d ≡ depth_at d a
depth_left d a o e = rw (o, e) refl
