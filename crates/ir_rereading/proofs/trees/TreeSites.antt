-- The names of values in a part of a text: which stand in the scope around it, and whether the others are defined.
use Rattle.std.proofs.Common.{◌≡◌, ℕ, zero, suc, ◌+◌, ◌<◌, ◌≤◌, Bool, List, [], ◌∷◌, ◌++◌, map, Some, None, slice_get, refl, sym, subst, ap, ◌∙◌, arith, ◌⊎◌, inl, inr}
use Rattle.std.proofs.lemmas.List.{append_assoc, map-append}
use Rattle.ir_grammar.specs.declared.grammar.Event.{Event}
use Rattle.ir_grammar.specs.declared.grammar.Event.TheVariants.{Took, Did}
use Rattle.ir_scopes.specs.declared.sites.Site.{Site}
use Rattle.ir_scopes.specs.Scopes.{EventPlace, behind, defined, mentioned, each}
use Rattle.ir_scopes.proofs.ListEnds.{get_more}
use Rattle.ir_scopes.proofs.Apart.{get_append}

-- ---- members of lists

-- it stands in the list
abbrev pub In : {X : Type 0} → X → List X → Type 0
In x xs = (i : ℕ) × (slice_get xs i ≡ Some x)

pub in_left : {X : Type 0} (x : X) (xs ys : List X) → In x xs → In x (xs ++ ys)
in_left x xs ys h = (h.0, get_more xs ys h.0 x h.1)

pub in_right : {X : Type 0} (x : X) (xs ys : List X) → In x ys → In x (xs ++ ys)
in_right x [] ys h = h
in_right x (z ∷ xs) ys h = let r = in_right x xs ys h in (suc r.0, r.1)

pub in_either : {X : Type 0} (x : X) (xs ys : List X) → In x (xs ++ ys) → In x xs ⊎ In x ys
in_either x xs ys h = elim (get_append xs ys h.0 x h.1) [ inl e ↦ inl (h.0, e) | inr e ↦ inr (e.0, e.2) ]

pub in_none : {X : Type 0} {A : Type 0} (x : X) → In x [] → A
in_none x h = let wrong : None ≡ Some x = h.1 in cc

pub in_one : {X : Type 0} (x y : X) → In x (y ∷ []) → y ≡ x
in_one x y (zero, h) = cc
in_one x y (suc i, h) = let wrong : None ≡ Some x = h in cc

pub in_map : {X Y : Type 0} (f : X → Y) (x : X) (xs : List X) → In x xs → In (f x) (map f xs)
in_map f x [] h = in_none x h
in_map f x (z ∷ xs) (zero, h) = (zero, (let same : Some z ≡ Some x = h in let is : z ≡ x = cc in ap (λ w. Some (f w)) is))
in_map f x (z ∷ xs) (suc i, h) = let r = in_map f x xs (i, h) in (suc r.0, r.1)

pub of_map : {X Y : Type 0} (f : X → Y) (y : Y) (xs : List X) → In y (map f xs) → (x : X) × In x xs × (f x ≡ y)
of_map f y [] h = in_none y h
of_map f y (z ∷ xs) (zero, h) = (z, (zero, refl), (let same : Some (f z) ≡ Some y = h in cc))
of_map f y (z ∷ xs) (suc i, h) = let r = of_map f y xs (i, h) in (r.0, (suc r.1.0, r.1.1), r.2)

-- the two lists have the same members
abbrev pub Alike : {X : Type 0} → List X → List X → Type 0
Alike {X = X} xs ys = (x : X) → (In x xs → In x ys) × (In x ys → In x xs)

-- ---- a part of a text

module _ (isolated : ℕ → Bool) where
  -- the place behind events
  abbrev pub arrived : EventPlace → List Event → EventPlace
  arrived at [] = at
  arrived at (e ∷ es) = arrived (behind isolated at e) es

  pub arrived_append : (at : EventPlace) (a b : List Event) → arrived at (a ++ b) ≡ arrived (arrived at a) b
  arrived_append at [] b = refl
  arrived_append at (e ∷ a) b = arrived_append (behind isolated at e) a b

  pub each_append : {A : Type 0} (f : EventPlace → Event → List A) (at : EventPlace) (a b : List Event) → each isolated f at (a ++ b) ≡ each isolated f at a ++ each isolated f (arrived at a) b
  each_append f at [] b = refl
  each_append f at (e ∷ a) b =
      ap (λ x. f at e ++ x) (each_append f (behind isolated at e) a b) ∙ sym (append_assoc (f at e) (each isolated f (behind isolated at e) a) (each isolated f (arrived (behind isolated at e) a) b))

  next_events : (at : EventPlace) (e : Event) → (behind isolated at e).events ≡ at.events + 1
  next_events at Took = refl
  next_events at (Did a) = refl

  pub arrived_events : (at : EventPlace) (es : List Event) → at.events ≤ (arrived at es).events
  arrived_events at [] = omega arith
  arrived_events at (e ∷ es) = omega (arith, next_events at e, arrived_events (behind isolated at e) es)

  -- the definitions of values that events make from a place on
  abbrev pub all_defined_at : EventPlace → List Event → List Site
  all_defined_at at es = each isolated defined at es

  -- the mentions of values that they make
  abbrev pub all_mentioned_at : EventPlace → List Event → List Site
  all_mentioned_at at es = each isolated mentioned at es

  -- the name of a value in this scope, at this token
  abbrev pub site : ℕ → ℕ → Site
  site scope token = record { scope = scope; token = token }

  -- the site is in the scope of the place, or in one that begins in the events
  abbrev pub Stands : EventPlace → List Event → Site → Type 0
  Stands at es s = (s.scope ≡ at.here.values) ⊎ ((at.events < s.scope) × (s.scope ≤ (arrived at es).events))

  module _ {N : Type 0} (g : ℕ → N) where
    -- each value that is mentioned in a scope that begins in the events is defined there, by a token that has the same name
    abbrev pub AreMeant : EventPlace → List Event → Type 0
    AreMeant at es = (m : Site) → In m (all_mentioned_at at es) → (m.scope ≡ at.here.values → ⊥)
        → (d : Site) × In d (all_defined_at at es) × (d.scope ≡ m.scope) × (g d.token ≡ g m.token)

    -- What events have of names from a place on: the tokens of all definitions; those of the definitions and of the mentions in the
    -- scope of the place; the tokens of all mentions; and what says that the others are defined.
    pub record Has (at : EventPlace) (es : List Event) (all own used said : List ℕ) (Q : Type 0) : Type 0 where
      pub tokens : map (λ s. s.token) (all_defined_at at es) ≡ all
      pub stand : (s : Site) → In s (all_defined_at at es) → Stands at es s
      pub mentions_stand : (s : Site) → In s (all_mentioned_at at es) → Stands at es s
      pub defines : (k : ℕ) → In k own → In (site at.here.values k) (all_defined_at at es)
      pub defines_back : (s : Site) → In s (all_defined_at at es) → s.scope ≡ at.here.values → In s.token own
      pub mentions : (k : ℕ) → In k used → In (site at.here.values k) (all_mentioned_at at es)
      pub mentions_back : (s : Site) → In s (all_mentioned_at at es) → s.scope ≡ at.here.values → In s.token used
      pub says : (k : ℕ) → In k said → (s : Site) × In s (all_mentioned_at at es) × (s.token ≡ k)
      pub down : AreMeant at es → Q
      pub up : Q → AreMeant at es

    -- other lists that say the same
    pub change : (at : EventPlace) (es : List Event) (all own used said all' own' used' said' : List ℕ) (Q R : Type 0)
        → all ≡ all' → Alike own own' → Alike used used' → ((k : ℕ) → In k said' → In k said) → (Q → R) → (R → Q) → Has at es all own used said Q → Has at es all' own' used' said' R
    change at es all own used said all' own' used' said' Q R e o u s f b h = record {
      tokens = h.tokens ∙ e;
      stand = h.stand;
      mentions_stand = h.mentions_stand;
      defines = λ k i. h.defines k ((o k).1 i);
      defines_back = λ s i e. (o s.token).0 (h.defines_back s i e);
      mentions = λ k i. h.mentions k ((u k).1 i);
      mentions_back = λ s i e. (u s.token).0 (h.mentions_back s i e);
      says = λ k i. h.says k (s k i);
      down = λ m. f (h.down m);
      up = λ r. h.up (b r);
    }

    -- events without names
    pub has_nothing : (at : EventPlace) (es : List Event) → all_defined_at at es ≡ [] → all_mentioned_at at es ≡ [] → Has at es [] [] [] [] (Unit {0})
    has_nothing at es d m = record {
      tokens = ap (map (λ (s : Site). s.token)) d;
      stand = λ s i. in_none s (subst (In s) d i);
      mentions_stand = λ s i. in_none s (subst (In s) m i);
      defines = λ k i. in_none k i;
      defines_back = λ s i e. in_none s (subst (In s) d i);
      mentions = λ k i. in_none k i;
      mentions_back = λ s i e. in_none s (subst (In s) m i);
      says = λ k i. in_none k i;
      down = λ x. tt;
      up = λ x s i e. in_none s (subst (In s) m i);
    }

    -- one definition
    pub has_definition : (at : EventPlace) (es : List Event) (k : ℕ) → all_defined_at at es ≡ site at.here.values k ∷ [] → all_mentioned_at at es ≡ [] → Has at es (k ∷ []) (k ∷ []) [] [] (Unit {0})
    has_definition at es k d m = record {
      tokens = ap (map (λ (s : Site). s.token)) d;
      stand = λ s i. inl (sym (ap (λ x. x.scope) (in_one s (site at.here.values k) (subst (In s) d i))));
      mentions_stand = λ s i. in_none s (subst (In s) m i);
      defines = λ n i. subst (In (site at.here.values n)) (sym d) (0, ap (λ z. Some (site at.here.values z)) (in_one n k i));
      defines_back = λ s i e. (0, ap (λ x. let t : Site = x in Some t.token) (in_one s (site at.here.values k) (subst (In s) d i)));
      mentions = λ n i. in_none n i;
      mentions_back = λ s i e. in_none s (subst (In s) m i);
      says = λ n i. in_none n i;
      down = λ x. tt;
      up = λ x s i e. in_none s (subst (In s) m i);
    }

    -- one mention
    pub has_mention : (at : EventPlace) (es : List Event) (k : ℕ) → all_defined_at at es ≡ [] → all_mentioned_at at es ≡ site at.here.values k ∷ [] → Has at es [] [] (k ∷ []) (k ∷ []) (Unit {0})
    has_mention at es k d m = record {
      tokens = ap (map (λ (s : Site). s.token)) d;
      stand = λ s i. in_none s (subst (In s) d i);
      mentions_stand = λ s i. inl (scope_of s i);
      defines = λ n i. in_none n i;
      defines_back = λ s i e. in_none s (subst (In s) d i);
      mentions = λ n i. subst (In (site at.here.values n)) (sym m) (0, ap (λ z. Some (site at.here.values z)) (in_one n k i));
      mentions_back = λ s i e. (0, ap (λ x. let t : Site = x in Some t.token) (in_one s (site at.here.values k) (subst (In s) m i)));
      says = λ n i. (site at.here.values k, subst (In (site at.here.values k)) (sym m) (0, refl), in_one n k i);
      down = λ x. tt;
      up = λ x s i e. absurd (e (scope_of s i));
    }
      where
        scope_of : (s : Site) → In s (all_mentioned_at at es) → s.scope ≡ at.here.values
        scope_of s i = sym (ap (λ x. x.scope) (in_one s (site at.here.values k) (subst (In s) m i)))

    -- ---- parts one behind the other

    module _ (at : EventPlace) (a b : List Event) (all own used said all' own' used' said' : List ℕ) (Q R : Type 0) (first : Has at a all own used said Q) (second : Has (arrived at a) b all' own' used' said' R)
        (low : at.here.values ≤ at.events) (same : (arrived at a).here.values ≡ at.here.values) where
      split : {A : Type 0} (f : EventPlace → Event → List A) → each isolated f at (a ++ b) ≡ each isolated f at a ++ each isolated f (arrived at a) b
      split f = each_append f at a b

      ends : (arrived at (a ++ b)).events ≡ (arrived (arrived at a) b).events
      ends = ap (λ p. p.events) (arrived_append at a b)

      wide : at.events ≤ (arrived at a).events
      wide = arrived_events at a

      wider : (arrived at a).events ≤ (arrived (arrived at a) b).events
      wider = arrived_events (arrived at a) b

      cases : (f : EventPlace → Event → List Site) (s : Site) → In s (each isolated f at (a ++ b)) → In s (each isolated f at a) ⊎ In s (each isolated f (arrived at a) b)
      cases f s i = in_either s (each isolated f at a) (each isolated f (arrived at a) b) (subst (In s) (split f) i)

      left : (f : EventPlace → Event → List Site) (s : Site) → In s (each isolated f at a) → In s (each isolated f at (a ++ b))
      left f s i = subst (In s) (sym (split f)) (in_left s (each isolated f at a) (each isolated f (arrived at a) b) i)

      right : (f : EventPlace → Event → List Site) (s : Site) → In s (each isolated f (arrived at a) b) → In s (each isolated f at (a ++ b))
      right f s i = subst (In s) (sym (split f)) (in_right s (each isolated f at a) (each isolated f (arrived at a) b) i)

      stands_left : (s : Site) → Stands at a s → Stands at (a ++ b) s
      stands_left s (inl e) = inl e
      stands_left s (inr r) = inr (r.0, omega (arith, r.1, ends, wider))

      stands_right : (s : Site) → Stands (arrived at a) b s → Stands at (a ++ b) s
      stands_right s (inl e) = inl (e ∙ same)
      stands_right s (inr r) = inr (omega (arith, r.0, wide), omega (arith, r.1, ends))

      stands : (f : EventPlace → Event → List Site) → ((s : Site) → In s (each isolated f at a) → Stands at a s) → ((s : Site) → In s (each isolated f (arrived at a) b) → Stands (arrived at a) b s)
          → (s : Site) → In s (each isolated f at (a ++ b)) → Stands at (a ++ b) s
      stands f x y s i = elim (cases f s i) [ inl j ↦ stands_left s (x s j) | inr j ↦ stands_right s (y s j) ]

      -- a scope that begins in the first part isn't one of the second, nor the other way round
      apart : (s t : Site) → (s.scope ≡ at.here.values → ⊥) → Stands at a s → Stands (arrived at a) b t → t.scope ≡ s.scope → ⊥
      apart s t off (inl e) y same' = off e
      apart s t off (inr x) (inl e) same' = off (sym same' ∙ (e ∙ same))
      apart s t off (inr x) (inr y) same' = omega (arith, x.1, y.0, same')

      down_first : AreMeant at (a ++ b) → AreMeant at a
      down_first h m i off =
          let r = h m (left mentioned m i) off in
          elim (cases defined r.0 r.1) [
            | inl j ↦ (r.0, j, r.2, r.3)
            | inr j ↦ absurd (apart m r.0 off (first.mentions_stand m i) (second.stand r.0 j) r.2)
          ]

      down_second : AreMeant at (a ++ b) → AreMeant (arrived at a) b
      down_second h m i off =
          let off' : m.scope ≡ at.here.values → ⊥ = λ e. off (e ∙ sym same) in
          let r = h m (right mentioned m i) off' in
          elim (cases defined r.0 r.1) [
            | inl j ↦ absurd (apart r.0 m (λ e. off' (sym r.2 ∙ e)) (first.stand r.0 j) (second.mentions_stand m i) (sym r.2))
            | inr j ↦ (r.0, j, r.2, r.3)
          ]

      ups : Q × R → AreMeant at (a ++ b)
      ups q m i off = elim (cases mentioned m i) [
        | inl j ↦ (let r = first.up q.0 m j off in (r.0, left defined r.0 r.1, r.2, r.3))
        | inr j ↦ (let r = second.up q.1 m j (λ e. off (e ∙ same)) in (r.0, right defined r.0 r.1, r.2, r.3))
      ]

      forward : (f : EventPlace → Event → List Site) (xs ys : List ℕ) → ((k : ℕ) → In k xs → In (site at.here.values k) (each isolated f at a))
          → ((k : ℕ) → In k ys → In (site (arrived at a).here.values k) (each isolated f (arrived at a) b)) → (k : ℕ) → In k (xs ++ ys) → In (site at.here.values k) (each isolated f at (a ++ b))
      forward f xs ys x y k i = elim (in_either k xs ys i) [
        | inl j ↦ left f (site at.here.values k) (x k j)
        | inr j ↦ right f (site at.here.values k) (subst (λ v. In (site v k) (each isolated f (arrived at a) b)) same (y k j))
      ]

      backward : (f : EventPlace → Event → List Site) (xs ys : List ℕ) → ((s : Site) → In s (each isolated f at a) → s.scope ≡ at.here.values → In s.token xs)
          → ((s : Site) → In s (each isolated f (arrived at a) b) → s.scope ≡ (arrived at a).here.values → In s.token ys) → (s : Site) → In s (each isolated f at (a ++ b)) → s.scope ≡ at.here.values → In s.token (xs ++ ys)
      backward f xs ys x y s i e = elim (cases f s i) [
        | inl j ↦ in_left s.token xs ys (x s j e)
        | inr j ↦ in_right s.token xs ys (y s j (e ∙ sym same))
      ]

      pub has_append : Has at (a ++ b) (all ++ all') (own ++ own') (used ++ used') (said ++ said') (Q × R)
      has_append = record {
        tokens = ap (map (λ (s : Site). s.token)) (split defined) ∙ (map-append (λ (s : Site). s.token) (all_defined_at at a) (all_defined_at (arrived at a) b)
            ∙ (ap (λ z. z ++ map (λ (s : Site). s.token) (all_defined_at (arrived at a) b)) first.tokens ∙ ap (λ z. all ++ z) second.tokens));
        stand = stands defined first.stand second.stand;
        mentions_stand = stands mentioned first.mentions_stand second.mentions_stand;
        defines = forward defined own own' first.defines second.defines;
        defines_back = backward defined own own' first.defines_back second.defines_back;
        mentions = forward mentioned used used' first.mentions second.mentions;
        mentions_back = backward mentioned used used' first.mentions_back second.mentions_back;
        says = λ k i. elim (in_either k said said' i) [
          | inl j ↦ (let r = first.says k j in (r.0, left mentioned r.0 r.1, r.2))
          | inr j ↦ (let r = second.says k j in (r.0, right mentioned r.0 r.1, r.2))
        ];
        down = λ h. (first.down (down_first h), second.down (down_second h));
        up = ups;
      }
