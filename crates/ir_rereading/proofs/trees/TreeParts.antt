-- The names of values in a part of a text, by the deeds that are done in it.
use Rattle.std.proofs.Common.{◌≡◌, ℕ, ◌+◌, ◌-◌, ◌<◌, ◌≤◌, Bool, true, false, cond, List, [], ◌∷◌, ◌++◌, map, refl, sym, subst, ap, ◌∙◌, arith, inl, inr}
use Rattle.std.proofs.lemmas.List.{append-nil}
use Rattle.ir_grammar.specs.declared.grammar.Action.{Action}
use Rattle.ir_grammar.specs.declared.grammar.Action.TheVariants.{Operand}
use Rattle.ir_grammar.specs.declared.grammar.Event.{Event}
use Rattle.ir_grammar.specs.declared.grammar.Event.TheVariants.{Took, Did}
use Rattle.ir_scopes.specs.declared.sites.Frame.{Frame}
use Rattle.ir_scopes.specs.declared.sites.Site.{Site}
use Rattle.ir_forest.specs.Closed.{AreIn}
use Rattle.ir_forest.specs.Forest.{Deed, deeds_from}
use Rattle.ir_scopes.specs.Scopes.{EventPlace, behind, last_token, operation_frame, region_frame, rest, here_behind_operation, here_behind_region, here_after, around_after, defined, mentioned}
use Rattle.ir_rereading.proofs.trees.TreeSites.{In, in_none, in_map, of_map, Alike, arrived, arrived_append, each_append, arrived_events, all_defined_at, all_mentioned_at, site, Stands, AreMeant, Has, change, has_nothing, has_definition, has_mention, has_append}

-- ---- deeds and events

cons_head : (x y : Deed) (xs ys : List Deed) → x ∷ xs ≡ y ∷ ys → x ≡ y
cons_head x y xs ys e = cc

cons_tail : (x y : Deed) (xs ys : List Deed) → x ∷ xs ≡ y ∷ ys → xs ≡ ys
cons_tail x y xs ys e = cc

cons_both : (x y : Deed) (xs ys : List Deed) → x ≡ y → xs ≡ ys → x ∷ xs ≡ y ∷ ys
cons_both x y xs ys e h = ap (λ z. z ∷ xs) e ∙ ap (λ zs. y ∷ zs) h

module _ (isolated : ℕ → Bool) where
  -- Events without deeds: nothing is named, and what is open stays so.
  record IsStill (at : EventPlace) (es : List Event) : Type 0 where
    here : (arrived isolated at es).here ≡ at.here
    around : (arrived isolated at es).around ≡ at.around
    defines : all_defined_at isolated at es ≡ []
    mentions : all_mentioned_at isolated at es ≡ []

  still : (at : EventPlace) (es : List Event) → deeds_from at.tokens es ≡ [] → IsStill at es
  still at [] e = record { here = refl; around = refl; defines = refl; mentions = refl }
  still at (Took ∷ es) e = let r = still (behind isolated at Took) es e in record { here = r.here; around = r.around; defines = r.defines; mentions = r.mentions }
  still at (Did a ∷ es) e = cc

  -- Events with one deed, and the place straight before it.
  pub record IsDeed (at : EventPlace) (es : List Event) (a : Action) (k : ℕ) : Type 0 where
    pub before : EventPlace
    pub here : before.here ≡ at.here
    pub around : before.around ≡ at.around
    pub token : last_token before ≡ k
    pub early : at.events ≤ before.events
    pub late : before.events + 1 ≤ (arrived isolated at es).events
    pub here_now : (arrived isolated at es).here ≡ here_after isolated before a
    pub around_now : (arrived isolated at es).around ≡ around_after before a
    pub defines : all_defined_at isolated at es ≡ defined before (Did a)
    pub mentions : all_mentioned_at isolated at es ≡ mentioned before (Did a)

  pub one_deed : (at : EventPlace) (es : List Event) (a : Action) (k : ℕ) → deeds_from at.tokens es ≡ (a, k) ∷ [] → IsDeed at es a k
  one_deed at [] a k e = cc
  one_deed at (Took ∷ es) a k e =
      let r = one_deed (behind isolated at Took) es a k e in record {
        before = r.before;
        here = r.here;
        around = r.around;
        token = r.token;
        early = (let z : at.events + 1 ≤ r.before.events = r.early in omega arith);
        late = r.late;
        here_now = r.here_now;
        around_now = r.around_now;
        defines = r.defines;
        mentions = r.mentions;
      }
  one_deed at (Did x ∷ es) a k e =
      let first : Deed = (x, at.tokens - 1) in
      let same : first ≡ (a, k) = cc in
      let none : deeds_from at.tokens es ≡ [] = cc in
      let r = still (behind isolated at (Did x)) es none in
      let here : IsDeed at (Did x ∷ es) x (at.tokens - 1) = record {
        before = at;
        here = refl;
        around = refl;
        token = refl;
        early = omega arith;
        late = arrived_events isolated (behind isolated at (Did x)) es;
        here_now = r.here;
        around_now = r.around;
        defines = ap (λ z. defined at (Did x) ++ z) r.defines ∙ append-nil (defined at (Did x));
        mentions = ap (λ z. mentioned at (Did x) ++ z) r.mentions ∙ append-nil (mentioned at (Did x));
      } in
      subst (λ (d : Deed). IsDeed at (Did x ∷ es) d.0 d.1) same here

  -- where deeds are two lists, the events are
  pub split_deeds : (at : EventPlace) (es : List Event) (xs ys : List Deed) → deeds_from at.tokens es ≡ xs ++ ys
      → (a : List Event) × (b : List Event) × (es ≡ a ++ b) × (deeds_from at.tokens a ≡ xs) × (deeds_from (arrived isolated at a).tokens b ≡ ys)
  split_deeds at es [] ys e = ([], es, refl, refl, e)
  split_deeds at [] (x ∷ xs) ys e = cc
  split_deeds at (Took ∷ es) (x ∷ xs) ys e = let r = split_deeds (behind isolated at Took) es (x ∷ xs) ys e in (Took ∷ r.0, r.1, ap (λ z. Took ∷ z) r.2, r.3, r.4)
  split_deeds at (Did d ∷ es) (x ∷ xs) ys e =
      let r = split_deeds (behind isolated at (Did d)) es xs ys (cons_tail (d, at.tokens - 1) x (deeds_from at.tokens es) (xs ++ ys) e) in
      (Did d ∷ r.0, r.1, ap (λ z. Did d ∷ z) r.2, cons_both (d, at.tokens - 1) x (deeds_from at.tokens r.0) xs (cons_head (d, at.tokens - 1) x (deeds_from at.tokens es) (xs ++ ys) e) r.3, r.4)

  -- an action that names no value and leaves open what is
  abbrev pub IsQuiet : Action → Type 0
  IsQuiet a = (p : EventPlace) → (defined p (Did a) ≡ []) × (mentioned p (Did a) ≡ []) × (here_after isolated p a ≡ p.here) × (around_after p a ≡ p.around)

  module _ {N : Type 0} (g : ℕ → N) where
    -- What a part of a text has of names, behind which is open what was before it.
    pub record Part (at : EventPlace) (es : List Event) (all own used said : List ℕ) (Q : Type 0) : Type 0 where
      pub has : Has isolated g at es all own used said Q
      pub here : (arrived isolated at es).here ≡ at.here
      pub around : (arrived isolated at es).around ≡ at.around

    alike : (xs : List ℕ) → Alike xs xs
    alike xs k = (λ h. h, λ h. h)

    pub part_append : (at : EventPlace) (a b : List Event) (all own used said all' own' used' said' : List ℕ) (Q R : Type 0) → at.here.values ≤ at.events → Part at a all own used said Q
        → Part (arrived isolated at a) b all' own' used' said' R → Part at (a ++ b) (all ++ all') (own ++ own') (used ++ used') (said ++ said') (Q × R)
    part_append at a b all own used said all' own' used' said' Q R low p q = record {
      has = has_append isolated g at a b all own used said all' own' used' said' Q R p.has q.has low (ap (λ f. f.values) p.here);
      here = ap (λ z. z.here) (arrived_append isolated at a b) ∙ (q.here ∙ p.here);
      around = ap (λ z. z.around) (arrived_append isolated at a b) ∙ (q.around ∙ p.around);
    }

    pub part_change : (at : EventPlace) (es : List Event) (all own used said all' own' used' said' : List ℕ) (Q R : Type 0)
        → all ≡ all' → Alike own own' → Alike used used' → ((k : ℕ) → In k said' → In k said) → (Q → R) → (R → Q) → Part at es all own used said Q → Part at es all' own' used' said' R
    part_change at es all own used said all' own' used' said' Q R e o u s f b p = record {
      has = change isolated g at es all own used said all' own' used' said' Q R e o u s f b p.has;
      here = p.here;
      around = p.around;
    }

    pub part_still : (at : EventPlace) (es : List Event) → deeds_from at.tokens es ≡ [] → Part at es [] [] [] [] (Unit {0})
    part_still at es e = let r = still at es e in record { has = has_nothing isolated g at es r.defines r.mentions; here = r.here; around = r.around }

    -- ---- one deed

    pub part_quiet : (at : EventPlace) (es : List Event) (a : Action) (k : ℕ) → IsQuiet a → IsDeed at es a k → Part at es [] [] [] [] (Unit {0})
    part_quiet at es a k q d = let r = q d.before in record {
      has = has_nothing isolated g at es (d.defines ∙ r.0) (d.mentions ∙ r.1);
      here = d.here_now ∙ (r.2 ∙ d.here);
      around = d.around_now ∙ (r.3 ∙ d.around);
    }

    -- an action that defines a value
    abbrev pub IsDefining : Action → Type 0
    IsDefining a = (p : EventPlace) → (defined p (Did a) ≡ site isolated p.here.values (last_token p) ∷ []) × (mentioned p (Did a) ≡ []) × (here_after isolated p a ≡ p.here) × (around_after p a ≡ p.around)

    here_site : (at : EventPlace) (es : List Event) (a : Action) (k : ℕ) (d : IsDeed at es a k) → site isolated d.before.here.values (last_token d.before) ∷ [] ≡ site isolated at.here.values k ∷ []
    here_site at es a k d = ap (λ (f : Frame). site isolated f.values (last_token d.before) ∷ []) d.here ∙ ap (λ n. site isolated at.here.values n ∷ []) d.token

    pub part_defines : (at : EventPlace) (es : List Event) (a : Action) (k : ℕ) → IsDefining a → IsDeed at es a k → Part at es (k ∷ []) (k ∷ []) [] [] (Unit {0})
    part_defines at es a k q d = let r = q d.before in record {
      has = has_definition isolated g at es k (d.defines ∙ (r.0 ∙ here_site at es a k d)) (d.mentions ∙ r.1);
      here = d.here_now ∙ (r.2 ∙ d.here);
      around = d.around_now ∙ (r.3 ∙ d.around);
    }

    pub part_mentions : (at : EventPlace) (es : List Event) (k : ℕ) → IsDeed at es Operand k → Part at es [] [] (k ∷ []) (k ∷ []) (Unit {0})
    part_mentions at es k d = record {
      has = has_mention isolated g at es k d.defines (d.mentions ∙ here_site at es Operand k d);
      here = d.here_now ∙ d.here;
      around = d.around_now ∙ d.around;
    }

    -- ---- what begins and ends

    module _ (all own used said : List ℕ) (Q : Type 0) where
      drop_nil : (xs ys : List ℕ) → xs ≡ ys → Alike xs ys
      drop_nil xs ys e k = (λ h. subst (In k) e h, λ h. subst (In k) (sym e) h)

      -- nothing is named around
      around_has : (at : EventPlace) (a b c : List Event) → at.here.values ≤ at.events → Has isolated g at a [] [] [] [] (Unit {0}) → (arrived isolated at a).here.values ≡ at.here.values
          → Has isolated g (arrived isolated at a) b all own used said Q → (arrived isolated (arrived isolated at a) b).here.values ≡ (arrived isolated at a).here.values
          → Has isolated g (arrived isolated (arrived isolated at a) b) c [] [] [] [] (Unit {0})
          → Has isolated g at (a ++ (b ++ c)) all own used said Q
      around_has at a b c low ha same hb same' hc =
          let low' : (arrived isolated at a).here.values ≤ (arrived isolated at a).events = omega (arith, low, same, arrived_events isolated at a) in
          let bc = has_append isolated g (arrived isolated at a) b c all own used said [] [] [] [] Q (Unit {0}) hb hc low' same' in
          let abc = has_append isolated g at a (b ++ c) [] [] [] [] (all ++ []) (own ++ []) (used ++ []) (said ++ []) (Unit {0}) (Q × Unit {0}) ha bc low same in
          change isolated g at (a ++ (b ++ c)) (all ++ []) (own ++ []) (used ++ []) (said ++ []) all own used said (Unit {0} × (Q × Unit {0})) Q
          (append-nil all) (drop_nil (own ++ []) own (append-nil own)) (drop_nil (used ++ []) used (append-nil used)) (λ k h. subst (In k) (sym (append-nil said)) h)
          (λ x. x.1.0) (λ q. (tt, (q, tt))) abc

      -- a scope begins
      module _ (at : EventPlace) (e b : List Event) (none : all_defined_at isolated at e ≡ []) (unused : all_mentioned_at isolated at e ≡ []) (low : at.here.values ≤ at.events)
          (new : at.events < (arrived isolated at e).here.values) (old : (arrived isolated at e).here.values ≤ (arrived isolated at e).events) (h : Has isolated g (arrived isolated at e) b all own used said Q) where
        within : EventPlace
        within = arrived isolated at e

        all_defs : all_defined_at isolated at (e ++ b) ≡ all_defined_at isolated (arrived isolated at e) b
        all_defs = each_append isolated defined at e b ∙ ap (λ z. z ++ all_defined_at isolated (arrived isolated at e) b) none

        all_uses : all_mentioned_at isolated at (e ++ b) ≡ all_mentioned_at isolated (arrived isolated at e) b
        all_uses = each_append isolated mentioned at e b ∙ ap (λ z. z ++ all_mentioned_at isolated (arrived isolated at e) b) unused

        ends : (arrived isolated at (e ++ b)).events ≡ (arrived isolated (arrived isolated at e) b).events
        ends = ap (λ p. p.events) (arrived_append isolated at e b)

        long : (arrived isolated at e).events ≤ (arrived isolated (arrived isolated at e) b).events
        long = arrived_events isolated (arrived isolated at e) b

        later : (s : Site) → Stands isolated (arrived isolated at e) b s → at.events < s.scope
        later s (inl x) = omega (arith, x, new)
        later s (inr x) = omega (arith, x.0, new, old)

        widen : (s : Site) → Stands isolated (arrived isolated at e) b s → Stands isolated at (e ++ b) s
        widen s (inl x) = inr (omega (arith, x, new), omega (arith, x, old, long, ends))
        widen s (inr x) = inr (omega (arith, x.0, new, old), omega (arith, x.1, ends))

        other : (s : Site) → Stands isolated (arrived isolated at e) b s → s.scope ≡ at.here.values → ⊥
        other s x same = let l = later s x in omega (arith, low, same, l)

        meant_here : AreMeant isolated g at (e ++ b) → AreIn (map g used) (map g own)
        meant_here m i y r =
            let u = of_map g y used (i, r) in
            let s : Site = site isolated (arrived isolated at e).here.values u.0 in
            let there = h.mentions u.0 u.1 in
            let d = m s (subst (In s) (sym all_uses) there) (other s (inl refl)) in
            let back = h.defines_back d.0 (subst (In d.0) all_defs d.1) d.2 in
            subst (λ z. In z (map g own)) (d.3 ∙ u.2) (in_map g d.0.token own back)

        meant_inside : AreMeant isolated g at (e ++ b) → AreMeant isolated g (arrived isolated at e) b
        meant_inside m s i off =
            let d = m s (subst (In s) (sym all_uses) i) (other s (h.mentions_stand s i)) in
            (d.0, subst (In d.0) all_defs d.1, d.2, d.3)

        meant : AreIn (map g used) (map g own) × Q → AreMeant isolated g at (e ++ b)
        meant q s i off = go (h.mentions_stand s there)
          where
            there : In s (all_mentioned_at isolated (arrived isolated at e) b)
            there = subst (In s) all_uses i

            go : Stands isolated (arrived isolated at e) b s → (d : Site) × In d (all_defined_at isolated at (e ++ b)) × (d.scope ≡ s.scope) × (g d.token ≡ g s.token)
            go (inl x) =
                let used_here = in_map g s.token used (h.mentions_back s there x) in
                let found = q.0 used_here.0 (g s.token) used_here.1 in
                let k = of_map g (g s.token) own found in
                let d : Site = site isolated (arrived isolated at e).here.values k.0 in
                (d, subst (In d) (sym all_defs) (h.defines k.0 k.1), sym x, k.2)
            go (inr x) =
                let d = h.up q.1 s there (λ same. omega (arith, same, x.0, old)) in
                (d.0, subst (In d.0) (sym all_defs) d.1, d.2, d.3)

        pub scope_has : Has isolated g at (e ++ b) all [] [] said (AreIn (map g used) (map g own) × Q)
        scope_has = record {
          tokens = ap (map (λ (s : Site). s.token)) all_defs ∙ h.tokens;
          stand = λ s i. widen s (h.stand s (subst (In s) all_defs i));
          mentions_stand = λ s i. widen s (h.mentions_stand s (subst (In s) all_uses i));
          defines = λ k i. in_none k i;
          defines_back = λ s i same. absurd (other s (h.stand s (subst (In s) all_defs i)) same);
          mentions = λ k i. in_none k i;
          mentions_back = λ s i same. absurd (other s (h.mentions_stand s (subst (In s) all_uses i)) same);
          says = λ k i. (let r = h.says k i in (r.0, subst (In r.0) (sym all_uses) r.1, r.2));
          down = λ m. (meant_here m, h.down (meant_inside m));
          up = meant;
        }

      module _ (at : EventPlace) (es : List Event) (a x : Action) (k last : ℕ) (xs : List Deed) (low : at.here.values ≤ at.events) (read : deeds_from at.tokens es ≡ (a, k) ∷ (xs ++ (x, last) ∷ [])) where
        -- the events of what begins, of what is in it and of what ends
        first : (e : List Event) × (m : List Event) × (es ≡ e ++ m) × (deeds_from at.tokens e ≡ (a, k) ∷ []) × (deeds_from (arrived isolated at e).tokens m ≡ xs ++ (x, last) ∷ [])
        first = split_deeds at es ((a, k) ∷ []) (xs ++ (x, last) ∷ []) read

        inner : EventPlace
        inner = arrived isolated at first.0

        second : (i : List Event) × (t : List Event) × (first.1 ≡ i ++ t) × (deeds_from inner.tokens i ≡ xs) × (deeds_from (arrived isolated inner i).tokens t ≡ (x, last) ∷ [])
        unfolding inner
        second = split_deeds inner first.1 xs ((x, last) ∷ []) first.4

        whole : es ≡ first.0 ++ (second.0 ++ second.1)
        whole = first.2 ∙ ap (λ z. first.0 ++ z) second.2

        began : IsDeed at first.0 a k
        began = one_deed at first.0 a k first.3

        ended : IsDeed (arrived isolated inner second.0) second.1 x last
        ended = one_deed (arrived isolated inner second.0) second.1 x last second.4

        -- where all comes to
        arrived_whole : arrived isolated at es ≡ arrived isolated (arrived isolated inner second.0) second.1
        unfolding inner
        arrived_whole = ap (arrived isolated at) whole ∙ (arrived_append isolated at first.0 (second.0 ++ second.1) ∙ arrived_append isolated (arrived isolated at first.0) second.0 second.1)

        -- types, attributes, lists, operands and blocks
        pub part_bracket : IsQuiet a → IsQuiet x
            → ((p : EventPlace) (i : List Event) → p.here ≡ at.here → p.around ≡ at.around → at.events ≤ p.events → deeds_from p.tokens i ≡ xs → Part p i all own used said Q)
            → Part at es all own used said Q
        unfolding inner
        part_bracket qa qx go =
            let pa = part_quiet at first.0 a k qa began in
            let pi = go inner second.0 pa.here pa.around (arrived_events isolated at first.0) second.3 in
            let px = part_quiet (arrived isolated inner second.0) second.1 x last qx ended in record {
              has = subst (λ z. Has isolated g at z all own used said Q) (sym whole)
                  (around_has at first.0 second.0 second.1 low pa.has (ap (λ f. f.values) pa.here) pi.has (ap (λ f. f.values) pi.here) px.has);
              here = ap (λ z. z.here) arrived_whole ∙ (px.here ∙ (pi.here ∙ pa.here));
              around = ap (λ z. z.around) arrived_whole ∙ (px.around ∙ (pi.around ∙ pa.around));
            }

        -- ---- operations

        module _ (n : ℕ) (opens : (p : EventPlace) → (defined p (Did a) ≡ []) × (mentioned p (Did a) ≡ []) × (here_after isolated p a ≡ operation_frame (isolated n) p.here) × (around_after p a ≡ p.here ∷ p.around))
            (closes : (p : EventPlace) → (defined p (Did x) ≡ []) × (mentioned p (Did x) ≡ []) × (here_after isolated p x ≡ here_behind_operation p.events p.around) × (around_after p x ≡ rest p.around))
            (go : (p : EventPlace) (i : List Event) → p.here ≡ operation_frame (isolated n) at.here → p.around ≡ at.here ∷ at.around → at.events ≤ p.events → deeds_from p.tokens i ≡ xs → Part p i all own used said Q) where
          op_here : (arrived isolated at first.0).here ≡ operation_frame (isolated n) at.here
          op_here = began.here_now ∙ ((opens began.before).2 ∙ ap (operation_frame (isolated n)) began.here)

          op_around : (arrived isolated at first.0).around ≡ at.here ∷ at.around
          op_around = began.around_now ∙ ((opens began.before).3 ∙ (ap (λ f. f ∷ began.before.around) began.here ∙ ap (λ fs. at.here ∷ fs) began.around))

          op_inside : Part (arrived isolated at first.0) second.0 all own used said Q
          unfolding inner
          op_inside = go inner second.0 op_here op_around (arrived_events isolated at first.0) second.3

          pub has_operation : Has isolated g at es all own used said Q
          unfolding inner
          has_operation =
              subst (λ z. Has isolated g at z all own used said Q) (sym whole)
              (around_has at first.0 second.0 second.1 low (has_nothing isolated g at first.0 (began.defines ∙ (opens began.before).0) (began.mentions ∙ (opens began.before).1))
              (ap (λ f. f.values) op_here) op_inside.has (ap (λ f. f.values) op_inside.here)
              (has_nothing isolated g (arrived isolated inner second.0) second.1 (ended.defines ∙ (closes ended.before).0) (ended.mentions ∙ (closes ended.before).1)))

          pub part_operation : (f : Frame) (fs : List Frame) → at.around ≡ f ∷ fs → Part at es all own used said Q
          unfolding inner
          part_operation f fs e =
              let open_still : ended.before.around ≡ at.here ∷ at.around = ended.around ∙ (op_inside.around ∙ op_around) in
              let before : ended.before.around ≡ at.here ∷ f ∷ fs = open_still ∙ ap (λ gs. at.here ∷ gs) e in record {
                has = has_operation;
                here = ap (λ z. z.here) arrived_whole ∙ (ended.here_now ∙ ((closes ended.before).2 ∙ ap (λ gs. here_behind_operation ended.before.events gs) before));
                around = ap (λ z. z.around) arrived_whole ∙ (ended.around_now ∙ ((closes ended.before).3 ∙ ap rest open_still));
              }

        -- ---- regions

        module _ (opens : (p : EventPlace) → (defined p (Did a) ≡ []) × (mentioned p (Did a) ≡ []) × (here_after isolated p a ≡ region_frame p) × (around_after p a ≡ p.here ∷ p.around))
            (closes : (p : EventPlace) → (defined p (Did x) ≡ []) × (mentioned p (Did x) ≡ []) × (here_after isolated p x ≡ here_behind_region p.here p.around) × (around_after p x ≡ rest p.around))
            (go : (p : EventPlace) (i : List Event) → p.here.values ≤ p.events → p.around ≡ at.here ∷ at.around → deeds_from p.tokens i ≡ xs → Part p i all own used said Q) where
          region_around : (arrived isolated at first.0).around ≡ at.here ∷ at.around
          region_around = began.around_now ∙ ((opens began.before).3 ∙ (ap (λ f. f ∷ began.before.around) began.here ∙ ap (λ fs. at.here ∷ fs) began.around))

          region_values : (b : Bool) → at.here.isolated ≡ b → (arrived isolated at first.0).here.values ≡ cond b (began.before.events + 1) at.here.values
          region_values b e = ap (λ f. f.values) (began.here_now ∙ (opens began.before).2)
              ∙ (ap (λ (f : Frame). cond f.isolated (began.before.events + 1) f.values) began.here ∙ ap (λ z. cond z (began.before.events + 1) at.here.values) e)

          region_nothing : Has isolated g at first.0 [] [] [] [] (Unit {0})
          region_nothing = has_nothing isolated g at first.0 (began.defines ∙ (opens began.before).0) (began.mentions ∙ (opens began.before).1)

          region_inside : (arrived isolated at first.0).here.values ≤ (arrived isolated at first.0).events → Part (arrived isolated at first.0) second.0 all own used said Q
          unfolding inner
          region_inside l = go inner second.0 l region_around second.3

          region_ends : (own' used' : List ℕ) (R : Type 0) → ((arrived isolated at first.0).here.values ≤ (arrived isolated at first.0).events) → Has isolated g at es all own' used' said R → Part at es all own' used' said R
          unfolding inner
          region_ends own' used' R l h =
              let open_still : ended.before.around ≡ at.here ∷ at.around = ended.around ∙ ((region_inside l).around ∙ region_around) in record {
                has = h;
                here = ap (λ z. z.here) arrived_whole ∙ (ended.here_now ∙ ((closes ended.before).2 ∙ ap (λ gs. here_behind_region ended.before.here gs) open_still));
                around = ap (λ z. z.around) arrived_whole ∙ (ended.around_now ∙ ((closes ended.before).3 ∙ ap rest open_still));
              }

          -- in an operation that isn't isolated
          pub part_region : at.here.isolated ≡ false → Part at es all own used said Q
          unfolding inner
          part_region e =
              let same : (arrived isolated at first.0).here.values ≡ at.here.values = region_values false e in
              let l : (arrived isolated at first.0).here.values ≤ (arrived isolated at first.0).events = omega (arith, same, low, arrived_events isolated at first.0) in
              let p = region_inside l in
              region_ends own used Q l
              (subst (λ z. Has isolated g at z all own used said Q) (sym whole)
              (around_has at first.0 second.0 second.1 low region_nothing same p.has (ap (λ f. f.values) p.here)
              (has_nothing isolated g (arrived isolated inner second.0) second.1 (ended.defines ∙ (closes ended.before).0) (ended.mentions ∙ (closes ended.before).1))))

          -- in one that is
          pub part_scope : at.here.isolated ≡ true → Part at es all [] [] said (AreIn (map g used) (map g own) × Q)
          unfolding inner
          part_scope e =
              let same : (arrived isolated at first.0).here.values ≡ began.before.events + 1 = region_values true e in
              let l : (arrived isolated at first.0).here.values ≤ (arrived isolated at first.0).events = omega (arith, same, began.late) in
              let p = region_inside l in
              let more = has_append isolated g inner second.0 second.1 all own used said [] [] [] [] Q (Unit {0}) p.has
              (has_nothing isolated g (arrived isolated inner second.0) second.1 (ended.defines ∙ (closes ended.before).0) (ended.mentions ∙ (closes ended.before).1)) l (ap (λ f. f.values) p.here) in
              let in_it : Has isolated g inner (second.0 ++ second.1) all own used said Q = change isolated g inner (second.0 ++ second.1) (all ++ []) (own ++ []) (used ++ []) (said ++ []) all own used said (Q × Unit {0}) Q
              (append-nil all) (drop_nil (own ++ []) own (append-nil own)) (drop_nil (used ++ []) used (append-nil used)) (λ k h. subst (In k) (sym (append-nil said)) h) (λ z. z.0) (λ q. (q, tt)) more in
              region_ends [] [] (AreIn (map g used) (map g own) × Q) l
              (subst (λ z. Has isolated g at z all [] [] said (AreIn (map g used) (map g own) × Q)) (sym whole)
              (scope_has at first.0 (second.0 ++ second.1) (began.defines ∙ (opens began.before).0) (began.mentions ∙ (opens began.before).1) low (omega (arith, same, began.early)) l in_it))
