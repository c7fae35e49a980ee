-- What the table says of derivations.
use Rattle.std.proofs.Common.{zero, ◌≡◌, ℕ, suc, ◌+◌, ◌<◌, ◌≤◌, List, [], ◌∷◌, ◌++◌, Some, None, Bool, true, false, cond, slice_get, refl, sym, subst, ap, ◌∙◌, arith, length-append}
use Rattle.std.proofs.lemmas.List.{append_assoc}
use Rattle.ir_grammar.specs.declared.grammar.Action.{Action}
use Rattle.ir_grammar.specs.declared.grammar.Symbol.{Symbol}
use Rattle.ir_grammar.specs.declared.grammar.Symbol.TheVariants.{Sign, Part, Act}
use Rattle.ir_grammar.specs.declared.grammar.Event.{Event}
use Rattle.ir_grammar.specs.declared.grammar.Event.TheVariants.{Took, Did}
use Rattle.ir_grammar.specs.declared.grammar.Rule.{Rule}
use Rattle.ir_grammar.specs.declared.grammar.Facts.{Facts}
use Rattle.ir_grammar.specs.declared.grammar.Grammar.{Grammar}
use Rattle.ir_grammar.specs.Grammar.{accepts, Derives, Finished, Shifted, Acted, Expanded, IsTextOf, IsViable}
use Rattle.ir_grammar.specs.Table.{column_of, pick, MayFollowPart, is_solid, cost_of, Opens, OpensIn, IsFine, IsFineIn, has_solid, height, AreKnownSymbols, RanksAreBelow, IsPredictive}
use Rattle.ir_grammar.specs.Reading.{tooks}
use Rattle.ir_grammar.specs.Run.{LeadsToStack, LeadsAt, IsStuck}

-- a derivation by what stands first
pub after_none : {g : Grammar} {ts : List ℕ} {es : List Event} → Derives g [] ts es → (ts ≡ []) × (es ≡ [])
after_none Finished = (refl, refl)

pub after_sign : {g : Grammar} {s : ℕ} {ss : List Symbol} {ts : List ℕ} {es : List Event} → Derives g (Sign s ∷ ss) ts es
    → (k : ℕ) × (us : List ℕ) × (fs : List Event) × (ts ≡ k ∷ us) × (es ≡ Took ∷ fs) × (accepts g s k ≡ true) × Derives g ss us fs
after_sign (Shifted {k = k} {ts = us} {es = fs} a d) = (k, us, fs, refl, refl, a, d)

pub after_act : {g : Grammar} {a : Action} {ss : List Symbol} {ts : List ℕ} {es : List Event} → Derives g (Act a ∷ ss) ts es
    → (fs : List Event) × (es ≡ Did a ∷ fs) × Derives g ss ts fs
after_act (Acted {es = fs} d) = (fs, refl, d)

pub after_part : {g : Grammar} {n : ℕ} {ss : List Symbol} {ts : List ℕ} {es : List Event} → Derives g (Part n ∷ ss) ts es
    → (p : ℕ) × (r : Rule) × (slice_get g.rules.items p ≡ Some r) × (r.part ≡ n) × Derives g (r.body.items ++ ss) ts es
after_part (Expanded p r e q d) = (p, r, e, q, d)

pub tooks_append : (a b : List Event) → tooks (a ++ b) ≡ tooks a + tooks b
tooks_append [] b = omega arith
tooks_append (Took ∷ a) b = omega (arith, tooks_append a b)
tooks_append (Did x ∷ a) b = tooks_append a b

module _ (g : Grammar) where
  opens_in : (n : ℕ) (body ss : List Symbol) → ((c : ℕ) → Opens g ss c → MayFollowPart g n c) → (c : ℕ) → Opens g (body ++ ss) c → OpensIn g n body c
  opens_in n [] ss f c o = f c o
  opens_in n (Sign k ∷ body) ss f c o = o
  opens_in n (Act a ∷ body) ss f c o = opens_in n body ss f c o
  opens_in n (Part m ∷ body) ss f c o = o

  fine_append : (n : ℕ) (body ss : List Symbol) → ((c : ℕ) → Opens g ss c → MayFollowPart g n c) → IsFineIn g n body → IsFine g ss → IsFine g (body ++ ss)
  fine_append n [] ss f b s = s
  fine_append n (Sign k ∷ body) ss f b s = fine_append n body ss f b s
  fine_append n (Act a ∷ body) ss f b s = fine_append n body ss f b s
  fine_append n (Part m ∷ body) ss f b s = (λ c o. b.0 c (opens_in n body ss f c o), fine_append n body ss f b.1 s)

  pub known_append : (body ss : List Symbol) → AreKnownSymbols g body → AreKnownSymbols g ss → AreKnownSymbols g (body ++ ss)
  known_append [] ss b s = s
  known_append (Sign k ∷ body) ss b s = (b.0, known_append body ss b.1 s)
  known_append (Act a ∷ body) ss b s = known_append body ss b s
  known_append (Part m ∷ body) ss b s = (b.0, known_append body ss b.1 s)

  -- what is taken for a part before a token lowers the height
  height_append : (body ss : List Symbol) → height g (body ++ ss) ≤ height g body + cond (has_solid g body) 0 (height g ss)
  height_append [] ss = omega arith
  height_append (Sign k ∷ body) ss = omega arith
  height_append (Act a ∷ body) ss = omega (arith, height_append body ss)
  height_append (Part m ∷ body) ss = go (is_solid (slice_get g.parts.items m)) (height_append body ss)
    where
      go : (b : Bool) → height g (body ++ ss) ≤ height g body + cond (has_solid g body) 0 (height g ss)
          → cost_of (slice_get g.parts.items m) + cond b 0 (height g (body ++ ss)) ≤ (cost_of (slice_get g.parts.items m) + cond b 0 (height g body)) + cond (cond b true (has_solid g body)) 0 (height g ss)
      go true h = omega arith
      go false h = omega arith

module _ (g : Grammar) (ok : IsPredictive g) where
  pub fine_expanded : (p : ℕ) (r : Rule) (ss : List Symbol) → slice_get g.rules.items p ≡ Some r → IsFine g (Part r.part ∷ ss) → IsFine g (r.body.items ++ ss)
  fine_expanded p r ss e h = fine_append g r.part r.body.items ss h.0 (ok.rules p r e).fine h.1

  pub height_expanded : (p : ℕ) (r : Rule) (ss : List Symbol) → slice_get g.rules.items p ≡ Some r → height g (r.body.items ++ ss) < height g (Part r.part ∷ ss)
  height_expanded p r ss e = go (is_solid (slice_get g.parts.items r.part)) (has_solid g r.body.items) (height_append g r.body.items ss) (ok.rules p r e).lower (ok.rules p r e).solid
    where
      go : (b s : Bool) → height g (r.body.items ++ ss) ≤ height g r.body.items + cond s 0 (height g ss) → height g r.body.items < cost_of (slice_get g.parts.items r.part) → (b ≡ true → s ≡ true)
          → height g (r.body.items ++ ss) < cost_of (slice_get g.parts.items r.part) + cond b 0 (height g ss)
      go true true h l i = omega arith
      go true false h l i = let e = i refl in cc
      go false true h l i = omega arith
      go false false h l i = omega arith

  -- a derivation begins where the table lets it begin
  opens : {ss : List Symbol} {ts : List ℕ} {es : List Event} → Derives g ss ts es → IsFine g ss → Opens g ss (column_of ts)
  opens Finished h = refl
  opens (Shifted {k = k} a d) h = (k, refl, a)
  opens (Acted d) h = opens d h
  opens (Expanded {n} {ss} {ts} p r e q d) h =
      let h' = subst (λ m. IsFine g (Part m ∷ ss)) (sym q) h in
      (p, subst (λ m. pick g m (column_of ts) ≡ Some p) q ((ok.rules p r e).picks (column_of ts) (opens_in g r.part r.body.items ss h'.0 (column_of ts) (opens d (fine_expanded p r ss e h')))))

  -- the table has the rule of each derivation
  pub picks : {n p : ℕ} (ss : List Symbol) {ts : List ℕ} {es : List Event} (r : Rule) → slice_get g.rules.items p ≡ Some r → r.part ≡ n → IsFine g (Part n ∷ ss) → Derives g (r.body.items ++ ss) ts es → pick g n (column_of ts) ≡ Some p
  picks {n} {p} ss {ts} r e q h d =
      let h' = subst (λ m. IsFine g (Part m ∷ ss)) (sym q) h in
      subst (λ m. pick g m (column_of ts) ≡ Some p) q ((ok.rules p r e).picks (column_of ts) (opens_in g r.part r.body.items ss h'.0 (column_of ts) (opens d (fine_expanded p r ss e h'))))

  -- a text is read in one way
  pub one_reading : {ss : List Symbol} {ts : List ℕ} {es : List Event} → Derives g ss ts es → IsFine g ss → (fs : List Event) → Derives g ss ts fs → es ≡ fs
  one_reading Finished h fs d = sym (after_none d).1
  one_reading (Shifted {k = k} {ss = ss} {ts = ts} _ d) h fs d' =
      let a = after_sign d' in
      let same : ts ≡ a.1 = cc in
      ap (λ x. Took ∷ x) (one_reading d h a.2 (subst (λ x. Derives g ss x a.2) (sym same) a.6)) ∙ sym a.4
  one_reading (Acted {a} d) h fs d' =
      let b = after_act d' in
      ap (λ x. Did a ∷ x) (one_reading d h b.0 b.2) ∙ sym b.1
  one_reading (Expanded {n} {ss} {ts} p r e q d) h fs d' =
      let b = after_part d' in
      let one : pick g n (column_of ts) ≡ Some p = picks ss r e q h d in
      let two : pick g n (column_of ts) ≡ Some b.0 = picks ss b.1 b.2 b.3 h b.4 in
      let same : b.1 ≡ r = cc in
      one_reading d (fine_expanded p r ss e (subst (λ m. IsFine g (Part m ∷ ss)) (sym q) h)) fs (subst (λ x. Derives g (x.body.items ++ ss) ts fs) same b.4)

  -- taking the table's rule loses no text
  pub leads_expanded : (root : ℕ) (done : List ℕ) (did : List Event) (n p : ℕ) (ss : List Symbol) (c : ℕ) (r : Rule) → IsFine g (Part n ∷ ss) → pick g n c ≡ Some p → slice_get g.rules.items p ≡ Some r → r.part ≡ n
      → LeadsAt g root done did (Part n ∷ ss) c → LeadsAt g root done did (r.body.items ++ ss) c
  leads_expanded root done did n p ss c r h t e q l = record {
    took = l.took;
    on = λ ts more d. l.on ts more (Expanded p r e q d);
    back = λ ts all at d. go ts all at (l.back ts all at d);
  }
    where
      go : (ts : List ℕ) (all : List Event) → column_of ts ≡ c → (more : List Event) × (all ≡ did ++ more) × Derives g (Part n ∷ ss) ts more → (rest : List Event) × (all ≡ did ++ rest) × Derives g (r.body.items ++ ss) ts rest
      go ts all at x =
          let a = after_part x.2 in
          let found : pick g n (column_of ts) ≡ Some a.0 = picks ss a.1 a.2 a.3 h a.4 in
          let rules : a.1 ≡ r = cc in
          (x.0, x.1, subst (λ y. Derives g (y.body.items ++ ss) ts x.0) rules a.4)

  pub leads_acted : (root : ℕ) (done : List ℕ) (did : List Event) (a : Action) (ss : List Symbol) (c : ℕ)
      → LeadsAt g root done did (Act a ∷ ss) c → LeadsAt g root done (did ++ Did a ∷ []) ss c
  leads_acted root done did a ss c l = record {
    took = tooks_append did (Did a ∷ []) ∙ omega (arith, l.took);
    on = λ ts more d. subst (IsTextOf g root (done ++ ts)) (sym (append_assoc did (Did a ∷ []) more)) (l.on ts (Did a ∷ more) (Acted d));
    back = λ ts all at d. go ts all (l.back ts all at d);
  }
    where
      go : (ts : List ℕ) (all : List Event) → (more : List Event) × (all ≡ did ++ more) × Derives g (Act a ∷ ss) ts more → (rest : List Event) × (all ≡ (did ++ Did a ∷ []) ++ rest) × Derives g ss ts rest
      go ts all x =
          let b = after_act x.2 in
          (b.0, x.1 ∙ (ap (λ y. did ++ y) b.1 ∙ sym (append_assoc did (Did a ∷ []) b.0)), b.2)

  -- a part with no rule at this column
  pub stuck_part : (root : ℕ) (done : List ℕ) (did : List Event) (n : ℕ) (ss : List Symbol) (c : ℕ) → IsFine g (Part n ∷ ss) → pick g n c ≡ None
      → LeadsAt g root done did (Part n ∷ ss) c → IsStuck g root done c
  stuck_part root done did n ss c h t l ts all at d =
      let b = l.back ts all at d in
      let o : (p : ℕ) × (pick g n (column_of ts) ≡ Some p) = opens b.2 h in
      let k = o.1 in
      cc

  -- a token where another stands
  pub stuck_sign : (root : ℕ) (done : List ℕ) (did : List Event) (s c : ℕ) (ss : List Symbol) → ((k : ℕ) → c ≡ suc k → accepts g s k ≡ true → ⊥)
      → LeadsAt g root done did (Sign s ∷ ss) c → IsStuck g root done c
  stuck_sign root done did s c ss ne l ts all at d =
      let b = after_sign (l.back ts all at d).2 in
      ne b.0 (sym at ∙ ap column_of b.3) b.5

  -- a token after the end
  pub stuck_end : (root : ℕ) (done : List ℕ) (did : List Event) (c : ℕ) → (c ≡ 0 → ⊥)
      → LeadsAt g root done did [] c → IsStuck g root done c
  stuck_end root done did c ne l ts all at d =
      let b = after_none (l.back ts all at d).2 in
      ne (sym at ∙ ap column_of b.0)

  -- the token that stands there
  pub leads_shifted : (root : ℕ) (done : List ℕ) (did : List Event) (s k : ℕ) (ss : List Symbol) → accepts g s k ≡ true
      → LeadsAt g root done did (Sign s ∷ ss) (suc k) → LeadsToStack g root (done ++ k ∷ []) (did ++ Took ∷ []) ss
  leads_shifted root done did s k ss yes' l = record {
    took = tooks_append did (Took ∷ []) ∙ omega (arith, l.took, length-append done (k ∷ []));
    on = λ ts more d. subst (λ x. IsTextOf g root x ((did ++ Took ∷ []) ++ more)) (sym (append_assoc done (k ∷ []) ts))
        (subst (IsTextOf g root (done ++ (k ∷ ts))) (sym (append_assoc did (Took ∷ []) more)) (l.on (k ∷ ts) (Took ∷ more) (Shifted yes' d)));
    back = λ ts all d. go ts all (l.back (k ∷ ts) all refl (subst (λ x. IsTextOf g root x all) (append_assoc done (k ∷ []) ts) d));
  }
    where
      go : (ts : List ℕ) (all : List Event) → (more : List Event) × (all ≡ did ++ more) × Derives g (Sign s ∷ ss) (k ∷ ts) more → (more : List Event) × (all ≡ (did ++ Took ∷ []) ++ more) × Derives g ss ts more
      go ts all x =
          let a = after_sign x.2 in
          let e : a.1 ≡ ts = cc in
          (a.2, x.1 ∙ (ap (λ y. did ++ y) a.4 ∙ sym (append_assoc did (Took ∷ []) a.2)), subst (λ y. Derives g ss y a.2) e a.6)

  pub leads_at : (root : ℕ) (done : List ℕ) (did : List Event) (stack : List Symbol) (c : ℕ) → LeadsToStack g root done did stack → LeadsAt g root done did stack c
  leads_at root done did stack c l = record { took = l.took; on = l.on; back = λ ts all _ d. l.back ts all d }

pub derives_append : (g : Grammar) (b : List Symbol) (us : List ℕ) (more : List Event) → Derives g b us more → {a : List Symbol} {ts : List ℕ} {es : List Event} → Derives g a ts es → Derives g (a ++ b) (ts ++ us) (es ++ more)
derives_append g b us more e Finished = e
derives_append g b us more e (Shifted a d) = Shifted a (derives_append g b us more e d)
derives_append g b us more e (Acted d) = Acted (derives_append g b us more e d)
derives_append g b us more e (Expanded {ss = ss} {ts = ts} {es = es} p r i q d) =
    Expanded p r i q (subst (λ x. Derives g x (ts ++ us) (es ++ more)) (append_assoc r.body.items ss b) (derives_append g b us more e d))

-- each part has a text
module _ (g : Grammar) (ok : IsPredictive g) where
  abbrev pub HasText : List Symbol → Type 0
  HasText ss = (ts : List ℕ) × (es : List Event) × Derives g ss ts es

  text_shifted : (s k : ℕ) (ss : List Symbol) → accepts g s k ≡ true → HasText ss → HasText (Sign s ∷ ss)
  text_shifted s k ss a t = (k ∷ t.0, Took ∷ t.1, Shifted a t.2)

  text_acted : (a : Action) (ss : List Symbol) → HasText ss → HasText (Act a ∷ ss)
  text_acted a ss t = (t.0, Did a ∷ t.1, Acted t.2)

  text_expanded : (n : ℕ) (f : Facts) (ss : List Symbol) → slice_get g.parts.items n ≡ Some f → ((r : Rule) → slice_get g.rules.items f.shortest ≡ Some r → RanksAreBelow g f.rank r.body.items → HasText r.body.items) → HasText ss → HasText (Part n ∷ ss)
  text_expanded n f ss e has rest =
      let s = ok.shortest n f e in
      let body = has s.0 s.1 s.3 in
      (body.0 ++ rest.0, body.1 ++ rest.1, Expanded f.shortest s.0 s.1 s.2 (derives_append g ss rest.0 rest.1 rest.2 body.2))

  weaker : (ss : List Symbol) (j k : ℕ) → j ≤ k → RanksAreBelow g j ss → RanksAreBelow g k ss
  weaker [] j k le b = tt
  weaker (Sign s ∷ ss) j k le b = (b.0, weaker ss j k le b.1)
  weaker (Act a ∷ ss) j k le b = weaker ss j k le b
  weaker (Part n ∷ ss) j k le b = ((b.0.0, b.0.1, omega arith), weaker ss j k le b.1)

  texts_below : (k : ℕ) → ((ss : List Symbol) → RanksAreBelow g k ss → HasText ss) → (ss : List Symbol) → RanksAreBelow g (suc k) ss → HasText ss
  texts_below k has [] h = ([], [], Finished)
  texts_below k has (Sign s ∷ ss) h = text_shifted s h.0.0 ss h.0.1 (texts_below k has ss h.1)
  texts_below k has (Act a ∷ ss) h = text_acted a ss (texts_below k has ss h)
  texts_below k has (Part n ∷ ss) h =
      text_expanded n h.0.0 ss h.0.1 (λ r e b. has r.body.items (weaker r.body.items h.0.0.rank k (omega arith) b)) (texts_below k has ss h.1)

  text_below : (k : ℕ) (ss : List Symbol) → RanksAreBelow g k ss → HasText ss
  text_below zero [] h = ([], [], Finished)
  text_below zero (Sign s ∷ ss) h = text_shifted s h.0.0 ss h.0.1 (text_below zero ss h.1)
  text_below zero (Act a ∷ ss) h = text_acted a ss (text_below zero ss h)
  text_below zero (Part n ∷ ss) h = absurd (omega arith)
  text_below (suc k) ss h = texts_below k (text_below k) ss h

  pub text_of : (ss : List Symbol) → AreKnownSymbols g ss → HasText ss
  text_of [] h = ([], [], Finished)
  text_of (Sign s ∷ ss) h = text_shifted s h.0.0 ss h.0.1 (text_of ss h.1)
  text_of (Act a ∷ ss) h = text_acted a ss (text_of ss h)
  text_of (Part n ∷ ss) h = text_expanded n h.0.0 ss h.0.1 (λ r e b. text_below h.0.0.rank r.body.items b) (text_of ss h.1)

  -- what has been read begins a text
  pub viable : (root : ℕ) (done : List ℕ) (did : List Event) (stack : List Symbol) → AreKnownSymbols g stack → LeadsToStack g root done did stack → IsViable g root done
  viable root done did stack k l =
      let t = text_of stack k in
      (t.0, (did ++ t.1, l.on t.0 t.1 t.2))
