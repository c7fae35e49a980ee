-- Closing what may end.
use Rattle.std.proofs.Common.{◌≡◌, ℕ, List, [], ◌∷◌, ◌++◌, length, Some, None, slice_get, refl, sym, subst, ap, ◌∙◌, arith, ◌⊎◌, inl, inr}
use Rattle.std.proofs.lemmas.Bool.{cases_eq}
use Rattle.std.proofs.lemmas.List.{append_assoc, append-nil}
use Rattle.ir_grammar.specs.declared.grammar.Action.{Action}
use Rattle.ir_grammar.specs.declared.grammar.Symbol.{Symbol}
use Rattle.ir_grammar.specs.declared.grammar.Symbol.TheVariants.{Sign, Part, Act}
use Rattle.ir_grammar.specs.declared.grammar.Event.{Event}
use Rattle.ir_grammar.specs.declared.grammar.Event.TheVariants.{Took, Did}
use Rattle.ir_grammar.specs.declared.grammar.Rule.{Rule}
use Rattle.ir_grammar.specs.declared.grammar.Grammar.{Grammar}
use Rattle.ir_grammar.specs.Grammar.{Derives, Finished, Shifted, Acted, Expanded, IsTextOf}
use Rattle.ir_grammar.specs.Table.{column_of, pick, closing_of, BeginsAtColumn, IsFine, AreKnownSymbols, IsPredictive}
use Rattle.ir_grammar.specs.declared.grammar.Stop.TheVariants.{Text, Stuck}
use Rattle.ir_grammar.specs.Reading.{through, tooks, IsPrefix, OnlyBegins, IsMostly}
use Rattle.ir_grammar.specs.Run.{LeadsToStack, Closes, Ends}
use Rattle.ir_grammar.proofs.Derivations.{after_none, after_sign, after_act, after_part, tooks_append, picks, fine_expanded, text_of}

-- of what is done, what comes after the tokens of its front
through_more : (did more : List Event) → through (did ++ more) (tooks did) ≡ did ++ through more 0
through_more [] more = refl
through_more (Took ∷ es) more = ap (λ x. Took ∷ x) (through_more es more)
through_more (Did a ∷ es) more = ap (λ x. Did a ∷ x) (through_more es more)

pub prefix_self : (es : List Event) → IsPrefix es es
prefix_self es = ([], sym (append-nil es))

pub prefix_more : (es fs more : List Event) → IsPrefix es fs → IsPrefix es (fs ++ more)
prefix_more es fs more h = (h.0 ++ more, ap (λ x. x ++ more) h.1 ∙ append_assoc es h.0 more)

-- a token comes next, for which members may begin
abbrev Goes : List ℕ → List Event → Type 0
Goes ts es = (k : ℕ) × (us : List ℕ) × (begun fs : List Event) × (ts ≡ k ∷ us) × (es ≡ begun ++ Took ∷ fs) × OnlyBegins begun

through_begun : (begun fs : List Event) → OnlyBegins begun → through (begun ++ Took ∷ fs) 0 ≡ begun
through_begun [] fs o = refl
through_begun (Took ∷ es) fs o = absurd o
through_begun (Did a ∷ es) fs o = ap (λ x. Did a ∷ x) (through_begun es fs o.1)

through_goes : (did more begun fs : List Event) (n : ℕ) → tooks did ≡ n → more ≡ begun ++ Took ∷ fs → OnlyBegins begun → through (did ++ more) n ≡ did ++ begun
through_goes did more begun fs n e m o =
    subst (λ k. through (did ++ more) k ≡ did ++ begun) e (through_more did more ∙ (ap (λ x. did ++ through x 0) m ∙ ap (λ x. did ++ x) (through_begun begun fs o)))

-- a text that goes on did this, but for members that begin
mostly : (did all more : List Event) (ts : List ℕ) (n : ℕ) → tooks did ≡ n → all ≡ did ++ more → Goes ts more → IsMostly (through all n) did
mostly did all more ts n took e goes = (goes.2, ap (λ x. through x n) e ∙ through_goes did more goes.2 goes.3 n took goes.5 goes.6, goes.6)

module _ (g : Grammar) where
  pub begins_append : (body ss : List Symbol) (c : ℕ) → BeginsAtColumn g body c → BeginsAtColumn g (body ++ ss) c
  begins_append [] ss c b = absurd b
  begins_append (Sign s ∷ body) ss c b = b
  begins_append (Act a ∷ body) ss c b = (b.0, begins_append body ss c b.1)
  begins_append (Part n ∷ body) ss c b = b

module _ (g : Grammar) (ok : IsPredictive g) where
  -- what goes on takes a token, and does nothing before it but begin members
  begins_goes : {ss : List Symbol} {ts : List ℕ} {es : List Event} → Derives g ss ts es → IsFine g ss → BeginsAtColumn g ss (column_of ts) → Goes ts es
  begins_goes Finished h b = absurd b
  begins_goes (Shifted {k = k} {ts = ts} {es = es} a d) h b = (k, ts, [], es, refl, refl, tt)
  begins_goes (Acted {a} d) h b = let x = begins_goes d h b.1 in (x.0, x.1, Did a ∷ x.2, x.3, x.4, ap (λ y. Did a ∷ y) x.5, (b.0, x.6))
  begins_goes (Expanded {n} {ss} {ts} p r e q d) h b =
      let one : pick g n (column_of ts) ≡ Some p = picks g ok ss r e q h d in
      let x = ok.picked n (column_of ts) p one in
      let same : x.0 ≡ r = cc in
      let fine = fine_expanded g ok p r ss e (subst (λ m. IsFine g (Part m ∷ ss)) (sym q) h) in
      elim (x.3) [
        | inl closing ↦ absurd (b.2 (let two : pick g n (column_of ts) ≡ Some b.0 = b.1 in cc))
        | inr begins ↦ begins_goes d fine (begins_append g r.body.items ss (column_of ts) (subst (λ y. BeginsAtColumn g y.body.items (column_of ts)) same begins))
      ]

  pub closes_first : (root : ℕ) (done : List ℕ) (did : List Event) (stack : List Symbol) → LeadsToStack g root done did stack → Closes g root done did stack
  closes_first root done did stack l = record { took = l.took; on = l.on; back = λ ts all d. inr (l.back ts all d) }

  pub closes_acted : (root : ℕ) (done : List ℕ) (did : List Event) (a : Action) (ss : List Symbol) → Closes g root done did (Act a ∷ ss) → Closes g root done (did ++ Did a ∷ []) ss
  closes_acted root done did a ss l = record {
    took = tooks_append did (Did a ∷ []) ∙ omega (arith, l.took);
    on = λ ts more d. subst (IsTextOf g root (done ++ ts)) (sym (append_assoc did (Did a ∷ []) more)) (l.on ts (Did a ∷ more) (Acted d));
    back = λ ts all d. elim (l.back ts all d) [
      | inl off ↦ inl ((off.0.0, off.0.1, prefix_more _ _ (Did a ∷ []) off.0.2), off.1)
      | inr x ↦ (let b = after_act x.2 in inr (b.0, x.1 ∙ (ap (λ y. did ++ y) b.1 ∙ sym (append_assoc did (Did a ∷ []) b.0)), b.2))
    ];
  }

  -- a text that goes on here did no more
  off : (n : ℕ) (did all more : List Event) (ts : List ℕ) → tooks did ≡ n → all ≡ did ++ more → Goes ts more → ((start : List Event) × IsMostly (through all n) start × IsPrefix start did) × (ts ≡ [] → ⊥)
  off n did all more ts took e goes = ((did, mostly did all more ts n took e goes, prefix_self did), λ z. let t = goes.4 in cc)

  pub closes_expanded : (root : ℕ) (done : List ℕ) (did : List Event) (n p : ℕ) (ss : List Symbol) (r : Rule) → IsFine g (Part n ∷ ss) → closing_of (slice_get g.parts.items n) ≡ Some p → slice_get g.rules.items p ≡ Some r → r.part ≡ n
      → Closes g root done did (Part n ∷ ss) → Closes g root done did (r.body.items ++ ss)
  closes_expanded root done did n p ss r h t e q l = record {
    took = l.took;
    on = λ ts more d. l.on ts more (Expanded p r e q d);
    back = λ ts all d. elim (l.back ts all d) [ inl x ↦ inl x | inr x ↦ go ts all x ];
  }
    where
      go : (ts : List ℕ) (all : List Event) → (more : List Event) × (all ≡ did ++ more) × Derives g (Part n ∷ ss) ts more
          → (((start : List Event) × IsMostly (through all (length done)) start × IsPrefix start did) × (ts ≡ [] → ⊥)) ⊎ ((more : List Event) × (all ≡ did ++ more) × Derives g (r.body.items ++ ss) ts more)
      go ts all x =
          let a = after_part x.2 in
          let found : pick g n (column_of ts) ≡ Some a.0 = picks g ok ss a.1 a.2 a.3 h a.4 in
          elim (cases_eq a.0 p) [
            | inl same ↦ (let rules : a.1 ≡ r = cc in inr (x.0, x.1, subst (λ y. Derives g (y.body.items ++ ss) ts x.0) rules a.4))
            | inr other ↦ inl (off (length done) did all x.0 ts l.took x.1 (begins_goes x.2 h (a.0, found, λ c. other (let one : Some a.0 ≡ Some p = sym c ∙ t in cc))))
          ]

  -- where nothing more may end
  stops : (root : ℕ) (done : List ℕ) (did : List Event) (stack : List Symbol) → AreKnownSymbols g stack → ((ts : List ℕ) (more : List Event) → Derives g stack ts more → Goes ts more)
      → Closes g root done did stack → Ends g root done Stuck did
  stops root done did stack known goes l =
      let t = text_of g ok stack known in
      let x = goes t.0 t.1 t.2 in (
        record {
          some = (t.0, did ++ t.1, l.on t.0 t.1 t.2, mostly did (did ++ t.1) t.1 t.0 (length done) l.took refl x);
          most = λ ts all d. elim (l.back ts all d) [
            | inl o ↦ o.0
            | inr y ↦ (off (length done) did all y.0 ts l.took y.1 (goes ts y.0 y.2)).0
          ];
        },
        λ d. elim (l.back [] d.0 (subst (λ x. IsTextOf g root x d.0) (sym (append-nil done)) d.1)) [
          | inl o ↦ o.1 refl
          | inr y ↦ (let z = (goes [] y.0 y.2).4 in cc)
        ],
      )

  pub stops_sign : (root : ℕ) (done : List ℕ) (did : List Event) (s : ℕ) (ss : List Symbol) → AreKnownSymbols g (Sign s ∷ ss) → Closes g root done did (Sign s ∷ ss) → Ends g root done Stuck did
  stops_sign root done did s ss known l = stops root done did (Sign s ∷ ss) known (λ ts more d. let a = after_sign d in (a.0, a.1, [], a.2, a.3, a.4, tt)) l

  pub stops_part : (root : ℕ) (done : List ℕ) (did : List Event) (n : ℕ) (ss : List Symbol) → IsFine g (Part n ∷ ss) → AreKnownSymbols g (Part n ∷ ss) → closing_of (slice_get g.parts.items n) ≡ None
      → Closes g root done did (Part n ∷ ss) → Ends g root done Stuck did
  stops_part root done did n ss fine known none l =
      stops root done did (Part n ∷ ss) known (λ ts more d. let a = after_part d in begins_goes d fine (a.0, picks g ok ss a.1 a.2 a.3 fine a.4, λ c. cc)) l

  pub closes_all : (root : ℕ) (done : List ℕ) (did : List Event) → Closes g root done did [] → Ends g root done Text did
  closes_all root done did l =
      let d : IsTextOf g root (done ++ []) (did ++ []) = l.on [] [] Finished in
      let whole : through did (length done) ≡ did = subst (λ n. through did n ≡ did) l.took (subst (λ x. through x (tooks did) ≡ did) (append-nil did) (through_more did [] ∙ append-nil did)) in (
        record {
          some = ([], did ++ [], d, ([], ap (λ x. through x (length done)) (append-nil did) ∙ (whole ∙ sym (append-nil did)), tt));
          most = λ ts all d. elim (l.back ts all d) [
            | inl o ↦ o.0
            | inr y ↦ (let e : all ≡ did = y.1 ∙ (ap (λ x. did ++ x) (after_none y.2).1 ∙ append-nil did) in (did, ([], ap (λ x. through x (length done)) e ∙ (whole ∙ sym (append-nil did)), tt), prefix_self did))
          ];
        },
        subst (λ x. IsTextOf g root x did) (append-nil done) (subst (IsTextOf g root (done ++ [])) (append-nil did) d),
      )
