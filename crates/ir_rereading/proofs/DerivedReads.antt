-- A text that derives from a grammar is read to its end.
use Rattle.std.proofs.Common.{◌≡◌, ℕ, suc, ◌<◌, List, [], ◌∷◌, ◌++◌, Some, length, take, slice_get, refl, sym, subst, ap, ◌∙◌, arith, append-nil, ◌⊎◌, inl, inr}
use Rattle.std.proofs.lemmas.List.{take_all}
use Rattle.std.proofs.lemmas.Bool.{cases_eq}
use Rattle.ir_grammar.specs.declared.grammar.Action.{Action}
use Rattle.ir_grammar.specs.declared.grammar.Symbol.{Symbol}
use Rattle.ir_grammar.specs.declared.grammar.Symbol.TheVariants.{Part}
use Rattle.ir_grammar.specs.declared.grammar.Event.{Event}
use Rattle.ir_grammar.specs.declared.grammar.Event.TheVariants.{Took, Did}
use Rattle.ir_grammar.specs.declared.grammar.Rule.{Rule}
use Rattle.ir_grammar.specs.declared.grammar.Grammar.{Grammar}
use Rattle.ir_grammar.specs.declared.grammar.Stop.TheVariants.{Text}
use Rattle.ir_grammar.specs.Grammar.{Derives, Finished, Shifted, Acted, Expanded, IsTextOf}
use Rattle.ir_grammar.specs.Table.{column_of, pick, MayFollowPart, closing_of, BeginsAtColumn, IsFine, IsPredictive, CanRead}
use Rattle.ir_grammar.specs.Reading.{through, IsPrefix, OnlyBegins, IsMostly, IsMost, OpensMore, Reads}
use Rattle.ir_grammar.proofs.Derivations.{after_none, after_sign, after_act, after_part, picks, fine_expanded}
use Rattle.ir_grammar.proofs.Closing.{begins_append}

-- what is done with the first n tokens in one text is at most what is done in the other, but for members that begin
abbrev AtMost : ℕ → List Event → List Event → Type 0
AtMost n es all = (start : List Event) × IsMostly (through all n) start × IsPrefix start es

done_took : (n : ℕ) (es all : List Event) → AtMost n es all → AtMost (suc n) (Took ∷ es) (Took ∷ all)
done_took n es all m = (Took ∷ m.0, (m.1.0, ap (λ x. Took ∷ x) m.1.1, m.1.2), (m.2.0, ap (λ x. Took ∷ x) m.2.1))

done_act : (a : Action) (n : ℕ) (es all : List Event) → AtMost n es all → AtMost n (Did a ∷ es) (Did a ∷ all)
done_act a n es all m = (Did a ∷ m.0, (m.1.0, ap (λ x. Did a ∷ x) m.1.1, m.1.2), (m.2.0, ap (λ x. Did a ∷ x) m.2.1))

column_more : (k : ℕ) (ts more : List ℕ) → column_of ((k ∷ ts) ++ more) ≡ column_of (k ∷ ts)
column_more k ts more = refl

module _ (g : Grammar) (ok : IsPredictive g) where
  -- what goes on at a column takes a token there, and does nothing before it but begin members
  begins_token : {ss : List Symbol} {ts : List ℕ} {es : List Event} → Derives g ss ts es → IsFine g ss → BeginsAtColumn g ss (column_of ts) → (0 < column_of ts) × OnlyBegins (through es 0)
  begins_token Finished h b = absurd b
  begins_token (Shifted a d) h b = (omega arith, tt)
  begins_token (Acted d) h b = let x = begins_token d h b.1 in (x.0, (b.0, x.1))
  begins_token (Expanded {n} {ss} {ts} p r e q d) h b =
      let one : pick g n (column_of ts) ≡ Some p = picks g ok ss r e q h d in
      let x = ok.picked n (column_of ts) p one in
      let same : x.0 ≡ r = cc in
      let fine = fine_expanded g ok p r ss e (subst (λ m. IsFine g (Part m ∷ ss)) (sym q) h) in
      elim (x.3) [
        | inl closing ↦ absurd (b.2 (let two : pick g n (column_of ts) ≡ Some b.0 = b.1 in cc))
        | inr begins ↦ begins_token d fine (begins_append g r.body.items ss (column_of ts) (subst (λ y. BeginsAtColumn g y.body.items (column_of ts)) same begins))
      ]

  -- where the end picks a rule, it closes the part
  closes_at_end : (n p : ℕ) (ss : List Symbol) (r : Rule) (es : List Event) → slice_get g.rules.items p ≡ Some r → r.part ≡ n → IsFine g (Part n ∷ ss) → Derives g (r.body.items ++ ss) [] es
      → closing_of (slice_get g.parts.items n) ≡ Some p
  closes_at_end n p ss r es e q h d =
      let x = ok.picked n 0 p (picks g ok ss r e q h d) in
      let same : x.0 ≡ r = cc in
      elim (x.3) [
        | inl closing ↦ closing
        | inr begins ↦ (let t = begins_token d (fine_expanded g ok p r ss e (subst (λ m. IsFine g (Part m ∷ ss)) (sym q) h)) (begins_append g r.body.items ss 0 (subst (λ y. BeginsAtColumn g y.body.items 0) same begins)) in absurd (omega (arith, t.0)))
      ]

  -- two rules of a part, one in a text and one in a text that goes on: they are one, or nothing is done before the next token but that members begin
  same_rule : (n p : ℕ) (ss : List Symbol) (ts more : List ℕ) (r : Rule) (es all : List Event) → slice_get g.rules.items p ≡ Some r → r.part ≡ n → IsFine g (Part n ∷ ss) → Derives g (r.body.items ++ ss) ts es
      → Derives g (Part n ∷ ss) (ts ++ more) all → Derives g (r.body.items ++ ss) (ts ++ more) all ⊎ ((ts ≡ []) × OnlyBegins (through all 0))
  same_rule n p ss (k ∷ ts) more r es all e q h d other =
      let a = after_part other in
      let one : pick g n (suc k) ≡ Some p = picks g ok ss r e q h d in
      let two : pick g n (suc k) ≡ Some a.0 = picks g ok ss a.1 a.2 a.3 h a.4 in
      let same : a.1 ≡ r = cc in
      inl (subst (λ x. Derives g (x.body.items ++ ss) (k ∷ (ts ++ more)) all) same a.4)
  same_rule n p ss [] more r es all e q h d other =
      let a = after_part other in
      let closing = closes_at_end n p ss r es e q h d in
      let two : pick g n (column_of more) ≡ Some a.0 = picks g ok ss a.1 a.2 a.3 h a.4 in
      elim (cases_eq a.0 p) [
        | inl is ↦ (let same : a.1 ≡ r = cc in inl (subst (λ x. Derives g (x.body.items ++ ss) more all) same a.4))
        | inr not_it ↦ inr (refl, (begins_token other h (a.0, two, λ c. not_it (let one : Some a.0 ≡ Some p = sym c ∙ closing in cc))).1)
      ]

  -- a text that goes on does no more at the front
  goes_on : {ss : List Symbol} {ts : List ℕ} {es : List Event} → Derives g ss ts es → IsFine g ss → (more : List ℕ) (all : List Event) → Derives g ss (ts ++ more) all → AtMost (length ts) es all
  goes_on Finished h more all d = ([], ([], ap (λ x. through x 0) (after_none d).1, tt), ([], refl))
  goes_on (Shifted {ss = ss} {ts = ts} {es = es} a d) h more all d' =
      let b = after_sign d' in
      let same : b.1 ≡ ts ++ more = let e = b.3 in cc in
      subst (AtMost (suc (length ts)) (Took ∷ es)) (sym b.4) (done_took (length ts) es b.2 (goes_on d h more b.2 (subst (λ x. Derives g ss x b.2) same b.6)))
  goes_on (Acted {a} {ts = ts} {es = es} d) h more all d' =
      let b = after_act d' in
      subst (AtMost (length ts) (Did a ∷ es)) (sym b.1) (done_act a (length ts) es b.0 (goes_on d h more b.0 b.2))
  goes_on (Expanded {n} {ss} {ts} {es} p r e q d) h more all d' =
      let fine = fine_expanded g ok p r ss e (subst (λ m. IsFine g (Part m ∷ ss)) (sym q) h) in
      elim (same_rule n p ss ts more r es all e q h d d') [
        | inl same ↦ goes_on d fine more all same
        | inr begun ↦ subst (λ x. AtMost (length x) es all) (sym begun.0) ([], (through all 0, refl, begun.1), (es, refl))
      ]

-- all that is done, for all tokens
through_all : {g : Grammar} {ss : List Symbol} {ts : List ℕ} {es : List Event} → Derives g ss ts es → through es (length ts) ≡ es
through_all Finished = refl
through_all (Shifted a d) = ap (λ x. Took ∷ x) (through_all d)
through_all (Acted {a} d) = ap (λ x. Did a ∷ x) (through_all d)
through_all (Expanded p r e q d) = through_all d

-- A text that derives, with no more than so many parts open, is read to its end.
pub derived_reads : (g : Grammar) (ks : List ℕ) (es : List Event) → CanRead g 0 → Derives g (Part 0 ∷ []) ks es → (OpensMore 64 0 es → ⊥) → Reads g 0 64 ks Text (length ks) es
derived_reads g ks es can d few =
    let all : take (length ks) ks ≡ ks = take_all (length ks) ks (omega arith) in
    let fine : IsFine g (Part 0 ∷ []) = (λ c z. subst (λ x. MayFollowPart g 0 x) (sym z) can.ends, tt) in
    let whole : IsTextOf g 0 (ks ++ []) es = subst (λ x. IsTextOf g 0 x es) (sym (append-nil ks)) d in
    let most : IsMost g 0 ks es = record {
      some = ([], es, whole, ([], through_all d ∙ sym (append-nil es), tt));
      most = λ more events text. goes_on g can.predictive d fine more events text;
    } in (
      record {
        within = omega arith;
        viable = ([], (es, subst (λ x. IsTextOf g 0 (x ++ []) es) (sym all) whole));
        longest = λ lt v. absurd (omega arith);
      },
      subst (λ x. IsMost g 0 x es) (sym all) most,
      subst (λ x. IsTextOf g 0 x es) (sym all) d,
    )
