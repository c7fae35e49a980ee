use Rattle.std.proofs.Common.{◌≡◌, ℕ, subst, Some, slice_get, sym, ◌∙◌, refl, arith, below_more}
use Rattle.std.proofs.lemmas.Option.{slice_get_read, slice_get_within}
use Rattle.ir_grammar.specs.declared.grammar.Rule.{Rule}
use Rattle.ir_grammar.specs.declared.grammar.Facts.{Facts}
use Rattle.ir_grammar.specs.Table.{FitsRule, HasShortest, IsChoice, IsRuleOf, closing_of, pick}
use Rattle.ir_grammar.proofs.Checks.{chosen_within, closing_within}
use Rattle.ir_grammar.proofs.grammar.Grammar.is_predictive.Goals as goal
use Rattle.ir_grammar.proofs.grammar.Grammar.is_predictive.Goals.{Else-not-has_shortest}

pub loop-p-preserved : goal.loop-p-preserved
loop-p-preserved c =
    below_more (λ p. (r : Rule) → slice_get c.args.self.now.rules.items p ≡ Some r → FitsRule c.args.self.now p r) c.loop-p.p c.loop-p.invariant (c.fits_rule.ensures c.if-not-fits_rule.false)

read : (c : Else-not-has_shortest) → slice_get c.args.self.now.parts.items c.loop-n.n ≡ Some c.index-facts.result.now
read c = slice_get_read c.args.self.now.parts.items _ _ _ refl (omega (arith, c.args.self.now.parts.ok.0)) c.index-facts.ensures

same_facts : (a b : Facts) → Some a ≡ Some b → a ≡ b
same_facts a b e = cc

pub loop-n-preserved : goal.loop-n-preserved
loop-n-preserved c =
    let g = c.args.self.now in
    let at = read (goal.at.loop-n-preserved c).Else-not-has_shortest in
    record {
      picked = λ n d p lt e. below_more (λ n. (d p : ℕ) → pick g n d ≡ Some p → IsChoice g n d p) c.loop-n.n
          (λ n l d p e. c.loop-n.invariant.picked n d p l e)
          (λ d p e. c.choices_are_of.ensures c.if-not-choices_are_of.false d p (rw c.deref.ensures.value (rw at at e)))
          n lt d p e;
      closed = λ n p lt e. below_more (λ n. (p : ℕ) → closing_of (slice_get g.parts.items n) ≡ Some p → IsRuleOf g n p) c.loop-n.n
          (λ n l p e. c.loop-n.invariant.closed n p l e)
          (c.closing_is_of.ensures c.if-not-closing_is_of.false)
          n lt p e;
      shortest = below_more (λ n. (f : Facts) → slice_get g.parts.items n ≡ Some f → HasShortest g n f) c.loop-n.n c.loop-n.invariant.shortest
          (λ f e. subst (λ x. HasShortest g c.loop-n.n x) (same_facts _ _ (sym at ∙ e)) (c.has_shortest.ensures c.if-not-has_shortest.false));
    }

pub returns : goal.returns
returns c _ = record {
  rules = λ p r e. c.loop-p.invariant p (let w = slice_get_within c.args.self.now.rules.items p r e in omega (arith, c.args.self.now.rules.ok.0)) r e;
  picked = λ n d p e. c.loop-n.invariant.picked n d p (let w = chosen_within c.args.self.now.parts.items n d p e in omega (arith, c.args.self.now.parts.ok.0)) e;
  closed = λ n p e. c.loop-n.invariant.closed n p (let w = closing_within c.args.self.now.parts.items n p e in omega (arith, c.args.self.now.parts.ok.0)) e;
  shortest = λ n f e. c.loop-n.invariant.shortest n (let w = slice_get_within c.args.self.now.parts.items n f e in omega (arith, c.args.self.now.parts.ok.0)) f e;
}

pub loop-p-init : goal.loop-p-init
loop-p-init c = λ p lt r e. absurd (omega (arith, lt))

pub loop-n-init : goal.loop-n-init
loop-n-init c = record {
  picked = λ n d p lt e. absurd (omega (arith, lt));
  closed = λ n p lt e. absurd (omega (arith, lt));
  shortest = λ n lt f e. absurd (omega (arith, lt));
}
