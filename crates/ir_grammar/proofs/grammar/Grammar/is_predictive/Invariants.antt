use Rattle.std.proofs.Common.{◌≡◌, ℕ, ◌<◌, Some, slice_get}
use Rattle.ir_grammar.specs.declared.grammar.Rule.{Rule}
use Rattle.ir_grammar.specs.declared.grammar.Facts.{Facts}
use Rattle.ir_grammar.specs.Table.{FitsRule, HasShortest, IsChoice, IsRuleOf, closing_of, pick}
use Rattle.ir_grammar.proofs.grammar.Grammar.is_predictive.Given as goal

abbrev pub invariant-loop-p : goal.invariant-loop-p
invariant-loop-p l = (p : ℕ) → p < l.p → (r : Rule) → slice_get l.self.rules.items p ≡ Some r → FitsRule l.self p r

abbrev pub invariant-loop-n : goal.invariant-loop-n
invariant-loop-n l = record {
  picked : (n c p : ℕ) → n < l.n → pick l.self n c ≡ Some p → IsChoice l.self n c p;
  closed : (n p : ℕ) → n < l.n → closing_of (slice_get l.self.parts.items n) ≡ Some p → IsRuleOf l.self n p;
  shortest : (n : ℕ) → n < l.n → (f : Facts) → slice_get l.self.parts.items n ≡ Some f → HasShortest l.self n f;
}
