use Rattle.std.proofs.Common.{◌≡◌, Some, ℕ, ◌∙◌}
use Rattle.ir_grammar.specs.declared.grammar.Grammar.{Grammar}
use Rattle.ir_grammar.specs.Table.{IsRuleOf}
use Rattle.ir_grammar.proofs.grammar.Grammar.closing_is_of.Goals as goal

here : (g : Grammar) (n a b : ℕ) → Some a ≡ Some b → IsRuleOf g n a → IsRuleOf g n b
here g n a b e h = let same : a ≡ b = cc in rw same at h

pub returns-in-Some : goal.returns-in-Some
returns-in-Some c h p e = here c.args.self.now c.args.part _ p (c.in-Some.ensures ∙ e) (c.is_rule_of.ensures h)
