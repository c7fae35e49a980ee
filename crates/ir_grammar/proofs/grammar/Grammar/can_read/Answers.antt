use Rattle.std.proofs.Common.{sym, ◌∙◌}
use Rattle.ir_grammar.proofs.grammar.Grammar.can_read.Goals as goal

pub returns : goal.returns
returns c h = record {
  predictive = c.is_predictive.ensures c.if-not-is_predictive.false;
  known = c.is_known.ensures c.if-not-is_known.false;
  ends = sym c.follows.ensures ∙ h;
}
