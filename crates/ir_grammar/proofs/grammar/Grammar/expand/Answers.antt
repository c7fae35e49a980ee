use Rattle.std.proofs.Common.{ap, refl, ◌++◌, ◌∙◌}
use Rattle.std.proofs.lemmas.Option.{slice_get_read}
use Rattle.std.proofs.lemmas.Result.{on_ok_weaker}
use Rattle.ir_grammar.specs.Pending.{unread}
use Rattle.ir_grammar.proofs.grammar.Grammar.expand.Goals as goal

pub returns : goal.returns
returns c = on_ok_weaker c.open.result (λ e. (
  c.index.result.now,
  slice_get_read c.args.self.now.rules.items _ c.args.rule c.index.result.now refl c.requires.rule c.index.ensures,
  e ∙ (ap (λ x. x ++ unread c.skip.new.self) c.deref.ensures.value ∙ ap (λ x. c.index.result.now.body.items ++ x) c.skip.ensures),
)) c.open.ensures
