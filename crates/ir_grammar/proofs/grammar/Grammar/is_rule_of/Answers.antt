use Rattle.std.proofs.Common.{arith, refl}
use Rattle.std.proofs.lemmas.Bool.{eqb-true}
use Rattle.std.proofs.lemmas.Option.{slice_get_read}
use Rattle.ir_grammar.proofs.grammar.Grammar.is_rule_of.Goals as goal

pub returns : goal.returns
returns c h =
    (c.index.result.now, slice_get_read c.args.self.now.rules.items _ _ _ refl (omega (arith, c.args.self.now.rules.ok.0)) c.index.ensures, eqb-true _ _ h)
