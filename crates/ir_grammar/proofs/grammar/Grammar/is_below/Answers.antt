use Rattle.std.proofs.Common.{arith, refl}
use Rattle.ir_grammar.proofs.Checks.{below_sign, below_act, below_next}
use Rattle.std.proofs.lemmas.Option.{slice_get_read}
use Rattle.ir_grammar.proofs.grammar.Grammar.is_below.Goals as goal
use Rattle.ir_grammar.proofs.grammar.Grammar.is_below.Goals.{in-Act, in-Sign+else-not-has_kind, in-Part+else-len-inner+else-index-rank}

pub loop-symbol-preserved : goal.loop-symbol-preserved
loop-symbol-preserved c h = c.loop-symbol.invariant (elim c.match-symbol.branch [
  | in-Act w ↦ below_act c.args.self.now c.args.rank c.args.body.now _ _ _ c.loop-symbol-test.true w.in-Act.is h
  | in-Sign+else-not-has_kind w ↦ below_sign c.args.self.now c.args.rank c.args.body.now _ _ _ c.loop-symbol-test.true w.in-Sign.is (w.has_kind.ensures w.if-not-has_kind.false) h
  | in-Part+else-len-inner+else-index-rank w ↦
      below_next c.args.self.now c.args.rank c.args.body.now _ _ _ w.index.result.now c.loop-symbol-test.true w.in-Part.is
      (slice_get_read c.args.self.now.parts.items _ _ _ refl (omega (arith, c.args.self.now.parts.ok.0)) w.index.ensures) w.if-index-rank.false h
])
