use Rattle.std.proofs.Common.{arith}
use Rattle.ir_grammar.proofs.Checks.{known_sign, known_act, known_next}
use Rattle.ir_grammar.proofs.grammar.Grammar.is_known.Goals as goal
use Rattle.ir_grammar.proofs.grammar.Grammar.is_known.Goals.{in-Act, in-Sign+else-not-has_kind, in-Part+else-len-inner}

pub loop-symbol-preserved : goal.loop-symbol-preserved
loop-symbol-preserved c = λ h. c.loop-symbol.invariant (elim c.match-symbol.branch [
  | in-Act w ↦ known_act c.args.self.now c.args.body.now _ _ _ c.loop-symbol-test.true w.in-Act.is h
  | in-Sign+else-not-has_kind w ↦ known_sign c.args.self.now c.args.body.now _ _ _ c.loop-symbol-test.true w.in-Sign.is (w.has_kind.ensures w.if-not-has_kind.false) h
  | in-Part+else-len-inner w ↦ known_next c.args.self.now c.args.body.now _ _ _ c.loop-symbol-test.true w.in-Part.is (omega (arith, c.args.self.now.parts.ok.0)) h
])
