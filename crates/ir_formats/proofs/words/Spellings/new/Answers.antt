use Rattle.std.proofs.Common.{refl, arith}
use Rattle.ir_formats.proofs.Spelled.{begun_more, begun_all}
use Rattle.ir_formats.proofs.Signs.{none_kept}
use Rattle.ir_formats.proofs.words.Spellings.new.Goals as goal

pub loop-number-preserved : goal.loop-number-preserved
loop-number-preserved c = (
  begun_more c.args.words.now c.loop-number.number c.index-words-number.result _ _ c.loop-number-test.true c.index-words-number.is c.loop-number.invariant.0 _ _ _ _ c.as_text.ensures refl c.in_ok-add_word.ensures.known c.in_ok-add_word.ensures.words,
  rw c.add_word.ensures.signs c.loop-number.invariant.1,
)

pub returns-clause-words : goal.returns-clause-words
returns-clause-words c = begun_all _ _ _ _ (omega arith) c.loop-number.invariant.0

pub returns-clause-signs : goal.returns-clause-signs
returns-clause-signs c = rw c.loop-number.invariant.1 (none_kept _ _ 128)
