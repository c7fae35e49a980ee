use Rattle.ir_formats.proofs.Spelled.{any_default, word_spelled}
use Rattle.ir_formats.proofs.words.spelled.Goals as goal

pub loop-word-preserved : goal.loop-word-preserved
loop-word-preserved c =
    word_spelled c.args.words.now c.loop-word.word-index _ _ _ _ _ c.loop-word-test.true (any_default c.args.words.now c.loop-word.word-index _ _ c.loop-word-test.true) c.loop-word.invariant c.in_ok-from_str.ensures c.in_ok-push.ensures.items
