use Rattle.irkit_words.proofs.WordLemmas.{say_next, unknown_number}
use Rattle.irkit_words.proofs.request.numbers_in.Goals as goal

pub returns-in-None : goal.returns-in-None
returns-in-None c = unknown_number c.args.words.now c.loop-word.word-index _ c.loop-word-test.true c.in-None.ensures

pub loop-word-preserved : goal.loop-word-preserved
loop-word-preserved c =
    let next = say_next c.args.words.now c.loop-word.word-index _ c.loop-word.numbers.items c.in-Some.number c.loop-word-test.true c.loop-word.invariant c.in-Some.ensures in
    rw c.in_ok-push-in-Some.ensures.items next
