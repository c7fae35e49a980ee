use Rattle.std.proofs.Common.{map, take}
use Rattle.irkit_words.specs.Requests.{SayNumbers}
use Rattle.irkit_words.proofs.request.numbers_in.Given as goal

abbrev pub invariant-loop-word : goal.invariant-loop-word
invariant-loop-word l = SayNumbers (map (λ w. w.now) (take l.word-index l.words)) l.numbers.items
