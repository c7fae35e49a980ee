use Rattle.irkit_words.proofs.WordLemmas.{unknown_name}
use Rattle.irkit_words.proofs.request.passes_of.Goals as goal

pub returns-in-None : goal.returns-in-None
returns-in-None c = unknown_name c.args.names.now c.loop-name.name-index _ c.loop-name-test.true c.in-None.ensures
