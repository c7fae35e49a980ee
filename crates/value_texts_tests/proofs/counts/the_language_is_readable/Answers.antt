use Rattle.value_texts_tests.proofs.Readable.{readable}
use Rattle.value_texts_tests.proofs.counts.the_language_is_readable.Goals as goal

pub returns : goal.returns
returns c = readable
