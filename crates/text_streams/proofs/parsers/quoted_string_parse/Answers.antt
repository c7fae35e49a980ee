use Rattle.text_streams.proofs.ReadingLemmas.{reads_back}
use Rattle.text_streams.proofs.parsers.quoted_string_parse.Goals as goal

pub returns-clause-inverse : goal.returns-clause-inverse
returns-clause-inverse g c = λ cs rest e. reads_back c.args.stream.now c.take_text.new.stream c.take_text.result cs rest e (c.take_text.ensures _ c.quoted_text-read.ensures)
