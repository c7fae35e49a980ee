use Rattle.text_locations.proofs.ReadingLemmas.{quoted_read}
use Rattle.text_locations.proofs.tokens.take_quoted.Goals as goal

pub returns : goal.returns
returns g c = quoted_read c.args.stream.now c.quoted_string_parse.new.stream c.quoted_string_parse.result c.quoted_string_parse.ensures.text
