use Rattle.std.proofs.Common.{refl}
use Rattle.text_streams.proofs.stream.parse_from_str.Goals as goal

pub returns : goal.returns
returns g c = record {
  start = c.new-stream.result;
  end = c.parser.new.arg2;
  starts = c.new-stream.ensures;
  called = record { shown = _; shows = refl; left = _; met = c.parser.ensures; leaves = refl };
}
