use Rattle.std.proofs.Common.{refl}
use Rattle.text_streams.proofs.parsers.spaced.Goals as goal

pub returns-in-Ok : goal.returns-in-Ok
returns-in-Ok g c = record {
  start = record { position = c.skip_spaces-stream.result; state = c.args.stream.now.state };
  end = c.parser.new.arg2;
  before = record { behind = c.skip_spaces-stream.ensures; state = refl };
  called = record { shown = _; shows = refl; left = _; met = c.in-Ok.ensures; leaves = refl };
  behind = record { behind = c.skip_spaces-stream-in-Ok.ensures; state = refl };
}

pub returns-in-Err : goal.returns-in-Err
returns-in-Err g c = record {
  start = record { position = c.skip_spaces-stream.result; state = c.args.stream.now.state };
  end = c.parser.new.arg2;
  before = record { behind = c.skip_spaces-stream.ensures; state = refl };
  called = record { shown = _; shows = refl; left = _; met = c.in-Err.ensures; leaves = refl };
  behind = refl;
}
