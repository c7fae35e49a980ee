use Rattle.std.proofs.Common.{refl}
use Rattle.text_marks.proofs.marks.outlined_marker_or.Goals as goal

pub returns-in-Ok-parser-clause-other : goal.returns-in-Ok-parser-clause-other
returns-in-Ok-parser-clause-other g c = λ _. record {
  answer = _;
  called = record { shown = _; shows = refl; left = _; met = c.in-Ok-parser.ensures; leaves = refl };
  handed_on = refl;
}

pub returns-clause-other : goal.returns-clause-other
returns-clause-other g c = λ _. record {
  answer = _;
  called = record { shown = _; shows = refl; left = _; met = c.in-Err-parser.ensures; leaves = refl };
  handed_on = refl;
}
