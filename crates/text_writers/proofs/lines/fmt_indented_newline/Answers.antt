use Rattle.text_writers.proofs.QuoteLemmas.{line-space}
use Rattle.text_writers.proofs.lines.fmt_indented_newline.Goals as goal

pub loop-preserved : goal.loop-preserved
unfolding lib.Utf8.encode
loop-preserved g c = line-space _ _ _ c.loop.counter c.loop.invariant c.in_ok-write_character-2.ensures
