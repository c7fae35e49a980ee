use Rattle.outline_values.proofs.texts.read_text.Goals as goal

pub returns-in-Ok : goal.returns-in-Ok
returns-in-Ok c = record {
  start = c.skip_spaces-start.result;
  spaces = c.skip_spaces-start.ensures;
  said = c.in-Ok.ensures.text.said;
  there = c.in-Ok.ensures.text.there;
  words = c.in-Ok.ensures.text.holds;
  behind = c.in-Ok.ensures.text.reads.behind;
}
