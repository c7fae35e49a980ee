use Rattle.std.proofs.Common.{sym, inr}
use Rattle.text_outlines.proofs.names.read_name.Goals as goal

pub returns-then-is_dotted : goal.returns-then-is_dotted
returns-then-is_dotted g c = inr (
  c.fault_at.ensures,
  inr (record {
    said = (c.in_ok-name.ensures.stands.0.0, c.in_ok-name.ensures.characters);
    there = c.in_ok-name.ensures.stands.0.1;
    behind = c.parse.new.stream;
    reads = record { behind = c.in_ok-name.ensures.behind; state = c.in_ok-name.ensures.stands.1 };
    dotted = sym c.if-is_dotted.ensures;
  }),
)
