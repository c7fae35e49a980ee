use Rattle.std.proofs.Common.{inr}
use Rattle.text_outlines.proofs.names.read_word.Goals as goal

pub returns-then-is_section_word : goal.returns-then-is_section_word
returns-then-is_section_word g c = (c.in_ok-name.name, c.in_ok-name.ensures, c.if-is_section_word.ensures)

pub returns : goal.returns
returns g c =
    inr (c.fault_at.ensures, c.in_ok-name.name, c.read_name.new.stream, c.in_ok-name.ensures, c.if-is_section_word.ensures)
