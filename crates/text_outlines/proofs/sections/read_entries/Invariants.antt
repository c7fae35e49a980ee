use Rattle.std.proofs.Common.{[]}
use Rattle.outline_tables.specs.Tables.{section_of}
use Rattle.text_streams.specs.Positions.{bytes_left}
use Rattle.text_outlines.specs.Sections.{ReadsItems}
use Rattle.text_outlines.proofs.sections.read_entries.Given as goal

-- the entries so far were read, they are the section so far, and the stream is behind them
abbrev pub invariant-entries : goal.invariant-entries
invariant-entries g l = ReadsItems g.F.FnMut ([], (l.fn.attribute, l.fn.stream)) (section_of l.table, (l.attribute, l.stream))

abbrev pub decreases-entries : goal.decreases-entries
decreases-entries g l = bytes_left l.stream.position
