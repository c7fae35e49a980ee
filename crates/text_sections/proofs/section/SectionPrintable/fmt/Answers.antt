use Rattle.std.proofs.Common.{List, ℕ}
use Rattle.ir_outlines.specs.Section.{section_of}
use Rattle.text_sections.specs.Items.{said_items, sharing}
use Rattle.text_sections.specs.Texts.{section_tokens}
use Rattle.text_sections.proofs.TextLemmas.{printed}
use Rattle.text_sections.proofs.section.SectionPrintable.fmt.Goals as goal

pub returns-clause-text : goal.returns-clause-text
returns-clause-text g c =
    let pa : g.row.A.Denot → List ℕ → Type 0 = λ a. g.A.Printable.prints a c.args.context.now c.args.state.now in
    let pl : g.row.L.Denot → List ℕ → Type 0 = λ l. g.L.Printable.prints l c.args.context.now c.args.state.now in
    printed pa pl (section_tokens (section_of (sharing g.A.PrintOnce.is_once g.A.PartialEq.eq) (said_items c.args.self.now.items.now))) (g.W.TextWriter.written c.args.out.now) (g.W.TextWriter.written c.print_section.new.out) c.in_ok-print_section.ensures.text
