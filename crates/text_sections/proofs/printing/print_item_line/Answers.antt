use Rattle.std.proofs.Common.{◌∙◌, List, ℕ, sym}
use Rattle.outline_tables.specs.Tables.{said_beside}
use Rattle.text_sections.specs.Items.{attributes_in, sharing}
use Rattle.text_sections.proofs.LineLemmas.{item_line_added}
use Rattle.text_sections.proofs.printing.print_item_line.Goals as goal

pub returns-clause-text : goal.returns-clause-text
returns-clause-text g c =
    let pa : g.row.A.Denot → List ℕ → Type 0 = λ a. g.A.Printable.prints a c.args.context.now c.args.state.now in
    let pl : g.row.L.Denot → List ℕ → Type 0 = λ l. g.L.Printable.prints l c.args.context.now c.args.state.now in
    let written = g.W.TextWriter.written in
    item_line_added (sharing g.A.PrintOnce.is_once g.A.PartialEq.eq) pa pl c.args.section.now.marked (attributes_in c.args.section.now.once.keys) (said_beside c.args.item.now) c.args.index
    (written c.args.out.now) (written c.print_index.new.out) (written c.print_item.new.out) (written c.write_text.new.self)
    (sym c.is_marked.ensures ∙ c.if-not-is_marked.false) c.in_ok-print_index.ensures c.in_ok-print_item.ensures.text c.in_ok-write_text.ensures
