use Rattle.std.proofs.Common.{◌≡◌, ◌≤◌, ℕ, List, drop}
use Rattle.text_sections.specs.Items.{attributes_in, said_items, sharing}
use Rattle.text_sections.specs.Lines.{item_lines}
use Rattle.text_sections.specs.Texts.{AddsTokens}
use Rattle.text_sections.proofs.printing.print_items.Given as goal

-- with the lines of the items that are left all are printed
abbrev pub invariant-loop-item : goal.invariant-loop-item
invariant-loop-item g l =
    (l.state ≡ l.fn.state) × (l.index ≤ l.item-index)
    × ((new : List ℕ) →
    AddsTokens {A = g.row.A.Denot} {L = g.row.L.Denot} (λ a. g.A.Printable.prints a l.fn.context l.fn.state) (λ p. g.L.Printable.prints p l.fn.context l.fn.state) (g.W.TextWriter.written l.out)
    (item_lines (sharing g.A.PrintOnce.is_once g.A.PartialEq.eq) l.section.marked (attributes_in l.section.once.keys) l.index (said_items (drop l.item-index l.item-items))) new →
    AddsTokens {A = g.row.A.Denot} {L = g.row.L.Denot} (λ a. g.A.Printable.prints a l.fn.context l.fn.state) (λ p. g.L.Printable.prints p l.fn.context l.fn.state) (g.W.TextWriter.written l.fn.out)
    (item_lines (sharing g.A.PrintOnce.is_once g.A.PartialEq.eq) l.section.marked (attributes_in l.section.once.keys) 0 (said_items l.item-items)) new)
