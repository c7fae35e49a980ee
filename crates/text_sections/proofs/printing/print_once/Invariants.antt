use Rattle.std.proofs.Common.{◌≡◌, ◌+◌, ℕ, List, drop}
use Rattle.text_sections.specs.Items.{attributes_in}
use Rattle.text_sections.specs.Lines.{once_lines}
use Rattle.text_sections.specs.Texts.{AddsTokens, prints_nothing}
use Rattle.text_sections.proofs.printing.print_once.Given as goal

-- with the lines of those that are left all are printed
abbrev pub invariant-loop-place : goal.invariant-loop-place
invariant-loop-place g l =
    (l.state ≡ l.fn.state)
    × ((new : List ℕ) →
    AddsTokens {A = g.row.A.Denot} {L = g.row.L.Denot} (λ a. g.A.Printable.prints a l.fn.context l.fn.state) prints_nothing (g.W.TextWriter.written l.out)
    (once_lines (l.section.marked + l.place) (attributes_in (drop l.place l.section.once.keys))) new →
    AddsTokens {A = g.row.A.Denot} {L = g.row.L.Denot} (λ a. g.A.Printable.prints a l.fn.context l.fn.state) prints_nothing (g.W.TextWriter.written l.fn.out)
    (once_lines l.section.marked (attributes_in l.section.once.keys)) new)
