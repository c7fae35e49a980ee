use Rattle.std.proofs.Common.{◌≡◌, ℕ, List, drop, true}
use Rattle.outline_tables.specs.Tables.{found_under}
use Rattle.text_sections.specs.Items.{attributes_in, members_beside, sharing}
use Rattle.text_sections.specs.Texts.{AddsTokens, members_from, prints_nothing}
use Rattle.text_sections.proofs.entries.print_members.Given as goal

-- with the members that are left all are printed
abbrev pub invariant-loop-member : goal.invariant-loop-member
invariant-loop-member g l =
    (l.state ≡ l.fn.state)
    × ((new : List ℕ) →
    AddsTokens {A = g.row.A.Denot} {L = g.row.L.Denot} (λ a. g.A.Printable.prints a l.fn.context l.fn.state) prints_nothing (g.W.TextWriter.written l.out)
    (members_from l.is_first (members_beside (sharing g.A.PrintOnce.is_once g.A.PartialEq.eq) l.section.marked (attributes_in l.section.once.keys) (found_under (drop l.member-index l.attributes)))) new →
    AddsTokens {A = g.row.A.Denot} {L = g.row.L.Denot} (λ a. g.A.Printable.prints a l.fn.context l.fn.state) prints_nothing (g.W.TextWriter.written l.fn.out)
    (members_from true (members_beside (sharing g.A.PrintOnce.is_once g.A.PartialEq.eq) l.section.marked (attributes_in l.section.once.keys) (found_under l.attributes))) new)
