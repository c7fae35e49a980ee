use Rattle.std.proofs.Common.{◌≡◌, ℕ, List, drop}
use Rattle.printed_locations.specs.Printed.{AddsTokens}
use Rattle.printed_locations.proofs.TextLemmas.{left_of}
use Rattle.printed_locations.proofs.printing.+print_location.Given as goal

-- with the members that are left the whole list is printed
abbrev pub invariant-loop-member : goal.invariant-loop-member
invariant-loop-member g l =
    (l.state ≡ l.fn.state)
    × ((new : List ℕ) →
    AddsTokens (λ a. g.A.Printable.prints a l.fn.context l.fn.state) (g.W.TextWriter.written l.out)
    (left_of (λ a. g.A.Printable.prints a l.fn.context l.fn.state) l.is_first (drop l.member-index l.member-items)) new →
    AddsTokens (λ a. g.A.Printable.prints a l.fn.context l.fn.state) (g.W.TextWriter.written l.initial.out)
    (left_of (λ a. g.A.Printable.prints a l.fn.context l.fn.state) l.initial.is_first l.member-items) new)
