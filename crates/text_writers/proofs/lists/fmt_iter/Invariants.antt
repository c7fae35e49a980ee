use Rattle.std.proofs.Common.{◌≡◌}
use Rattle.text_writers.proofs.PrintingLemmas.{HasPrinted}
use Rattle.text_writers.proofs.lists.fmt_iter.Given as goal

-- the items so far are printed
abbrev pub invariant-loop-item : goal.invariant-loop-item
invariant-loop-item g l =
    (goal.iterator-loop-item g).can_next l.item-iterator
    × (goal.iterator-loop-item g).is_finite l.item-iterator
    × (l.state ≡ l.fn.state)
    × HasPrinted (λ x. g.T.Printable.prints x l.fn.context l.fn.state) l.fn.separator l.yielded l.is_first
    (g.W.TextWriter.written l.fn.out) (g.W.TextWriter.written l.out)
