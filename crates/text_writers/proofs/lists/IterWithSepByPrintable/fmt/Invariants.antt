use Rattle.std.proofs.Common.{◌≡◌}
use Rattle.text_writers.specs.Printers.{Prints, item_calls}
use Rattle.text_writers.proofs.PrintingLemmas.{HasPrinted}
use Rattle.text_writers.proofs.lists.IterWithSepByPrintable.fmt.Given as goal

-- the items so far are printed
abbrev pub invariant-loop-item : goal.invariant-loop-item
invariant-loop-item g l =
    (goal.iterator-loop-item g).can_next l.item-iterator
    × (goal.iterator-loop-item g).is_finite l.item-iterator
    × (l.state ≡ l.fn.state)
    × HasPrinted (λ x. Prints g.W.TextWriter.written (item_calls g.F.Fn l.fn.self.printer x l.fn.context) l.fn.state) l.fn.self.separator l.yielded l.is_first
    (g.W.TextWriter.written l.fn.out) (g.W.TextWriter.written l.out)
