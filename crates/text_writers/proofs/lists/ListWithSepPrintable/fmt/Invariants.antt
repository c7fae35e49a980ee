use Rattle.std.proofs.Common.{◌≡◌, take}
use Rattle.text_writers.proofs.PrintingLemmas.{HasPrinted}
use Rattle.text_writers.proofs.lists.ListWithSepPrintable.fmt.Given as goal

-- the members so far are printed
abbrev pub invariant-loop-member : goal.invariant-loop-member
invariant-loop-member g l =
    (l.state ≡ l.fn.state)
    × HasPrinted (λ x. g.T.Printable.prints x l.fn.context l.fn.state) l.fn.self.separator (take l.member-index l.fn.self.members.now) l.is_first
    (g.W.TextWriter.written l.fn.out) (g.W.TextWriter.written l.out)
