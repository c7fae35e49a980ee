use Rattle.std.proofs.Common.{◌≡◌, ◌∙◌, ◌+◌, ◌++◌, ◌∷◌, [], false, sym, subst, ap, List, take}
use Rattle.std.proofs.lemmas.List.{take_more}
use Rattle.text_writers.proofs.PrintingLemmas.{HasPrinted, printed_more}
use Rattle.text_writers.proofs.lists.ListWithSepPrintable.fmt.Goals as goal

pub loop-member-preserved : goal.loop-member-preserved
loop-member-preserved g c =
    let same = c.loop-member.invariant.0 in
    let x = c.member-item.result in
    let i = c.loop-member.member-index in
    let xs = c.args.self.now.members.now in
    let more : take (i + 1) xs ≡ take i xs ++ x ∷ [] = take_more xs i x c.loop-member-test.true ∙ ap (λ y. take i xs ++ y ∷ []) (sym c.member-item.is) in
    let P : List g.row.T.Denot → Type 0 = λ ys. HasPrinted (λ x. g.T.Printable.prints x c.args.context.now c.args.state.now) c.args.self.now.separator ys false
    (g.W.TextWriter.written c.args.out.now) (g.W.TextWriter.written c.fmt.new.out) in (
      c.in_ok-fmt.ensures.state ∙ same,
      subst P (sym more) (printed_more (λ x s. g.T.Printable.prints x c.args.context.now s) c.args.state.now c.loop-member.state
          c.args.self.now.separator (take i xs) x
          c.loop-member.is_first (g.W.TextWriter.written c.args.out.now) (g.W.TextWriter.written c.loop-member.out) _ _ c.loop-member.invariant.1
          c.in_ok-separate.ensures same c.in_ok-fmt.ensures.text),
    )
