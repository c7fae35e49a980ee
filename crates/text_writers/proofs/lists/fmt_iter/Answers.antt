use Rattle.std.proofs.Common.{◌∙◌, rules}
use Rattle.text_writers.proofs.PrintingLemmas.{printed_more}
use Rattle.text_writers.proofs.lists.fmt_iter.Goals as goal

pub loop-item-preserved : goal.loop-item-preserved
loop-item-preserved g c =
    let same = c.loop-item.invariant.2 in (
      search rules,
      search rules,
      c.in_ok-fmt.ensures.state ∙ same,
      printed_more (λ x s. g.T.Printable.prints x c.args.context.now s) c.args.state.now c.loop-item.state c.args.separator c.loop-item.yielded c.in-Some.item
          c.loop-item.is_first (g.W.TextWriter.written c.args.out.now) (g.W.TextWriter.written c.loop-item.out) _ _ c.loop-item.invariant.3
          c.in_ok-separate.ensures same c.in_ok-fmt.ensures.text,
    )
