use Rattle.std.proofs.Common.{◌∙◌, refl, sym, subst, rules, Ok}
use Rattle.std.specs.Iterator.{IsFinite}
use Rattle.text_writers.specs.Printers.{item_calls, Prints}
use Rattle.text_writers.proofs.PrintingLemmas.{printed_none, printed_more, prints_by}
use Rattle.text_writers.proofs.lists.IterWithSepByPrintable.fmt.Goals as goal

pub loop-item-init : goal.loop-item-init
loop-item-init g c =
    let P : g.row.I.Denot → Type 0 = λ i. g.I.Iterator.can_next i × IsFinite (g.I.Iterator.remaining i) in
    let ready = subst P (sym c.into_iter-item-iterator.ensures.into_iter_gives) (c.requires.0 c.in_ok-item-items.item-items c.in_ok-item-items.ensures.cases) in
    (ready.0, ready.1, refl, printed_none _ _ _)

pub loop-item-preserved : goal.loop-item-preserved
loop-item-preserved g c =
    let same = c.loop-item.invariant.2 in
    let calls = item_calls g.F.Fn c.args.self.now.printer c.in-Some.item c.args.context.now in
    let only = c.requires.2 c.in-Some.item c.args.context.now in (
      search rules,
      search rules,
      (only _ _ c.printer.result _ _ (_, refl, c.printer.ensures)).0 ∙ same,
      printed_more (λ x s. Prints g.W.TextWriter.written (item_calls g.F.Fn c.args.self.now.printer x c.args.context.now) s) c.args.state.now c.loop-item.state
          c.args.self.now.separator c.loop-item.yielded c.in-Some.item
          c.loop-item.is_first (g.W.TextWriter.written c.args.out.now) (g.W.TextWriter.written c.loop-item.out) _ _ c.loop-item.invariant.3
          c.in_ok-separate.ensures same
          (prints_by g.W.TextWriter.written calls only _ _ (Ok c.in_ok-printer.field-0) _ _ (_, refl, c.in_ok-printer.ensures)),
    )

pub returns-in_err-printer-clause-state : goal.returns-in_err-printer-clause-state
returns-in_err-printer-clause-state g c =
    (c.requires.2 c.in-Some.item c.args.context.now _ _ c.printer.result _ _ (_, refl, c.printer.ensures)).0 ∙ c.loop-item.invariant.2
