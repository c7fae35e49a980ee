use Rattle.std.proofs.Common.{refl}
use Rattle.text_writers.specs.Printers.{calls}
use Rattle.text_writers.proofs.PrintingLemmas.{prints_by}
use Rattle.text_writers.proofs.functions.PrinterFnPrintable.fmt.Goals as goal

pub returns-clause-text : goal.returns-clause-text
returns-clause-text g c = prints_by g.W.TextWriter.written (calls g.F.Fn c.args.self.now.printer c.args.context.now)
    (c.requires.1 c.args.context.now) _ _ c.printer.result _ _ (_, refl, c.printer.ensures)

pub returns-clause-state : goal.returns-clause-state
returns-clause-state g c = (c.requires.1 c.args.context.now _ _ c.printer.result _ _ (_, refl, c.printer.ensures)).0
