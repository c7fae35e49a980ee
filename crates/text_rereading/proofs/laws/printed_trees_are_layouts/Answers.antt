use Rattle.std.proofs.Common.{sym, subst}
use Rattle.ir_print.specs.Formats.{Formats}
use Rattle.text_rereading.specs.Rereading.{IsPrinted}
use Rattle.text_rereading.proofs.PrintAndRead.{stood_printed, printed_layout}
use Rattle.text_rereading.proofs.laws.printed_trees_are_layouts.Goals as goal

pub returns-clause-printed : goal.returns-clause-printed
returns-clause-printed g c = λ l formats s places numbering root tree stands small closed.
    stood_printed l g.D.TextDialect.says s root numbering tree places stands small closed

pub returns-clause-layouts : goal.returns-clause-layouts
returns-clause-layouts g c = λ l formats s places numbering root tree text stands small closed printed.
    let says = g.D.TextDialect.says in
    printed_layout l says s root numbering tree text places stands small closed
    (subst (λ (f : Formats). IsPrinted f says s root text) (sym formats) printed)
