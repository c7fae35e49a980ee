use Rattle.std.proofs.Common.{sym, subst}
use Rattle.ir_print.specs.Formats.{Formats}
use Rattle.text_rereading.specs.Rereading.{IsPrinted}
use Rattle.text_rereading.proofs.PrintAndRead.{printed_bytes, printed_again}
use Rattle.text_rereading.proofs.laws.printed_modules_are_read_again.Goals as goal

pub returns-clause-bytes : goal.returns-clause-bytes
returns-clause-bytes g c = λ l can formats s places numbering root tree text stands small closed printed.
    let says = g.D.TextDialect.says in
    printed_bytes l says s root numbering tree text places stands small closed
    (subst (λ (f : Formats). IsPrinted f says s root text) (sym formats) printed) can

pub returns-clause-read : goal.returns-clause-read
returns-clause-read g c =
    λ l can formats grammar known s places numbering root tree text stands small closed numbered printed few.
    let says = g.D.TextDialect.says in
    printed_again l says s root numbering tree text places stands small closed
    (subst (λ (f : Formats). IsPrinted f says s root text) (sym formats) printed) can numbered grammar known few
