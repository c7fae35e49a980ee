use Rattle.std.proofs.lemmas.Result.{on_ok_weaker}
use Rattle.printed_locations.proofs.TextLemmas.{printed}
use Rattle.printed_locations.proofs.printing.LocationTextPrintable.fmt.Goals as goal

pub returns-clause-text : goal.returns-clause-text
returns-clause-text g c = on_ok_weaker c.print_location.result
    (λ e. printed (λ a. g.A.Printable.prints a c.args.context.now c.args.state.now) c.args.self.now.location.now
    (g.W.TextWriter.written c.args.out.now) (g.W.TextWriter.written c.print_location.new.out) e)
    c.print_location.ensures.text
