use Rattle.std.proofs.Common.{refl, subst}
use Rattle.irkit_running.specs.Outcomes.{Accepts, CheckGives, Refuses, ok_line}
use Rattle.irkit_refusals.specs.Texts.{Overfills}
use Rattle.irkit_running.proofs.EndLemmas.{half_written, unwritten}
use Rattle.irkit_driver.proofs.checking.check_in.Goals as goal

pub returns-in_err-accept : goal.returns-in_err-accept
returns-in_err-accept g c =
    let remaining = g.R.Read.remaining in
    let refused = subst (Accepts remaining c.args.reader.now c.accept.new.reader) c.in_err-accept.was c.accept.ensures in
    unwritten remaining g.W.Write.contents c.args.reader.now c.accept.new.reader c.args.writer.now c.args.writer.now
    (Refuses remaining c.args.reader.now c.accept.new.reader (Overfills 0)) CheckGives c.in_err-accept.field-0.0
    c.from_residual.result c.from_residual.ensures.1 (λ b h. h) refused refl

pub returns-in_err-write_text : goal.returns-in_err-write_text
returns-in_err-write_text g c =
    let remaining = g.R.Read.remaining in
    let ends = c.in_ok-accept.ensures in
    let given : CheckGives ends.0 ok_line = (ends.2, refl) in
    half_written remaining g.W.Write.contents c.args.reader.now c.accept.new.reader c.args.writer.now c.write_text.new.writer
    (Refuses remaining c.args.reader.now c.accept.new.reader (Overfills 0)) CheckGives ends.0 ok_line c.write_text.result
    c.in_err-write_text.field-0.0 c.from_residual-in_err-write_text.result c.in_err-write_text.was c.write_text.ensures
    c.from_residual-in_err-write_text.ensures.1 ends.1 given

pub returns : goal.returns
returns g c =
    let ends = c.in_ok-accept.ensures in
    let given : CheckGives ends.0 ok_line = (ends.2, refl) in (ends.0, ok_line, ends.1, given, c.in_ok-write_text.ensures)
