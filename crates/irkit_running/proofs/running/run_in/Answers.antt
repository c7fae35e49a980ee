use Rattle.std.proofs.Common.{refl, string_bytes, subst}
use Rattle.irkit_streams.specs.Ends.{EndsWriting}
use Rattle.irkit_running.specs.Outcomes.{GivesText, RefusesRun, RunGives}
use Rattle.irkit_running.proofs.EndLemmas.{half_written, unwritten}
use Rattle.irkit_running.proofs.running.run_in.Goals as goal

pub returns-in_err-text : goal.returns-in_err-text
returns-in_err-text g c =
    let remaining = g.R.Read.remaining in
    let passes = c.args.passes.now in
    let refused = subst (GivesText remaining c.args.reader.now c.text_after.new.reader passes string_bytes) c.in_err-text.was c.text_after.ensures in
    unwritten remaining g.W.Write.contents c.args.reader.now c.text_after.new.reader c.args.writer.now c.args.writer.now
    (RefusesRun remaining c.args.reader.now c.text_after.new.reader passes) (RunGives passes) c.in_err-text.field-0.0
    c.from_residual.result c.from_residual.ensures.1 (λ b h. h) refused refl

pub returns-in_err-write_text : goal.returns-in_err-write_text
returns-in_err-write_text g c =
    let remaining = g.R.Read.remaining in
    let contents = g.W.Write.contents in
    let passes = c.args.passes.now in
    let ends = c.in_ok-text.ensures in
    let text = string_bytes c.in_ok-text.text in
    let written = subst (λ bytes. EndsWriting contents c.args.writer.now c.write_text.new.writer bytes c.write_text.result)
    c.as_bytes.ensures.value c.write_text.ensures in
    half_written remaining contents c.args.reader.now c.text_after.new.reader c.args.writer.now c.write_text.new.writer
    (RefusesRun remaining c.args.reader.now c.text_after.new.reader passes) (RunGives passes) ends.0 text
    c.write_text.result c.in_err-write_text.field-0.0 c.from_residual-in_err-write_text.result c.in_err-write_text.was
    written c.from_residual-in_err-write_text.ensures.1 ends.1 ends.2
