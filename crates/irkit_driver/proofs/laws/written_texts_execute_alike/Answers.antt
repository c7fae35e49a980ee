use Rattle.irkit_driver.proofs.AgreementLemmas.{one_pass_executes_alike, written_execute_alike, written_refuse_alike}
use Rattle.irkit_driver.proofs.laws.written_texts_execute_alike.Goals as goal

pub returns : goal.returns
returns c =
    let law = c.texts_have_one_program.ensures in
    let meets = c.paths_meet.ensures in
    let runs = c.runs_are_program_runs.ensures in record {
      refused = written_refuse_alike law meets runs c.know_numbering.ensures.0 c.know_numbering.ensures.1;
      alike = written_execute_alike law meets runs c.know_numbering.ensures.0 c.know_numbering.ensures.1;
      bound = one_pass_executes_alike law meets runs c.know_numbering.ensures.0 c.know_numbering.ensures.1;
    }
