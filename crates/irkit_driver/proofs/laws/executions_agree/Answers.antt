use Rattle.irkit_driver.proofs.AgreementLemmas.{longer_shows_more, one_outcome_each, one_refusal, same_anywhere}
use Rattle.irkit_driver.proofs.laws.executions_agree.Goals as goal

pub returns : goal.returns
returns c =
    let law = c.texts_have_one_program.ensures in
    let meets = c.paths_meet.ensures in
    let runs = c.runs_are_program_runs.ensures in record {
      refused = one_refusal law meets runs c.know_numbering.ensures.0 c.know_numbering.ensures.1;
      one = one_outcome_each law meets runs c.know_numbering.ensures.0 c.know_numbering.ensures.1;
      anywhere = same_anywhere law meets runs c.know_numbering.ensures.0 c.know_numbering.ensures.1;
      longer = longer_shows_more law meets runs c.know_numbering.ensures.0 c.know_numbering.ensures.1;
    }
