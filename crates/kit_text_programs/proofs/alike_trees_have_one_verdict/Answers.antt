use Rattle.kit_text_programs.proofs.Verdicts.{one_verdict}
use Rattle.kit_text_programs.proofs.alike_trees_have_one_verdict.Goals as goal

pub returns : goal.returns
returns c = λ s z values others t u own owns trees back handles again.
    one_verdict s z values others t u own owns trees back handles again
