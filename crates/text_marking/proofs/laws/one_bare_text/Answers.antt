use Rattle.text_marking.proofs.Steps.{one_bare}
use Rattle.text_marking.proofs.laws.one_bare_text.Goals as goal

pub returns : goal.returns
returns c = one_bare
