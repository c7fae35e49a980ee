use Rattle.outlined_texts.proofs.Fronts.{one_split_lem}
use Rattle.outlined_texts.proofs.laws.one_split.Goals as goal

pub returns : goal.returns
returns c = one_split_lem
