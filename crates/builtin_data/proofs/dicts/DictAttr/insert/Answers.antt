use Rattle.std.proofs.Common.{arith}
use Rattle.std.proofs.lemmas.Map.Text.{text_keys}
use Rattle.builtin_data.proofs.dicts.DictAttr.insert.Goals as goal

pub returns-clause-set : goal.returns-clause-set
returns-clause-set g c = grind (arith, text_keys)
