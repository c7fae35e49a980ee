use Rattle.kit_verifier.proofs.RowLemmas.{format_is_row, own_key_is_row}
use Rattle.kit_verifier.proofs.rows.formats_are_rows.Goals as goal

pub returns-clause-formats : goal.returns-clause-formats
returns-clause-formats g c = λ w u kind fits. format_is_row w u kind fits

pub returns-clause-keys : goal.returns-clause-keys
returns-clause-keys g c = λ kind key. own_key_is_row kind key
