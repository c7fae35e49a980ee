use Rattle.outline_values.proofs.Places.{lexeme_goes}
use Rattle.outline_values.proofs.tokens.token_at.Goals as goal

pub returns-in-Some-clause-goes : goal.returns-in-Some-clause-goes
returns-in-Some-clause-goes c = lexeme_goes c.args.at c.in-Some.token (rw c.in-Some.is at c.in_ok-token.ensures)
