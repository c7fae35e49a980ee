use Rattle.std.proofs.Common.{sym}
use Rattle.text_streams.specs.Positions.{left}
use Rattle.text_locations.proofs.ReadingLemmas.{exit_none}
use Rattle.text_locations.proofs.TokenLemmas.{has_none, has_some, lies_behind_token}
use Rattle.text_locations.proofs.tokens.behind_token.Goals as goal

pub returns-in_err-behind : goal.returns-in_err-behind
returns-in_err-behind c = exit_none _ _ c.from_residual.result c.from_residual.ensures
    (has_none c.args.token c.text.result.now (left c.args.position) c.text.ensures c.in_err-behind.ensures)

pub returns-then-goes_on : goal.returns-then-goes_on
returns-then-goes_on c = has_some c.args.token c.text.result.now c.args.position c.in_ok-behind.behind _ c.text.ensures c.in_ok-behind.ensures (sym c.if-goes_on.ensures)

pub returns : goal.returns
returns c = (
  lies_behind_token c.args.token c.text.result.now c.args.position c.in_ok-behind.behind c.text.ensures c.in_ok-behind.ensures,
  has_some c.args.token c.text.result.now c.args.position c.in_ok-behind.behind _ c.text.ensures c.in_ok-behind.ensures (sym c.if-goes_on.ensures),
)
