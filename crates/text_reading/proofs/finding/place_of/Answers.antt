use Rattle.std.proofs.Common.{ap, take, ◌∙◌, arith}
use Rattle.ir_characters.specs.Texts.{codes_of}
use Rattle.ir_tokens.specs.Tokens.{place}
use Rattle.text_reading.proofs.Places.{token_place, no_token_place}
use Rattle.text_reading.proofs.finding.place_of.Goals as goal

pub returns-then-token-tokens : goal.returns-then-token-tokens
returns-then-token-tokens c ts starts reads =
    c.place_after.ensures ∙ ap place (c.front.ensures ∙ ap (λ k. take k (codes_of c.args.source.chars)) c.at.ensures.number)
    ∙ token_place (codes_of c.args.source.chars) ts c.args.source.starts.now starts reads c.args.token (omega (arith, c.if-token-tokens.true, c.tokens.ensures))

pub returns-else-token-tokens : goal.returns-else-token-tokens
returns-else-token-tokens c ts starts reads =
    c.place_after-else-token-tokens.ensures
    ∙ no_token_place (codes_of c.args.source.chars) ts c.args.source.starts.now starts reads c.args.token (omega (arith, c.if-token-tokens.false, c.tokens.ensures))
