use Rattle.std.proofs.Common.{◌≡◌, ◌∙◌, sym, ap, subst, List, ℕ, None}
use Rattle.std.specs.Prelude.{codes}
use Rattle.std.specs.Option.{MatchOption}
use Rattle.text_streams.specs.Positions.{left, LiesBehind}
use Rattle.text_locations.specs.Tokens.{goes_on, behind_text}
use Rattle.text_locations.proofs.TokenLemmas.{begins_at, rest_chars}
use Rattle.text_locations.proofs.tokens.Token.goes_on.Goals as goal

pub returns-in-Less : goal.returns-in-Less
returns-in-Less c =
    let P : List ℕ → Type 0 = λ ts. MatchOption c.behind_text.result (behind_text ts (left c.args.behind) ≡ None) (λ to. LiesBehind c.args.behind to ts) in
    c.is_some.ensures
    ∙ begins_at (codes "in-memory>") c.args.behind c.behind_text.result (subst P rest_chars c.behind_text.ensures)
    ∙ sym (ap (λ token. goes_on token (left c.args.behind)) c.in-Less.is)
