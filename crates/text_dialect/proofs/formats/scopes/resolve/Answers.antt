use Rattle.std.proofs.Common.{MatchResult, subst, ap, ◌∙◌}
use Rattle.ir_scopes.specs.Scopes.{is_marked, IsResolved, IsScopeFault}
use Rattle.text_dialect.proofs.formats.scopes.resolve.Goals as goal

pub returns-clause-resolved : goal.returns-clause-resolved
returns-clause-resolved g c =
    let names = c.args.names in
    let events = c.args.events.now in
    let same = ap is_marked c.deref.ensures.value ∙ c.in_ok-isolated.ensures in
    subst (λ test. MatchResult c.look_up.result (IsResolved test names events) (IsScopeFault test names events)) same
    c.look_up.ensures.resolved
