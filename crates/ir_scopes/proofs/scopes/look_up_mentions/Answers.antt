use Rattle.std.proofs.Common.{refl, sym}
use Rattle.ir_scopes.specs.Scopes.{SitesAreApart}
use Rattle.ir_scopes.specs.Orders.{AreNamedAlike}
use Rattle.ir_scopes.proofs.Lacking.{lacking_moved}
use Rattle.ir_scopes.proofs.ScopeOrders.{moved_to, moved_from, still_own}
use Rattle.ir_scopes.proofs.ScopeWalks.{walked}
use Rattle.ir_scopes.proofs.scopes.look_up_mentions.Goals as goal

pub note_mentions-requires-clause-apart : goal.note_mentions-requires-clause-apart
note_mentions-requires-clause-apart c = still_own c.args.definitions.now c.args.mentions.now c.sort_by_scope.new.sites c.sort_by_scope.ensures.same c.requires

pub returns-clause-again : goal.returns-clause-again
returns-clause-again c =
    let names = c.args.places.now in
    let ds = c.args.definitions.now in
    let v = c.pass_through.new.self in
    let apart : SitesAreApart ds c.sort_by_scope.new.sites = still_own ds c.args.mentions.now c.sort_by_scope.new.sites c.sort_by_scope.ensures.same c.requires in
    let alike : AreNamedAlike names c.note_mentions.new.places ds
    = λ j s at. c.in_ok-lacking.ensures.kept s.token (λ i m has e. apart.both j i s m at has (sym e)) in
    walked names ds v.order.items v.passed v.latest.items v.again (c.pass_through.ensures.walk names alike c.in_ok-lacking.ensures.walk) (c.pass_through.ensures.all refl)

pub returns-clause-lacking : goal.returns-clause-lacking
returns-clause-lacking c = lacking_moved c.args.places.now c.args.definitions.now c.args.mentions.now c.sort_by_scope.new.sites c.sort_by_scope.ensures.same c.in_ok-lacking.lacking c.in_ok-lacking.ensures.lacking

pub returns-clause-noted : goal.returns-clause-noted
returns-clause-noted c = λ i j m at means within.
    let to = moved_to c.args.mentions.now c.sort_by_scope.new.sites c.sort_by_scope.ensures.same i m at in
    c.in_ok-lacking.ensures.noted to.0 j m to.1 means within

pub returns-clause-kept : goal.returns-clause-kept
returns-clause-kept c = λ k none. c.in_ok-lacking.ensures.kept k (λ i m at e.
    let from = moved_from c.args.mentions.now c.sort_by_scope.new.sites c.sort_by_scope.ensures.same i m at in
    none from.0 m from.1 e)
