use Rattle.std.proofs.Common.{◌≡◌, ℕ, Some, slice_get, sym, ap, ◌∙◌, arith}
use Rattle.ir_scopes.specs.Scopes.{name_of}
use Rattle.ir_scopes.proofs.ScopeWalks.{copied_there, walk_more, named_here, within_more}
use Rattle.ir_scopes.proofs.scopes.Walk.step.Goals as goal

pub returns-clause-walk : goal.returns-clause-walk
returns-clause-walk c = λ all alike walk.
    let ss = c.args.sites.now in
    let w = c.args.self.now in
    let x : ℕ × ℕ = (c.in-Some.scope, c.in-Some.number) in
    let here : slice_get w.order.items w.passed ≡ Some x = ap (λ xs. slice_get xs w.passed) (sym c.deref.ensures.value) ∙ copied_there c.deref.result.now w.passed x c.get.result c.copied.result c.get.ensures.lookup.3 c.copied.ensures c.in-Some.is in
    let named = named_here all ss w.order.items w.passed w.latest.items w.again walk x here c.args.names.now alike in
    rw (c.pass.ensures.order, c.pass.ensures.passed, c.pass.ensures.latest)
    (walk_more all ss w.order.items w.passed w.latest.items w.again walk x here c.name_of.result c.token_at-token.result
    (c.name_of.ensures ∙ (ap (name_of c.args.names.now) c.token_at-token.ensures ∙ named)) c.token_at-token.ensures c.pass.new.self.again c.pass.ensures.again)

pub returns-clause-within : goal.returns-clause-within
returns-clause-within c = λ within.
    let w = c.args.self.now in
    let x : ℕ × ℕ = (c.in-Some.scope, c.in-Some.number) in
    let here : slice_get w.order.items w.passed ≡ Some x = ap (λ xs. slice_get xs w.passed) (sym c.deref.ensures.value) ∙ copied_there c.deref.result.now w.passed x c.get.result c.copied.result c.get.ensures.lookup.3 c.copied.ensures c.in-Some.is in
    rw (c.pass.ensures.order, c.pass.ensures.passed) (within_more w.order.items w.passed c.args.last x here (omega (arith, c.if-last-scope.false)) within)
