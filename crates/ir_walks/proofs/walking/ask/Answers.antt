use Rattle.std.proofs.Common.{sym, refl, ◌∙◌, subst}
use Rattle.std.specs.declared.ops.ControlFlow.TheVariants.{Continue}
use Rattle.ir_walks.specs.declared.results.WalkContinue.TheVariants.{Advance}
use Rattle.ir_walks.specs.Calls.{IsAsked}
use Rattle.ir_walks.proofs.walking.ask.Goals as goal

pub returns-in-Some : goal.returns-in-Some
returns-in-Some g c = subst (λ o. IsAsked g.F.FnMut c.args.ctx.now o (Continue Advance) c.args.callback.now c.args.state.now c.call.result c.call.new.callback c.call.new.state)
    (sym c.in-Some.is ∙ c.called_at.ensures) c.call.ensures

pub returns-in-None : goal.returns-in-None
returns-in-None g c = subst (λ o. IsAsked g.F.FnMut c.args.ctx.now o (Continue Advance) c.args.callback.now c.args.state.now c.walk_advance.result c.args.callback.now c.args.state.now)
    (sym c.in-None.is ∙ c.called_at.ensures) (c.walk_advance.ensures, refl, refl)
